use Rattle.std.proofs.Common.{◌≡◌, ◌≤◌, drop}
use Rattle.std.specs.Prelude.{min}
use Rattle.std.specs.Str.Parse.{digits_value, digits_value_after}
use Rattle.nxt_nbc_lines.specs.Held.{most_held}
use Rattle.nxt_nbc_lines.proofs.words.digits_value.Given as goal

-- what is held so far goes on to what is held of all digits
abbrev pub invariant-loop-digit : goal.invariant-loop-digit
invariant-loop-digit l = record {
  value : min (digits_value_after l.radix l.value (drop l.digit-index l.digits)) most_held ≡ min (digits_value l.radix l.digits) most_held;
  few : l.value ≤ most_held;
}
