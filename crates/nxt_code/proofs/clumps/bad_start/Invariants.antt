-- No clump before i starts badly.
use Rattle.std.proofs.Common.{◌≡◌, ◌<◌, ℕ, false}
use Rattle.nxt_code.specs.CodeRules.{is_bad_start}
use Rattle.nxt_code.proofs.clumps.bad_start.Given as goal

abbrev pub invariant-loop-i : goal.invariant-loop-i
invariant-loop-i l = (c : ℕ) → c < l.i → is_bad_start l.words l.clumps c ≡ false
