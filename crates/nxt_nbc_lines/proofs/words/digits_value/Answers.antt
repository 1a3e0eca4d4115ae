use Rattle.std.proofs.Common.{◌+◌, ◌<◌, drop, length, get_or, ap, ◌∙◌, sym, arith}
use Rattle.std.specs.Prelude.{min}
use Rattle.std.specs.Str.Parse.{digits_value_after}
use Rattle.std.proofs.lemmas.List.{drop_more}
use Rattle.nxt_nbc_lines.specs.Held.{most_held}
use Rattle.nxt_nbc_lines.proofs.HeldDigits.{held_more}
use Rattle.nxt_nbc_lines.proofs.words.digits_value.Goals as goal

pub loop-digit-preserved : goal.loop-digit-preserved
loop-digit-preserved c =
    let ds = c.args.digits.now in
    let i = c.loop-digit.digit-index in
    let r = c.args.radix in
    let lt : i < length ds = omega arith in
    record {
      value = held_more r c.loop-digit.value (get_or ds i 0) (drop (i + 1) ds) c.requires c.from.result c.saturating_mul.result c.saturating_add.result c.min-value.result
          (c.from.ensures ∙ c.digit_value.ensures.value) (omega arith) c.saturating_mul.ensures c.saturating_add.ensures c.min-value.ensures
          ∙ ap (λ l. min (digits_value_after r c.loop-digit.value l) most_held) (sym (drop_more ds i 0 lt)) ∙ c.loop-digit.invariant.value;
      few = omega arith;
    }
