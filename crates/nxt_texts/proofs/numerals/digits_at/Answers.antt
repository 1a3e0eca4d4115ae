-- A digit more.
use Rattle.std.proofs.Common.{◌≡◌, true, get_or, sym, ◌∙◌, arith}
use Rattle.std.proofs.lemmas.List.Sums.{prefix_len-drop_yes}
use Rattle.nxt_model.specs.Means.Text.{is_digit}
use Rattle.nxt_texts.proofs.Digits.{digit_more}
use Rattle.nxt_texts.proofs.numerals.digits_at.Goals as goal

pub loop-k-preserved : goal.loop-k-preserved
loop-k-preserved c =
    let text = c.args.text.now in
    let k = c.loop-k.k in
    let digit : is_digit (get_or text k 0) ≡ true = sym c.is_ascii_digit.ensures.value ∙ c.if-not-is_ascii_digit.false in
    record {
      count = omega (arith, prefix_len-drop_yes is_digit text k 0 c.loop-k-test.true digit);
      word = digit_more text k c.loop-k.word c.from.result c.loop-k-test.true digit c.from.ensures ∙ c.loop-k.invariant.word;
    }
