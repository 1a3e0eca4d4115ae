-- The text of a number is short.
use Rattle.std.proofs.Common.{◌≡◌, ◌+◌, ◌≤◌, length, ap, ◌∙◌, subst, arith, w64, to_z-of_z}
use Rattle.std.specs.Fmt.{signed_decimal}
use Rattle.std.proofs.lemmas.Fmt.{length_signed_le}
use Rattle.nxt_model.specs.Means.Text.{ended}
use Rattle.nxt_texts.specs.Texts.{StoresBytes}
use Rattle.nxt_texts.proofs.Digits.{text_of_number}
use Rattle.nxt_texts.proofs.numerals.number_to_string.Goals as goal

pub store_text-requires-clause-few : goal.store_text-requires-clause-few
store_text-requires-clause-few c =
    let z = c.get.result in
    let same = to_z-of_z {w = w64} {z = z} (record { sfits = c.get.type_inv }) in
    let short : length (signed_decimal z) ≤ 20 + 1 = length_signed_le 20 z (omega (arith, c.get.type_inv)) c.get.type_inv in
    let long : length c.as_bytes.result.now ≡ length (signed_decimal z) = ap length (c.as_bytes.ensures.value ∙ c.in_ok-digits.ensures ∙ ap signed_decimal same) in
    omega (arith, short, long)

pub returns-clause-does : goal.returns-clause-does
returns-clause-does c =
    let same = to_z-of_z {w = w64} {z = c.get.result} (record { sfits = c.get.type_inv }) ∙ c.get.ensures in
    subst
    (λ bs. StoresBytes c.args.space.now c.args.dest (ended bs) c.store_text.result c.store_text.new.space)
    (c.as_bytes.ensures.value ∙ c.in_ok-digits.ensures ∙ ap signed_decimal same ∙ text_of_number _)
    c.store_text.ensures.stores
