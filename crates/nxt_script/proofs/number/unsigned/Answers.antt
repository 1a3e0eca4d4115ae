use Rattle.std.proofs.Common.{◌≡◌, ℕ, ◌<◌, ◌≤◌, ◌^◌, List, length, Some, pos, sym, ap, ◌∙◌, true, arith}
use Rattle.std.specs.Str.{all_ascii_digits}
use Rattle.std.specs.Str.Parse.{digits_value, digits_value_after}
use Rattle.std.proofs.Math.Nat.{pow-le-pow_right}
use Rattle.std.proofs.lemmas.Int.{ints}
use Rattle.std.proofs.lemmas.List.{at_drop_all}
use Rattle.std.proofs.lemmas.Bool.Decides.{nat_tests}
use Rattle.nxt_script.specs.RowForms.{unsigned_number}
use Rattle.nxt_script.proofs.number.unsigned.Goals as goal
use mir.Syntax.{w64}
use mir.Val.{to_z}

all_digits : (ds : List ℕ) → 0 < length ds → length ds ≤ 10 → all_ascii_digits ds ≡ true → Some (pos (digits_value 10 ds)) ≡ unsigned_number ds
all_digits ds some few all = grind (arith, nat_tests)

fits : (v i : ℕ) → i ≤ 10 → v < 10 ^ i → to_z w64 v ≡ pos v
fits v i few small =
    let power : 10 ^ i ≤ 10 ^ 10 = pow-le-pow_right (omega arith) few in
    omega (arith, ints)

pub returns : goal.returns
returns c =
    let ds = c.args.digits.now in
    let v = c.loop-digit.value in
    let i = c.loop-digit.digit-index in
    let done : length ds ≤ i = omega arith in
    let whole : all_ascii_digits ds ≡ true = sym c.loop-digit.invariant.all ∙ at_drop_all all_ascii_digits ds i done in
    let same : v ≡ digits_value 10 ds = sym (at_drop_all (digits_value_after 10 v) ds i done) ∙ c.loop-digit.invariant.value in
    ap (λ z. Some z) (fits v i (omega arith) c.loop-digit.invariant.small ∙ ap (λ n. pos n) same)
    ∙ all_digits ds (grind (arith, nat_tests)) (omega arith) whole
