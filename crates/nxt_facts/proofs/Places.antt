-- Places one behind another.
use Rattle.std.proofs.Common.{◌≡◌, ℕ, zero, suc, ◌+◌, ◌*◌, ◌<◌, [], ◌∷◌, ◌++◌, length, refl, ap, subst, ◌∙◌, arith, suc-mul}
use Rattle.nxt_facts.specs.Places.{places_from}
use Rattle.nxt_facts.proofs.Each.{Each}

pub length-places : (at stride n : ℕ) → length (places_from at stride n) ≡ n
length-places at stride zero = refl
length-places at stride (suc n) = omega (arith, length-places (at + stride) stride n)

places_step : (at stride k : ℕ) → places_from at stride (suc k) ≡ places_from at stride k ++ (at + k * stride) ∷ []
places_step at stride zero = let e : at ≡ at + 0 * stride = omega arith in ap (λ x. x ∷ []) e
places_step at stride (suc k) =
    let e : (at + stride) + k * stride ≡ at + suc k * stride = omega (arith, suc-mul k stride) in
    ap (λ ps. at ∷ ps) (places_step (at + stride) stride k ∙ ap (λ x. places_from (at + stride) stride k ++ x ∷ []) e)

-- one more
pub places_more : (stride k : ℕ) → places_from 0 stride (k + 1) ≡ places_from 0 stride k ++ (k * stride) ∷ []
places_more stride k =
    let e : k + 1 ≡ suc k = omega arith in
    let f : 0 + k * stride ≡ k * stride = omega arith in
    ap (places_from 0 stride) e ∙ places_step 0 stride k ∙ ap (λ x. places_from 0 stride k ++ x ∷ []) f

-- what holds at all of them holds at the k-th
pub each_place : (P : ℕ → Type 0) (at stride n k : ℕ) → Each P (places_from at stride n) → k < n → P (at + k * stride)
each_place P at stride zero k e h = absurd (omega (arith, h))
each_place P at stride (suc n) zero e h = let same : at ≡ at + 0 * stride = omega arith in subst P same e.0
each_place P at stride (suc n) (suc k) e h =
    let same : (at + stride) + k * stride ≡ at + suc k * stride = omega (arith, suc-mul k stride) in
    subst P same (each_place P (at + stride) stride n k e.1 (omega (arith, h)))
