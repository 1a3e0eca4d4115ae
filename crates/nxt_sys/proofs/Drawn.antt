-- The bytes of a text that are shown.
use Rattle.std.proofs.Common.{◌≡◌, ℕ, zero, suc, Bool, true, false, cond, List, [], ◌∷◌, take, refl, sym, ap, ◌∙◌}
use Rattle.std.specs.List.{take_while}
use Rattle.std.proofs.lemmas.List.Sums.{take_while-cons}

by_first : (b : Bool) (p : ℕ → Bool) (n x : ℕ) (xs : List ℕ) → take_while p (take n xs) ≡ take n (take_while p xs) → cond b (x ∷ take_while p (take n xs)) [] ≡ take (suc n) (cond b (x ∷ take_while p xs) [])
by_first true p n x xs e = ap (λ ys. x ∷ ys) e
by_first false p n x xs e = refl

-- the front of what passes is what passes of the front
pub passes_in_front : (p : ℕ → Bool) (n : ℕ) (xs : List ℕ) → take_while p (take n xs) ≡ take n (take_while p xs)
passes_in_front p zero xs = refl
passes_in_front p (suc n) [] = refl
passes_in_front p (suc n) (x ∷ xs) =
    take_while-cons p x (take n xs)
    ∙ by_first (p x) p n x xs (passes_in_front p n xs)
    ∙ sym (ap (take (suc n)) (take_while-cons p x xs))
