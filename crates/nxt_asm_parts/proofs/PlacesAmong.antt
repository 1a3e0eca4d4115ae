-- The place of an item among others.
use Rattle.std.proofs.Common.{◌≡◌, ℕ, ◌+◌, Bool, true, false, not, cond, nat_lt, List, [], ◌∷◌, length, position, Some, None, refl, arith}
use Rattle.std.specs.Prelude.{if◌then◌else◌}
use Rattle.std.specs.List.{position_or_len}
use Rattle.std.specs.Option.{unwrap_or}
use Rattle.std.proofs.lemmas.Bool.{ltb-false}
use Rattle.std.proofs.lemmas.List.Sums.{prefix_len-le-length}
use Rattle.nxt_model.specs.Assembled.{place_among}

-- it is the first that the test finds
pub place_found : {X : Type 0} (same : X → X → Bool) (x : X) (xs : List X) → position_or_len (same x) xs ≡ place_among same x xs
place_found same x [] = refl
place_found same x (y ∷ ys) = by (same x y) (place_found same x ys)
  where
    by : (b : Bool) {m n : ℕ} → m ≡ n → cond (not b) (1 + m) 0 ≡ (if b then 0 else n + 1)
    by true e = refl
    by false e = omega (arith, e)

-- a place that is found, or else the number of items
pub or_count : {X : Type 0} (p : X → Bool) (xs : List X) → unwrap_or (position p xs) (length xs) ≡ position_or_len p xs
or_count p xs = by (nat_lt (position_or_len p xs) (length xs)) refl
  where
    by : (b : Bool) → nat_lt (position_or_len p xs) (length xs) ≡ b → unwrap_or (cond b (Some (position_or_len p xs)) None) (length xs) ≡ position_or_len p xs
    by true e = refl
    by false e =
        let most = prefix_len-le-length (λ x. not (p x)) xs in
        let least = ltb-false (position_or_len p xs) (length xs) e in
        omega (arith, most, least)
