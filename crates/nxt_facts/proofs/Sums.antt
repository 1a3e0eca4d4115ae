-- Sums over a list, and counts of its elements.
use Rattle.std.proofs.Common.{◌≡◌, ℕ, ◌+◌, ◌==◌, Bool, true, false, cond, ◌||◌, nat_lt, List, [], ◌∷◌, ◌++◌, map, flat_map, sum_by, count_by, length, refl, sym, ap, ◌∙◌, arith, lt-ltb}
use Rattle.std.specs.List.{list_any}
use Rattle.std.proofs.lemmas.List.Sums.{sum_by-cons}
use Rattle.nxt_facts.proofs.Each.{Each, each_from}

-- ---- sums

abbrev pub total : {X : Type 0} → (X → ℕ) → List X → ℕ
total w [] = 0
total w (x ∷ xs) = w x + total w xs

pub total_is : {X : Type 0} (w : X → ℕ) (xs : List X) → sum_by w xs ≡ total w xs
total_is w [] = refl
total_is w (x ∷ xs) = sum_by-cons w x xs ∙ ap (λ n. w x + n) (total_is w xs)

pub total-append : {X : Type 0} (w : X → ℕ) (xs ys : List X) → total w (xs ++ ys) ≡ total w xs + total w ys
total-append w [] ys = omega arith
total-append w (x ∷ xs) ys = omega (arith, total-append w xs ys)

pub total-map : {X Y : Type 0} (w : Y → ℕ) (f : X → Y) (xs : List X) → total w (map f xs) ≡ total (λ x. w (f x)) xs
total-map w f [] = refl
total-map w f (x ∷ xs) = ap (λ n. w (f x) + n) (total-map w f xs)

pub total_flat : {X Y : Type 0} (w : Y → ℕ) (f : X → List Y) (xs : List X) → total w (flat_map f xs) ≡ total (λ x. total w (f x)) xs
total_flat w f [] = refl
total_flat w f (x ∷ xs) = omega (arith, total-append w (f x) (flat_map f xs), total_flat w f xs)

pub total_two : {X Y : Type 0} (w : Y → ℕ) (f h : X → List Y) (xs : List X) → total w (flat_map (λ x. f x ++ h x) xs) ≡ total w (flat_map f xs) + total w (flat_map h xs)
total_two w f h [] = refl
total_two w f h (x ∷ xs) =
    omega (
      arith,
      total-append w (f x ++ h x) (flat_map (λ x. f x ++ h x) xs),
      total-append w (f x) (h x),
      total-append w (f x) (flat_map f xs),
      total-append w (h x) (flat_map h xs),
      total_two w f h xs,
    )

pub total_none : {X Y : Type 0} (w : Y → ℕ) (xs : List X) → total w (flat_map (λ x. []) xs) ≡ 0
total_none w [] = refl
total_none w (x ∷ xs) = total_none w xs

pub total_one : {X : Type 0} (xs : List X) → total (λ x. 1) xs ≡ length xs
total_one [] = refl
total_one (x ∷ xs) = omega (arith, total_one xs)

pub total_same : {X : Type 0} (v w : X → ℕ) (xs : List X) → Each (λ x. v x ≡ w x) xs → total v xs ≡ total w xs
total_same v w [] e = refl
total_same v w (x ∷ xs) e = omega (arith, e.0, total_same v w xs e.1)

pub total_every : {X : Type 0} (v w : X → ℕ) → ((x : X) → v x ≡ w x) → (xs : List X) → total v xs ≡ total w xs
total_every v w h xs = total_same v w xs (each_from (λ x. v x ≡ w x) h xs)

-- ---- counts

abbrev pub bit : Bool → ℕ
bit b = cond b 1 0

-- how many pass the test
abbrev pub tally : {X : Type 0} → (X → Bool) → List X → ℕ
tally p xs = total (λ x. bit (p x)) xs

abbrev pub is_it : ℕ → ℕ → Bool
is_it r q = q == r

pub tally_is : {X : Type 0} (p : X → Bool) (xs : List X) → count_by p xs ≡ tally p xs
tally_is p xs = total_is (λ x. bit (p x)) xs

pub tally-append : {X : Type 0} (p : X → Bool) (xs ys : List X) → tally p (xs ++ ys) ≡ tally p xs + tally p ys
tally-append p xs ys = total-append (λ x. bit (p x)) xs ys

any_step : (b more : Bool) (n : ℕ) → more ≡ nat_lt 0 n → (b || more) ≡ nat_lt 0 (bit b + n)
any_step true more n e = sym (lt-ltb 0 (1 + n) (omega arith))
any_step false more n e = let same : n ≡ 0 + n = omega arith in e ∙ ap (nat_lt 0) same

pub any_is : {X : Type 0} (p : X → Bool) (xs : List X) → list_any p xs ≡ nat_lt 0 (tally p xs)
any_is p [] = refl
any_is p (x ∷ xs) = any_step (p x) (list_any p xs) (tally p xs) (any_is p xs)
