-- Sums over the numbers below another.
use Rattle.std.proofs.Common.{◌≡◌, ℕ, zero, suc, ◌+◌, ◌*◌, ◌<◌, ◌≤◌, Bool, true, false, cond, ◌||◌, ◌==◌, List, [], ◌∷◌, length, inl, inr, refl, sym, ap, ◌∙◌, arith, ltb-true, eq-eqb, ne_eqb}
use Rattle.std.specs.List.{list_any}
use Rattle.std.proofs.lemmas.Bool.{cases_eq, cases_order}
use Rattle.nxt_facts.specs.Sums.{sum_below}
use Rattle.nxt_facts.proofs.Each.{Each}
use Rattle.nxt_facts.proofs.Sums.{total, total_one, bit, tally, is_it, any_is}

pub sums_same : (v w : ℕ → ℕ) (n : ℕ) → ((r : ℕ) → r < n → v r ≡ w r) → sum_below v n ≡ sum_below w n
sums_same v w zero h = refl
sums_same v w (suc n) h = omega (arith, sums_same v w n (λ r less. h r (omega (arith, less))), h n (omega arith))

below_two : (v w : ℕ → ℕ) (n : ℕ) → sum_below (λ r. v r + w r) n ≡ sum_below v n + sum_below w n
below_two v w zero = refl
below_two v w (suc n) = omega (arith, below_two v w n)

below_none : (v : ℕ → ℕ) (n : ℕ) → ((r : ℕ) → r < n → v r ≡ 0) → sum_below v n ≡ 0
below_none v zero h = refl
below_none v (suc n) h = omega (arith, below_none v n (λ r less. h r (omega (arith, less))), h n (omega arith))

pub below_twice : (v : ℕ → ℕ) (n : ℕ) → ((r : ℕ) → v r ≤ 2) → sum_below v n ≤ 2 * n
below_twice v zero h = omega arith
below_twice v (suc n) h = omega (arith, h n, below_twice v n h)

-- ---- one number

abbrev pub only : (ℕ → ℕ) → ℕ → ℕ → ℕ
only w x r = cond (x == r) (w r) 0

below_other : (x n : ℕ) → x < suc n → (x ≡ n → ⊥) → x < n
below_other x n h other =
    elim (cases_order x n) [
      | inl e ↦ absurd (other e)
      | inr w ↦ elim w [
        | inl less ↦ less
        | inr more ↦ let f : ⊥ = omega (arith, h, more) in absurd f
      ]
    ]

one_below : (w : ℕ → ℕ) (x n : ℕ) → x < n → sum_below (only w x) n ≡ w x
one_below w x zero h = let f : ⊥ = omega (arith, h) in absurd f
one_below w x (suc n) h =
    elim (cases_eq x n) [
      | inl e ↦ omega (
        arith,
        below_none (only w x) n (λ r less. ap (λ b. cond b (w r) 0) (ne_eqb x r (λ same. omega (arith, e, same, less)))),
        ap (λ b. cond b (w n) 0) (eq-eqb x n e),
        ap w e,
      )
      | inr other ↦ omega (
        arith,
        one_below w x n (below_other x n h other),
        ap (λ b. cond b (w n) 0) (ne_eqb x n other),
      )
    ]

-- ---- numbers below n, one by one

pub total_below : (w : ℕ → ℕ) (n : ℕ) (xs : List ℕ) → Each (λ x. x < n) xs → total w xs ≡ sum_below (λ r. total (λ x. only w x r) xs) n
total_below w n [] less = sym (below_none (λ r. 0) n (λ r h. refl))
total_below w n (x ∷ xs) less =
    omega (
      arith,
      below_two (only w x) (λ r. total (λ y. only w y r) xs) n,
      one_below w x n less.0,
      total_below w n xs less.1,
    )

-- how many there are
pub counted_below : (n : ℕ) (xs : List ℕ) → Each (λ x. x < n) xs → length xs ≡ sum_below (λ r. tally (is_it r) xs) n
counted_below n xs less = sym (total_one xs) ∙ total_below (λ r. 1) n xs less

parted : (a b : Bool) (k n : ℕ) → bit a + n ≤ 1 → (b ≡ true → 0 < n) → cond (a || b) k 0 ≡ cond a k 0 + cond b k 0
parted true true k n h some = let f : ⊥ = omega (arith, h, some refl) in absurd f
parted true false k n h some = omega arith
parted false true k n h some = omega arith
parted false false k n h some = refl

one_counts : (k r : ℕ) (xs : List ℕ) → tally (is_it r) xs ≤ 1 → total (λ x. cond (x == r) k 0) xs ≡ cond (list_any (is_it r) xs) k 0
one_counts k r [] once = refl
one_counts k r (x ∷ xs) once =
    let more = parted (x == r) (list_any (is_it r) xs) k (tally (is_it r) xs) once (λ any. ltb-true 0 (tally (is_it r) xs) (sym (any_is (is_it r) xs) ∙ any)) in
    omega (arith, one_counts k r xs (omega (arith, once)), more)

-- their sum, where they stand once each
pub once_below : (w : ℕ → ℕ) (n : ℕ) (xs : List ℕ) → ((r : ℕ) → tally (is_it r) xs ≤ 1) → Each (λ x. x < n) xs → total w xs ≡ sum_below (λ r. cond (list_any (is_it r) xs) (w r) 0) n
once_below w n xs once less =
    total_below w n xs less
    ∙ sums_same
    (λ r. total (λ x. only w x r) xs)
    (λ r. cond (list_any (is_it r) xs) (w r) 0)
    n
    (λ r h. one_counts (w r) r xs (once r))
