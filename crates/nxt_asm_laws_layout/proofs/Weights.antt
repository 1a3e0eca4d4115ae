-- Sums of the sizes that pass a test.
use Rattle.std.proofs.Common.{◌≡◌, ℕ, ◌+◌, ◌<◌, ◌≤◌, Bool, true, false, cond, ◌==◌, nat_lt, List, [], ◌∷◌, ◌++◌, filter, sum, refl, ap, ◌∙◌, arith}
use Rattle.std.proofs.lemmas.Bool.Decides.{nat_tests}
use Rattle.std.proofs.lemmas.List.Sums.{sum_by-cons}
use Rattle.nxt_facts.proofs.Sums.{total, total-append}
use Rattle.nxt_model.specs.Assembled.{bytes_where}

-- what a size adds
abbrev pub weigh : (ℕ → Bool) → ℕ → ℕ
weigh test n = cond (test n) n 0

abbrev pub weight : (ℕ → Bool) → List ℕ → ℕ
weight test ns = total (weigh test) ns

one_more : (n : ℕ) (ns : List ℕ) (b : Bool) (w : ℕ) → sum ns ≡ w → sum (cond b (n ∷ ns) ns) ≡ cond b n 0 + w
one_more n ns true w e = sum_by-cons (λ (x : ℕ). x) n ns ∙ ap (λ k. n + k) e
one_more n ns false w e = let same : w ≡ 0 + w = omega arith in e ∙ same

pub bytes_weighed : (test : ℕ → Bool) (ns : List ℕ) → bytes_where test ns ≡ weight test ns
bytes_weighed test [] = refl
bytes_weighed test (n ∷ ns) = one_more n (filter test ns) (test n) (weight test ns) (bytes_weighed test ns)

-- what holds of each size holds of the sums
pub total_below : {X : Type 0} (v w : X → ℕ) → ((x : X) → v x ≤ w x) → (xs : List X) → total v xs ≤ total w xs
total_below v w h [] = omega arith
total_below v w h (x ∷ xs) = omega (arith, h x, total_below v w h xs)

pub totals_below : {X : Type 0} (u v w : X → ℕ) → ((x : X) → u x + v x ≤ w x) → (xs : List X) → total u xs + total v xs ≤ total w xs
totals_below u v w h [] = omega arith
totals_below u v w h (x ∷ xs) = omega (arith, h x, totals_below u v w h xs)

abbrev pub larger : ℕ → ℕ → Bool
larger n m = nat_lt n m

abbrev pub equal : ℕ → ℕ → Bool
equal n m = m == n

both_pass : (n m x : ℕ) → n < m → weigh (larger m) x + weigh (equal m) x ≤ weigh (larger n) x
both_pass n m x less = by (nat_lt m x) refl (x == m) refl (nat_lt n x) refl
  where
    by : (a : Bool) → nat_lt m x ≡ a → (b : Bool) → (x == m) ≡ b → (c : Bool) → nat_lt n x ≡ c → cond a x 0 + cond b x 0 ≤ cond c x 0
    by true p true q c r = let f : ⊥ = grind (arith, nat_tests) in absurd f
    by true p false q true r = omega arith
    by true p false q false r = let f : ⊥ = grind (arith, nat_tests) in absurd f
    by false p true q true r = omega arith
    by false p true q false r = let f : ⊥ = grind (arith, nat_tests) in absurd f
    by false p false q c r = omega arith

-- larger sizes, and those of one size, are larger than a lesser one
pub larger_hold : (n m : ℕ) (xs : List ℕ) → n < m → weight (larger m) xs + weight (equal m) xs ≤ weight (larger n) xs
larger_hold n m xs less = totals_below (weigh (larger m)) (weigh (equal m)) (weigh (larger n)) (λ x. both_pass n m x less) xs

any_passes : (n x : ℕ) → weigh (larger n) x + weigh (equal n) x ≤ x
any_passes n x = by (nat_lt n x) refl (x == n) refl
  where
    by : (a : Bool) → nat_lt n x ≡ a → (b : Bool) → (x == n) ≡ b → cond a x 0 + cond b x 0 ≤ x
    by true p true q = let f : ⊥ = grind (arith, nat_tests) in absurd f
    by true p false q = omega arith
    by false p true q = omega arith
    by false p false q = omega arith

pub all_hold : (n : ℕ) (xs : List ℕ) → weight (larger n) xs + weight (equal n) xs ≤ total (λ (x : ℕ). x) xs
all_hold n xs = totals_below (weigh (larger n)) (weigh (equal n)) (λ x. x) (any_passes n) xs

own_weight : (n : ℕ) → weigh (equal n) n ≡ n
own_weight n = let t : (n == n) ≡ true = grind (arith, nat_tests) in ap (λ b. cond b n 0) t

-- one size more
pub weight_push : (n : ℕ) (xs : List ℕ) → weight (equal n) (xs ++ n ∷ []) ≡ weight (equal n) xs + n
weight_push n xs = omega (arith, total-append (weigh (equal n)) xs (n ∷ []), own_weight n)

pub weight_grows : (test : ℕ → Bool) (xs ys : List ℕ) → weight test xs ≤ weight test (xs ++ ys)
weight_grows test xs ys = omega (arith, total-append (weigh test) xs ys)

-- the sizes before one, and that one, are no more than all
pub weight_within : (n : ℕ) (all before ns : List ℕ) → all ≡ before ++ n ∷ ns → weight (equal n) before + n ≤ weight (equal n) all
weight_within n all before ns whole =
    omega (arith, ap (weight (equal n)) whole, total-append (weigh (equal n)) before (n ∷ ns), own_weight n)
