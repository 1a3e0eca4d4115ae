-- Lists of numbers in order, each as often as a function tells, and how many of them pass a test.
use Rattle.std.proofs.Common.{◌≡◌, ℕ, zero, suc, ◌+◌, ◌*◌, ◌<◌, ◌≤◌, Bool, true, false, cond, ◌==◌, List, [], ◌∷◌, ◌++◌, replicate, length, length-append, refl, ap₂, ◌∙◌, arith}
use Rattle.nxt_layout.specs.Inside.RowPasses.{few, listed}
use Rattle.nxt_facts.specs.Sums.{sum_below}
use Rattle.nxt_facts.proofs.Each.{Each, each_join, each_then}
use Rattle.nxt_facts.proofs.Sums.{total, bit, tally, is_it, tally-append}
use Rattle.nxt_facts.proofs.SumsBelow.{only, total_below, sums_same}

tally-replicate : (p : ℕ → Bool) (k r : ℕ) → tally p (replicate k r) ≡ k * bit (p r)
tally-replicate p zero r = omega arith
tally-replicate p (suc k) r = omega (arith, tally-replicate p k r)

pub tally-listed : (p : ℕ → Bool) (w : ℕ → ℕ) (n : ℕ) → tally p (listed w n) ≡ sum_below (λ r. w r * bit (p r)) n
tally-listed p w zero = refl
tally-listed p w (suc n) = omega (arith, tally-append p (listed w n) (replicate (w n) n), tally-listed p w n, tally-replicate p (w n) n)

one_counted : (b : Bool) (k n m : ℕ) → m ≡ n * k → cond b k 0 + m ≡ (bit b + n) * k
one_counted true k n m e = omega (arith, e)
one_counted false k n m e = omega (arith, e)

counted : (w : ℕ → ℕ) (r : ℕ) (xs : List ℕ) → total (λ x. only w x r) xs ≡ tally (is_it r) xs * w r
counted w r [] = omega arith
counted w r (x ∷ xs) = one_counted (x == r) (w r) (tally (is_it r) xs) (total (λ y. only w y r) xs) (counted w r xs)

-- a total by number
pub total_by : (w : ℕ → ℕ) (n : ℕ) (xs : List ℕ) → Each (λ x. x < n) xs → total w xs ≡ sum_below (λ r. tally (is_it r) xs * w r) n
total_by w n xs below =
    total_below w n xs below
    ∙ sums_same (λ r. total (λ x. only w x r) xs) (λ r. tally (is_it r) xs * w r) n (λ r less. counted w r xs)

-- ---- none, one or many

few_step : (w s t : ℕ) (b : Bool) → few s ≡ few t → few (s + few w * bit b) ≡ few (t + w * bit b)
few_step w s t true e = omega (arith, e)
few_step w s t false e = omega (arith, e)

-- of each number more than two count no more
pub few_sum : (w : ℕ → ℕ) (p : ℕ → Bool) (n : ℕ) → few (sum_below (λ r. few (w r) * bit (p r)) n) ≡ few (sum_below (λ r. w r * bit (p r)) n)
few_sum w p zero = refl
few_sum w p (suc n) =
    few_step (w n) (sum_below (λ r. few (w r) * bit (p r)) n) (sum_below (λ r. w r * bit (p r)) n) (p n) (few_sum w p n)

-- ---- lists in order

replicate_each : (P : ℕ → Type 0) (k r : ℕ) → P r → Each P (replicate k r)
replicate_each P zero r h = tt
replicate_each P (suc k) r h = (h, replicate_each P k r h)

pub listed_below : (w : ℕ → ℕ) (n : ℕ) → Each (λ r. r < n) (listed w n)
listed_below w zero = tt
listed_below w (suc n) =
    each_join (λ r. r < suc n) (listed w n) (replicate (w n) n)
    (each_then (λ r. r < n) (λ r. r < suc n) (λ r h. omega (arith, h)) (listed w n) (listed_below w n))
    (replicate_each (λ r. r < suc n) (w n) n (omega arith))

length-replicate : (k r : ℕ) → length (replicate k r) ≡ k
length-replicate zero r = refl
length-replicate (suc k) r = omega (arith, length-replicate k r)

pub listed_short : (w : ℕ → ℕ) (n : ℕ) → ((r : ℕ) → w r ≤ 2) → length (listed w n) ≤ 2 * n
listed_short w zero h = omega arith
listed_short w (suc n) h =
    omega (arith, length-append (listed w n) (replicate (w n) n), length-replicate (w n) n, h n, listed_short w n h)

pub listed_alike : (v w : ℕ → ℕ) (n : ℕ) → ((r : ℕ) → r < n → v r ≡ w r) → listed v n ≡ listed w n
listed_alike v w zero h = refl
listed_alike v w (suc n) h = ap₂ (λ (xs : List ℕ) (k : ℕ). xs ++ replicate k n) (listed_alike v w n (λ r less. h r (omega (arith, less)))) (h n (omega arith))
