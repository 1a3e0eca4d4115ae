-- The chain of the rows without a list, in ascending order.
use Rattle.std.proofs.Common.{◌≡◌, ℕ, zero, suc, ◌+◌, ◌<◌, ◌≤◌, Bool, false, ◌||◌, List, [], ◌∷◌, length, drop, get_or, Option, Some, None, is_none, nat_eq, refl, ap, ap₂, ◌∙◌, arith, eq-eqb, ne_eqb}
use Rattle.std.specs.List.{list_any, IsDistinct}
use Rattle.nxt_facts.proofs.Each.{Each, each_then}
use Rattle.nxt_model.specs.Dump.{IsChain}
use Rattle.nxt_model.specs.Reading.{Memory, dope_row}
use Rattle.nxt_heap.specs.Lists.{ByteList, Lists}

-- the numbers of the rows without a list, of which the first has a number
abbrev pub frees : ℕ → List (Option ByteList) → List ℕ
frees r [] = []
frees r (None ∷ xs) = r ∷ frees (r + 1) xs
frees r (Some l ∷ xs) = frees (r + 1) xs

-- those behind a row
abbrev pub frees_behind : Lists → ℕ → List ℕ
frees_behind h r = frees (r + 1) (drop (r + 1) h.by_row)

abbrev pub first_or_none : List ℕ → ℕ
first_or_none [] = 0
first_or_none (r ∷ rs) = r

-- the next one
abbrev pub next_free : Lists → ℕ → ℕ
next_free h r = first_or_none (frees_behind h r)

-- ---- where they are

pub frees_from : (a : ℕ) (xs : List (Option ByteList)) → Each (λ r. a ≤ r) (frees a xs)
frees_from a [] = tt
frees_from a (None ∷ xs) = (omega arith, each_then (λ r. a + 1 ≤ r) (λ r. a ≤ r) (λ r low. omega (arith, low)) (frees (a + 1) xs) (frees_from (a + 1) xs))
frees_from a (Some l ∷ xs) = each_then (λ r. a + 1 ≤ r) (λ r. a ≤ r) (λ r low. omega (arith, low)) (frees (a + 1) xs) (frees_from (a + 1) xs)

pub frees_to : (a n : ℕ) (xs : List (Option ByteList)) → a + length xs ≤ n → Each (λ r. r < n) (frees a xs)
frees_to a n [] low = tt
frees_to a n (None ∷ xs) low = (omega (arith, low), frees_to (a + 1) n xs (omega (arith, low)))
frees_to a n (Some l ∷ xs) low = frees_to (a + 1) n xs (omega (arith, low))

pub none_below : (r : ℕ) (rs : List ℕ) → Each (λ q. r + 1 ≤ q) rs → list_any (nat_eq r) rs ≡ false
none_below r [] e = refl
none_below r (q ∷ qs) e = ap₂ (λ (a b : Bool). a || b) (ne_eqb r q (λ same. omega (arith, same, e.0))) (none_below r qs e.1)

others_above : (a : ℕ) (rs : List ℕ) → Each (λ q. a + 1 ≤ q) rs → Each (λ q. nat_eq a q ≡ false) rs
others_above a rs e = each_then (λ q. a + 1 ≤ q) (λ q. nat_eq a q ≡ false) (λ q low. ne_eqb a q (λ same. omega (arith, same, low))) rs e

-- each stands there once
pub frees_once : (a : ℕ) (xs : List (Option ByteList)) → IsDistinct nat_eq (frees a xs)
unfolding IsDistinct
frees_once a [] = tt
frees_once a (None ∷ xs) = (others_above a (frees (a + 1) xs) (frees_from (a + 1) xs), frees_once (a + 1) xs)
frees_once a (Some l ∷ xs) = frees_once (a + 1) xs

-- and no other row
pub frees_are : (a : ℕ) (xs : List (Option ByteList)) (k : ℕ) → k < length xs → list_any (nat_eq (a + k)) (frees a xs) ≡ is_none (get_or xs k None)
frees_are a [] k less = absurd (omega (arith, less))
frees_are a (None ∷ xs) zero less = ap (λ b. b || list_any (nat_eq (a + 0)) (frees (a + 1) xs)) (eq-eqb (a + 0) a (omega arith))
frees_are a (Some l ∷ xs) zero less = ap (λ n. list_any (nat_eq n) (frees (a + 1) xs)) (omega arith) ∙ none_below a (frees (a + 1) xs) (frees_from (a + 1) xs)
frees_are a (None ∷ xs) (suc k) less =
    ap (λ b. b || list_any (nat_eq (a + suc k)) (frees (a + 1) xs)) (ne_eqb (a + suc k) a (λ e. omega (arith, e)))
    ∙ ap (λ n. list_any (nat_eq n) (frees (a + 1) xs)) (omega arith)
    ∙ frees_are (a + 1) xs k (omega (arith, less))
frees_are a (Some l ∷ xs) (suc k) less = ap (λ n. list_any (nat_eq n) (frees (a + 1) xs)) (omega arith) ∙ frees_are (a + 1) xs k (omega (arith, less))

-- ---- the chain

drop_one : (xs ys : List (Option ByteList)) (a : ℕ) (x : Option ByteList) → drop a xs ≡ x ∷ ys → (drop (a + 1) xs ≡ ys) × (a < length xs)
drop_one [] ys zero x e = let f : ⊥ = cc in absurd f
drop_one [] ys (suc a) x e = let f : ⊥ = cc in absurd f
drop_one (y ∷ xs) ys zero x e = (ap (drop 1) e, omega arith)
drop_one (y ∷ xs) ys (suc a) x e =
    let rest = drop_one xs ys a x e in
    let after : suc a + 1 ≡ suc (a + 1) = omega arith in
    (ap (λ n. drop n (y ∷ xs)) after ∙ rest.0, omega (arith, rest.1))

chain_by : (m : Memory) (h : Lists) → ((r : ℕ) → r < length h.by_row → (dope_row m r).link ≡ next_free h r) → (xs : List (Option ByteList)) (a r : ℕ) → 0 < a → drop a h.by_row ≡ xs
    → (dope_row m r).link ≡ first_or_none (frees a xs) → IsChain m r (frees a xs)
chain_by m h links [] a r above is here = here
chain_by m h links (None ∷ xs) a r above is here =
    let next = drop_one h.by_row xs a None is in
    (here, above, chain_by m h links xs (a + 1) a (omega (arith, above)) next.0 (links a next.1 ∙ ap (λ ys. first_or_none (frees (a + 1) ys)) next.0))
chain_by m h links (Some l ∷ xs) a r above is here = chain_by m h links xs (a + 1) r (omega (arith, above)) (drop_one h.by_row xs a (Some l) is).0 here

-- where each row's link leads to the next one, they are a chain from row 0 on
pub chained : (m : Memory) (h : Lists) → ((r : ℕ) → r < length h.by_row → (dope_row m r).link ≡ next_free h r) → 1 ≤ length h.by_row → IsChain m 0 (frees_behind h 0)
chained m h links some = chain_by m h links (drop 1 h.by_row) 1 0 (omega arith) refl (links 0 (omega (arith, some)))
