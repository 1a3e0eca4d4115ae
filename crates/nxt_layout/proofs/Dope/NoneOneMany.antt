-- Lists of numbers that agree in which of them pass a test: none, one or many.
use Rattle.std.proofs.Common.{◌≡◌, ℕ, zero, suc, ◌+◌, ◌*◌, ◌<◌, ◌≤◌, min, Bool, true, false, cond, ◌&&◌, ◌||◌, not, ◌==◌, nat_lt, List, [], ◌∷◌, ◌++◌, map, filter, flat_map, count_by, length, inl, inr, if◌then◌else◌, refl, sym, ap, ap₂, ◌∙◌, arith, lt-ltb, ltb-true, eqb-true}
use Rattle.std.specs.List.{list_all, list_any}
use Rattle.std.proofs.lemmas.Bool.{and_parts, cases_lt, le-ltb}
use Rattle.nxt_model.specs.Reading.{row_count}
use Rattle.nxt_layout.specs.Rows.{Ground, names_row}
use Rattle.nxt_layout.specs.Inside.RowPasses.{few, tallied, names_by, listed, rows_of}
use Rattle.nxt_facts.proofs.Each.{Each, each_from, each_filter}
use Rattle.nxt_facts.proofs.Sums.{total, total-map, total_flat, total_every, bit, tally, is_it, tally_is, tally-append, any_is}
use Rattle.nxt_facts.proofs.SumsBelow.{sums_same}
use Rattle.nxt_layout.proofs.Dope.InOrder.{tally-listed, total_by, few_sum, listed_below, listed_short, listed_alike}

-- ---- counts, cut at two

abbrev pub cap : ℕ → ℕ
cap n = min 2 n

abbrev pub AreAlike : List ℕ → List ℕ → Type 0
AreAlike xs ys = (p : ℕ → Bool) → cap (tally p xs) ≡ cap (tally p ys)

cap_both : (a b c d : ℕ) → cap a ≡ cap c → cap b ≡ cap d → cap (a + b) ≡ cap (c + d)
cap_both a b c d h k = omega arith

pub alike_then : (xs ys zs : List ℕ) → AreAlike xs ys → AreAlike ys zs → AreAlike xs zs
alike_then xs ys zs h k = λ p. h p ∙ k p

pub alike-append : (xs ys us vs : List ℕ) → AreAlike xs ys → AreAlike us vs → AreAlike (xs ++ us) (ys ++ vs)
alike-append xs ys us vs h k =
    λ p.
    ap cap (tally-append p xs us)
    ∙ cap_both (tally p xs) (tally p us) (tally p ys) (tally p vs) (h p) (k p)
    ∙ sym (ap cap (tally-append p ys vs))

pub alike-map : (f : ℕ → ℕ) (xs ys : List ℕ) → AreAlike xs ys → AreAlike (map f xs) (map f ys)
alike-map f xs ys h =
    λ p.
    let w = λ (x : ℕ). bit (p x) in
    ap cap (total-map w f xs) ∙ h (λ x. p (f x)) ∙ sym (ap cap (total-map w f ys))

kept_tally : (p : ℕ → Bool) (x : ℕ) (xs : List ℕ) (b : Bool) → tally p (cond b (x ∷ xs) xs) ≡ bit (b && p x) + tally p xs
kept_tally p x xs true = refl
kept_tally p x xs false = omega arith

pub tally-filter : (p q : ℕ → Bool) (xs : List ℕ) → tally p (filter q xs) ≡ tally (λ x. q x && p x) xs
tally-filter p q [] = refl
tally-filter p q (x ∷ xs) =
    kept_tally p x (filter q xs) (q x) ∙ ap (λ n. bit (q x && p x) + n) (tally-filter p q xs)

pub alike-filter : (q : ℕ → Bool) (xs ys : List ℕ) → AreAlike xs ys → AreAlike (filter q xs) (filter q ys)
alike-filter q xs ys h =
    λ p. ap cap (tally-filter p q xs) ∙ h (λ x. q x && p x) ∙ sym (ap cap (tally-filter p q ys))

one_capped : (n : ℕ) → cap n ≡ bit (nat_lt 0 n) + bit (nat_lt 1 n)
one_capped zero = refl
one_capped (suc zero) = refl
one_capped (suc (suc n)) =
    omega (
      arith,
      ap bit (lt-ltb 0 (suc (suc n)) (omega arith)),
      ap bit (lt-ltb 1 (suc (suc n)) (omega arith)),
    )

capped_more : (w all a b m n : ℕ) → cap w ≡ a + b → cap all ≡ cap (m + n) → cap (w + all) ≡ cap ((a + m) + (b + n))
capped_more w all a b m n h k = omega arith

-- only what is at least one, and what is at least two, counts in a total
total_capped : (w : ℕ → ℕ) (xs : List ℕ) → cap (total w xs) ≡ cap (tally (λ x. nat_lt 0 (w x)) xs + tally (λ x. nat_lt 1 (w x)) xs)
total_capped w [] = refl
total_capped w (x ∷ xs) =
    capped_more
    (w x)
    (total w xs)
    (bit (nat_lt 0 (w x)))
    (bit (nat_lt 1 (w x)))
    (tally (λ x. nat_lt 0 (w x)) xs)
    (tally (λ x. nat_lt 1 (w x)) xs)
    (one_capped (w x))
    (total_capped w xs)

pub alike-flat_map : (f : ℕ → List ℕ) (xs ys : List ℕ) → AreAlike xs ys → AreAlike (flat_map f xs) (flat_map f ys)
alike-flat_map f xs ys h =
    λ p.
    let w = λ (x : ℕ). bit (p x) in
    let some = λ (x : ℕ). nat_lt 0 (tally p (f x)) in
    let many = λ (x : ℕ). nat_lt 1 (tally p (f x)) in
    ap cap (total_flat w f xs)
    ∙ total_capped (λ x. tally p (f x)) xs
    ∙ cap_both (tally some xs) (tally many xs) (tally some ys) (tally many ys) (h some) (h many)
    ∙ sym (total_capped (λ x. tally p (f x)) ys)
    ∙ sym (ap cap (total_flat w f ys))

-- ---- tests

more_than : (k a b : ℕ) → k < 2 → cap a ≡ cap b → nat_lt k a ≡ nat_lt k b
more_than k a b h e =
    elim (cases_lt k a) [
      | inl less ↦ lt-ltb k a less ∙ sym (lt-ltb k b (omega (arith, h, e, less)))
      | inr most ↦ le-ltb k a most ∙ sym (le-ltb k b (omega (arith, h, e, most)))
    ]

pub alike_any : (p : ℕ → Bool) (xs ys : List ℕ) → AreAlike xs ys → list_any p xs ≡ list_any p ys
alike_any p xs ys h =
    any_is p xs ∙ more_than 0 (tally p xs) (tally p ys) (omega arith) (h p) ∙ sym (any_is p ys)

all_step : (b more any : Bool) → more ≡ not any → (b && more) ≡ not (not b || any)
all_step true more any e = e
all_step false more any e = refl

all_is : (p : ℕ → Bool) (xs : List ℕ) → list_all p xs ≡ not (list_any (λ x. not (p x)) xs)
all_is p [] = refl
all_is p (x ∷ xs) = all_step (p x) (list_all p xs) (list_any (λ x. not (p x)) xs) (all_is p xs)

pub alike_all : (p : ℕ → Bool) (xs ys : List ℕ) → AreAlike xs ys → list_all p xs ≡ list_all p ys
alike_all p xs ys h = all_is p xs ∙ ap not (alike_any (λ x. not (p x)) xs ys h) ∙ sym (all_is p ys)

-- whether two pass
pub alike_two : (p : ℕ → Bool) (xs ys : List ℕ) → AreAlike xs ys → nat_lt 1 (count_by p xs) ≡ nat_lt 1 (count_by p ys)
alike_two p xs ys h =
    ap (nat_lt 1) (tally_is p xs)
    ∙ more_than 1 (tally p xs) (tally p ys) (omega arith) (h p)
    ∙ sym (ap (nat_lt 1) (tally_is p ys))

-- ---- rows in the order of number

and_false : (b : Bool) → (b && false) ≡ false
and_false true = refl
and_false false = refl

-- a number that names row r
names_it : (g : Ground) (r x : ℕ) (b zero_row : Bool) → (x == r) ≡ b → (r == 0) ≡ zero_row → r < row_count g.memory → (names_row g x && b) ≡ (if zero_row then false else b)
names_it g r x false true e z h = and_false (names_row g x)
names_it g r x false false e z h = and_false (names_row g x)
names_it g r x true true e z h =
    let none : nat_lt 0 x ≡ false = ap (nat_lt 0) (eqb-true x r e ∙ eqb-true r 0 z) in
    ap (λ c. (c && nat_lt x (row_count g.memory)) && true) none
names_it g r x true false e z h =
    let same : x ≡ r = eqb-true x r e in
    let some : nat_lt 0 x ≡ true = lt-ltb 0 x (omega (arith, same, positive r z)) in
    let below : nat_lt x (row_count g.memory) ≡ true = lt-ltb x (row_count g.memory) (omega (arith, same, h)) in
    ap₂ (λ (c d : Bool). (c && d) && true) some below
  where
    positive : (k : ℕ) → (k == 0) ≡ false → 0 < k
    positive zero f = let t : true ≡ false = f in cc
    positive (suc k) f = omega arith

no_tally : (b : Bool) (p : ℕ → Bool) (ns : List ℕ) → few (tally (λ x. if b then false else p x) ns) ≡ (if b then 0 else few (tally p ns))
no_tally true p ns = ap few (none ns)
  where
    none : (ks : List ℕ) → tally (λ x. false) ks ≡ 0
    none [] = refl
    none (k ∷ ks) = omega (arith, none ks)
no_tally false p ns = refl

-- how often the row is named
named_times : (g : Ground) (ns : List ℕ) (r : ℕ) → r < row_count g.memory → names_by (tallied ns) r ≡ few (tally (is_it r) (filter (names_row g) ns))
named_times g ns r h =
    ap (λ n. if r == 0 then 0 else few n) (tally_is (is_it r) ns)
    ∙ sym (no_tally (r == 0) (is_it r) ns)
    ∙ ap few (total_every (λ x. bit (if r == 0 then false else is_it r x)) (λ x. bit (names_row g x && is_it r x)) (λ x. ap bit (sym (names_it g r x (x == r) (r == 0) refl refl h))) ns)
    ∙ ap few (sym (tally-filter (is_it r) (names_row g) ns))

pub named_below : (g : Ground) (ns : List ℕ) → Each (λ r. r < row_count g.memory) (filter (names_row g) ns)
named_below g ns =
    each_filter (λ r. r < row_count g.memory) (names_row g) ns
    (each_from (λ r. names_row g r ≡ true → r < row_count g.memory) (λ r h. ltb-true r (row_count g.memory) (and_parts (nat_lt 0 r) (nat_lt r (row_count g.memory)) h).1) ns)

pub rows_below : (g : Ground) (ns : List ℕ) → Each (λ r. r < row_count g.memory) (rows_of g ns)
rows_below g ns = listed_below (names_by (tallied ns)) (row_count g.memory)

pub rows_alike : (g : Ground) (ns : List ℕ) → AreAlike (rows_of g ns) (filter (names_row g) ns)
rows_alike g ns =
    λ p.
    let n = row_count g.memory in
    let w = λ (r : ℕ). tally (is_it r) (filter (names_row g) ns) in
    ap cap (tally-listed p (names_by (tallied ns)) n)
    ∙ ap cap (sums_same (λ r. names_by (tallied ns) r * bit (p r)) (λ r. few (w r) * bit (p r)) n (λ r h. ap (λ k. k * bit (p r)) (named_times g ns r h)))
    ∙ few_sum w p n
    ∙ sym (ap cap (total_by (λ x. bit (p x)) n (filter (names_row g) ns) (named_below g ns)))

few_named : (c : (ℕ → Bool) → ℕ) (r : ℕ) (b : Bool) → (if b then 0 else few (c (is_it r))) ≤ 2
few_named c r true = omega arith
few_named c r false = omega arith

pub rows_few : (g : Ground) (ns : List ℕ) → length (rows_of g ns) ≤ 2 * row_count g.memory
rows_few g ns = listed_short (names_by (tallied ns)) (row_count g.memory) (λ r. few_named (tallied ns) r (r == 0))

-- where as many pass each test, none, one or many, the same rows are named
pub names_same : (c d : (ℕ → Bool) → ℕ) (n : ℕ) → ((p : ℕ → Bool) → few (c p) ≡ few (d p)) → listed (names_by c) n ≡ listed (names_by d) n
names_same c d n h = listed_alike (names_by c) (names_by d) n (λ r less. ap (λ k. if r == 0 then 0 else k) (h (is_it r)))

-- and whether some number passes
pub some_same : (a b : ℕ) → few a ≡ few b → nat_lt 0 a ≡ nat_lt 0 b
some_same a b e = more_than 0 a b (omega arith) e

-- ---- totals, where no row is named twice

pub total_alike : (w : ℕ → ℕ) (n : ℕ) (xs ys : List ℕ) → AreAlike xs ys → ((r : ℕ) → tally (is_it r) ys ≤ 1) → Each (λ x. x < n) xs → Each (λ x. x < n) ys → total w xs ≡ total w ys
total_alike w n xs ys h once below belows =
    total_by w n xs below
    ∙ sums_same (λ r. tally (is_it r) xs * w r) (λ r. tally (is_it r) ys * w r) n (λ r less. ap (λ k. k * w r) (exactly r))
    ∙ sym (total_by w n ys belows)
  where
    exactly : (r : ℕ) → tally (is_it r) xs ≡ tally (is_it r) ys
    exactly r = omega (arith, h (is_it r), once r)

filter_step : (b : Bool) (w : ℕ → ℕ) (x : ℕ) (xs : List ℕ) → total w (cond b (x ∷ xs) xs) ≡ cond b (w x) 0 + total w xs
filter_step true w x xs = refl
filter_step false w x xs = omega arith

pub total-filter : (w : ℕ → ℕ) (p : ℕ → Bool) (xs : List ℕ) → total w (filter p xs) ≡ total (λ x. cond (p x) (w x) 0) xs
total-filter w p [] = refl
total-filter w p (x ∷ xs) = filter_step (p x) w x (filter p xs) ∙ ap (λ n. cond (p x) (w x) 0 + n) (total-filter w p xs)
