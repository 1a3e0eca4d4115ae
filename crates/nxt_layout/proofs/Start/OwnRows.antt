-- Where each row is reached at most once, each list has a row of its own; where no rows share a byte, no lists do.
use Rattle.std.proofs.Common.{◌≡◌, ◌≢◌, ℕ, zero, suc, ◌+◌, ◌≤◌, ◌<◌, Bool, true, false, cond, ◌==◌, nat_lt, List, [], ◌∷◌, refl, sym, ◌∙◌, subst, arith, eq-eqb, ltb-true, lt-ltb, zero-lt-suc}
use Rattle.std.specs.List.{list_any}
use Rattle.std.proofs.lemmas.Bool.{and_from, eqb-false}
use Rattle.nxt_facts.specs.Pairs.{EachPair}
use Rattle.nxt_types.specs.Shapes.{Shape, Void, Number, Array, Cluster, Mutex, Members, no_members, member}
use Rattle.nxt_types.specs.Names.{size}
use Rattle.nxt_model.specs.Reading.{HeldList, with_row}
use Rattle.nxt_layout.specs.Rows.{Ground, row, has_elements, elements_of, reached, is_full}
use Rattle.nxt_facts.proofs.Each.{Each, each_from, each_then, each_both, each_join, each_flat, each_filter}
use Rattle.nxt_facts.proofs.Sums.{bit, tally, is_it, any_is}
use Rattle.nxt_layout.proofs.Start.ValueAt.{number_at, row_lists, lists_at, lists_among}
use Rattle.nxt_layout.proofs.Dope.Counts.{is_row}

-- ---- counts

none_here : (b : Bool) (n : ℕ) → bit b + n ≡ 0 → b ≡ false
none_here true n e = let f : ⊥ = omega (arith, e) in absurd f
none_here false n e = refl

below_one : (a n : ℕ) → a + n ≤ 1 → n ≤ 1
below_one a n h = omega arith

none_counted : {X : Type 0} (p : X → Bool) (xs : List X) → tally p xs ≡ 0 → Each (λ x. p x ≡ false) xs
none_counted p [] e = tt
none_counted p (x ∷ xs) e = (none_here (p x) (tally p xs) e, none_counted p xs (omega (arith, e)))

some_counted : {X : Type 0} (p : X → Bool) (xs : List X) → 0 < tally p xs → list_any p xs ≡ true
some_counted p xs h = any_is p xs ∙ lt-ltb 0 (tally p xs) h

counts_itself : (ls : List HeldList) → Each (λ l. 0 < tally (is_row l.row) ls) ls
counts_itself [] = tt
counts_itself (x ∷ xs) =
    let same : (x.row == x.row) ≡ true = eq-eqb x.row x.row refl in (
      subst (λ b. 0 < bit b + tally (is_row x.row) xs) (sym same) (omega arith),
      each_then
          (λ l. 0 < tally (is_row l.row) xs)
          (λ l. 0 < tally (is_row l.row) (x ∷ xs))
          (λ l h. omega (arith, h))
          xs
          (counts_itself xs),
    )

-- ---- lists with rows of their own

-- no list behind it has its row
pub no_other : (l : HeldList) (ls : List HeldList) → ((r : ℕ) → 0 < r → tally (is_row r) (l ∷ ls) ≤ 1) → 0 < l.row → Each (λ y. l.row ≢ y.row) ls
no_other l ls once some =
    let same : (l.row == l.row) ≡ true = eq-eqb l.row l.row refl in
    let one : 1 + tally (is_row l.row) ls ≤ 1 = subst (λ b. bit b + tally (is_row l.row) ls ≤ 1) same (once l.row some) in
    let none : tally (is_row l.row) ls ≡ 0 = omega (arith, one) in
    each_then
    (λ y. (y.row == l.row) ≡ false)
    (λ y. l.row ≢ y.row)
    (λ y h k. eqb-false y.row l.row h (sym k))
    ls
    (none_counted (is_row l.row) ls none)

own_step : (l : HeldList) (ls : List HeldList) (b : Bool) → nat_lt 0 l.row ≡ b → ((r : ℕ) → 0 < r → tally (is_row r) (l ∷ ls) ≤ 1) → EachPair (λ x y. x.row ≢ y.row) (with_row ls) → EachPair (λ x y. x.row ≢ y.row) (cond b (l ∷ with_row ls) (with_row ls))
own_step l ls true e once rest = (
  each_filter
      (λ y. l.row ≢ y.row)
      (λ y. nat_lt 0 y.row)
      ls
      (each_then
      (λ y. l.row ≢ y.row)
      (λ y. nat_lt 0 y.row ≡ true → l.row ≢ y.row)
      (λ y h _. h)
      ls
      (no_other l ls once (ltb-true 0 l.row e))),
  rest,
)
own_step l ls false e once rest = rest

pub once_behind : (l : HeldList) (ls : List HeldList) → ((r : ℕ) → 0 < r → tally (is_row r) (l ∷ ls) ≤ 1) → (r : ℕ) → 0 < r → tally (is_row r) ls ≤ 1
once_behind l ls once r some = below_one (bit (is_row r l)) (tally (is_row r) ls) (once r some)

pub own_pairs : (ls : List HeldList) → ((r : ℕ) → 0 < r → tally (is_row r) ls ≤ 1) → EachPair (λ x y. x.row ≢ y.row) (with_row ls)
own_pairs [] once = tt
own_pairs (l ∷ ls) once =
    own_step l ls (nat_lt 0 l.row) refl once (own_pairs ls (once_behind l ls once))

-- ---- lists with elements

-- a list with elements has a row, and this one has elements
abbrev pub IsProper : Ground → HeldList → Type 0
IsProper g l = 0 < l.count → (0 < l.row) × (has_elements g l.row ≡ true)

row_proper : (g : Ground) (stride : ℕ) (lists : ℕ → List HeldList) (r : ℕ) → ((base : ℕ) → Each (IsProper g) (lists base)) → Each (IsProper g) (row_lists g stride lists r)
row_proper g stride lists zero h = (λ some. let f : ⊥ = omega (arith, some) in absurd f, tt)
row_proper g stride lists (suc r) h = (
  λ some. (zero-lt-suc r, lt-ltb 0 (row g (suc r)).count some),
  each_flat (IsProper g) lists (elements_of g (suc r)) (each_from (λ base. Each (IsProper g) (lists base)) h (elements_of g (suc r))),
)

mutual
  pub shape_proper : (g : Ground) (f : ℕ → ℕ) (s : Shape) (i base : ℕ) → Each (IsProper g) (lists_at g f s i base)
  shape_proper g f Void i base = tt
  shape_proper g f (Number k) i base = tt
  shape_proper g f (Array n s) i base =
      row_proper g (f i) (lists_at g f s (i + 1)) (number_at g i base) (λ at. shape_proper g f s (i + 1) at)
  shape_proper g f (Cluster ss) i base = members_proper g f ss (i + 1) base
  shape_proper g f Mutex i base = tt

  pub members_proper : (g : Ground) (f : ℕ → ℕ) (ss : Members) (i base : ℕ) → Each (IsProper g) (lists_among g f ss i base)
  members_proper g f no_members i base = tt
  members_proper g f (member s ss) i base =
      each_join (IsProper g) (lists_at g f s i base) (lists_among g f ss (i + size s) base) (shape_proper g f s i base) (members_proper g f ss (i + size s) base)

-- a list with elements has a row that is reached and has elements
abbrev pub IsFullList : Ground → HeldList → Type 0
IsFullList g l = 0 < l.count → (0 < l.row) × (is_full g l.row ≡ true)

pub full_lists : (g : Ground) (ls : List HeldList) → ((r : ℕ) → 0 < r → tally (is_row r) ls ≡ tally (is_it r) (reached g)) → Each (IsProper g) ls → Each (IsFullList g) ls
full_lists g ls same proper =
    each_both
    (IsProper g)
    (λ l. 0 < tally (is_row l.row) ls)
    (IsFullList g)
    (λ l p c some.
    let has = p some in
    let there : 0 < tally (is_it l.row) (reached g) = subst (λ n. 0 < n) (same l.row has.0) c in
    (has.0, and_from _ _ (some_counted (is_it l.row) (reached g) there) has.1))
    ls
    proper
    (counts_itself ls)
