-- The rows that the variables have are their own, and no other is alive.
use Rattle.std.proofs.Common.{◌≡◌, ◌≢◌, ℕ, zero, suc, ◌+◌, ◌*◌, ◌<◌, ◌≤◌, Bool, true, false, cond, ◌==◌, List, [], ◌∷◌, take, sum_by, length, get_or, AllPairs, Option, Some, None, refl, sym, ap, ap₂, ◌∙◌, subst, arith, inl, inr, ◌||◌, is_some, eqb-true, ne_eqb}
use Rattle.std.specs.List.{list_any}
use Rattle.std.proofs.lemmas.Bool.{cases_lt, or_parts}
use Rattle.std.proofs.Math.Seq.{take-length}
use Rattle.std.proofs.lemmas.List.{get_or_past}
use Rattle.std.proofs.lemmas.List.Sums.{sum_by-cons, sum_by_more}
use Rattle.nxt_types.specs.Shapes.{Shape, Void, Number, Array, Cluster, Mutex, Members, no_members, member}
use Rattle.nxt_types.specs.Names.{size}
use Rattle.nxt_types.specs.declared.shape.TocEntry.{TocEntry}
use Rattle.nxt_model.specs.Footprint.{footprint as variables_footprint}
use Rattle.nxt_types.specs.Pool.{round4}
use Rattle.nxt_facts.specs.Sums.{sum_below}
use Rattle.nxt_facts.proofs.Each.{Each, each_then, each_flat, each_join}
use Rattle.nxt_facts.proofs.Sums.{bit, tally, is_it, total_is}
use Rattle.nxt_facts.proofs.SumsBelow.{sums_same, once_below}
use Rattle.nxt_heap.specs.Lists.{Lists, ByteList, list_at, bytes_at, bytes_of, block_of, IsAlive, footprint as heap_footprint}
use Rattle.nxt_values.specs.Held.{row_in, element_starts, values_in, rows_at, rows_among, Holds, HoldAll, IsHeld}
use Rattle.nxt_values.proofs.Laws.HeldSizes.{held_elements, row_size, lists_sized}

-- ---- rows of their own

neither : (a b : Bool) → a ≡ false → b ≡ false → (a || b) ≡ false
neither a b e f = ap₂ (λ (x y : Bool). x || y) e f

absent : (x : ℕ) (xs : List ℕ) → Each (λ y. y ≢ x) xs → list_any (is_it x) xs ≡ false
absent x [] e = refl
absent x (y ∷ ys) e = neither (y == x) (list_any (is_it x) ys) (ne_eqb y x e.0) (absent x ys e.1)

each_by_place : (P : ℕ → Type 0) (xs : List ℕ) → ((k : ℕ) → k < length xs → P (get_or xs k 0)) → Each P xs
each_by_place P [] h = tt
each_by_place P (x ∷ xs) h = (h 0 (omega arith), each_by_place P xs (λ k less. h (suc k) (omega (arith, less))))

none_counted : (p : ℕ → Bool) (xs : List ℕ) → list_any p xs ≡ false → tally p xs ≡ 0
none_counted p [] e = refl
none_counted p (x ∷ xs) e =
    let two = or_parts (p x) (list_any p xs) e in
    omega (arith, ap bit two.0, none_counted p xs two.1)

one_counted : (b : Bool) (n : ℕ) → n ≤ 1 → (b ≡ true → n ≡ 0) → bit b + n ≤ 1
one_counted true n h none = omega (arith, none refl)
one_counted false n h none = omega (arith, h)

-- elements that all differ stand once each
pub own_once : (r : ℕ) (xs : List ℕ) → AllPairs (λ a b. a ≢ b) xs → tally (is_it r) xs ≤ 1
own_once r [] own = omega arith
own_once r (x ∷ xs) own =
    let rest = own_once r xs (λ i j d a b. own (suc i) (suc j) d (omega (arith, a)) (omega (arith, b))) in
    let gone = absent x xs (each_by_place (λ y. y ≢ x) xs (λ k h same. own 0 (suc k) 0 (omega arith) (omega (arith, h)) (sym same))) in
    one_counted (x == r) (tally (is_it r) xs) rest
    (λ t. none_counted (is_it r) xs (subst (λ q. list_any (is_it q) xs ≡ false) (eqb-true x r t) gone))

pub own_below : (w : ℕ → ℕ) (n : ℕ) (xs : List ℕ) → AllPairs (λ a b. a ≢ b) xs → Each (λ x. x < n) xs → sum_by w xs ≡ sum_below (λ r. cond (list_any (is_it r) xs) (w r) 0) n
own_below w n xs own less = total_is w xs ∙ once_below w n xs (λ r. own_once r xs own) less

pub below_listed : {X : Type 0} (w : X → ℕ) (xs : List X) (d : X) (n : ℕ) → n ≤ length xs → sum_below (λ r. w (get_or xs r d)) n ≡ sum_by w (take n xs)
below_listed w xs d zero h = refl
below_listed w xs d (suc n) h =
    let more : sum_by w (take (suc n) xs) ≡ sum_by w (take (n + 1) xs) =
    let e : suc n ≡ n + 1 = omega arith in ap (λ m. sum_by w (take m xs)) e in
    omega (arith, below_listed w xs d n (omega (arith, h)), sum_by_more w xs n d (omega (arith, h)), more)

-- ---- rows that are alive

-- a value's rows are alive
mutual
  pub rows_alive : (table : List TocEntry) (h : Lists) (s : Shape) (i : ℕ) (bytes : List ℕ) (base : ℕ) → Holds table h s i bytes base → Each (IsAlive h) (rows_at table h s i bytes base)
  rows_alive table h Void i bytes base e = tt
  rows_alive table h (Number k) i bytes base e = tt
  rows_alive table h (Array stride s) i bytes base e =
      let row = row_in table i bytes base in
      let held = bytes_at h row in
      let holds = Holds table h s (i + 1) in
      let rows = rows_at table h s (i + 1) held in (
        ap is_some e.1.here,
        each_flat
            (IsAlive h)
            rows
            (element_starts stride held)
            (each_then
            (holds held)
            (λ at. Each (IsAlive h) (rows at))
            (λ at k. rows_alive table h s (i + 1) held at k)
            (element_starts stride held)
            (held_elements h row stride holds e.1)),
      )
  rows_alive table h (Cluster ss) i bytes base e = all_alive table h ss (i + 1) bytes base e
  rows_alive table h Mutex i bytes base e = tt

  pub all_alive : (table : List TocEntry) (h : Lists) (ss : Members) (i : ℕ) (bytes : List ℕ) (base : ℕ) → HoldAll table h ss i bytes base → Each (IsAlive h) (rows_among table h ss i bytes base)
  all_alive table h no_members i bytes base e = tt
  all_alive table h (member s ss) i bytes base e =
      each_join
      (IsAlive h)
      (rows_at table h s i bytes base)
      (rows_among table h ss (i + size s) bytes base)
      (rows_alive table h s i bytes base e.0)
      (all_alive table h ss (i + size s) bytes base e.1)

pub alive_within : (h : Lists) (row : ℕ) → IsAlive h row → row < length h.by_row
alive_within h row alive =
    elim (cases_lt row (length h.by_row)) [
      | inl less ↦ less
      | inr more ↦ let none : list_at h row ≡ None = get_or_past h.by_row row None more in let f : ⊥ = cc (alive, ap is_some none) in absurd f
    ]

-- the rows of the variables' lists stand in the table
pub rows_within : (table : List TocEntry) (ss : Members) (h : Lists) → IsHeld table ss h → Each (λ r. r < length h.by_row) (rows_among table h ss 0 h.static_bytes 0)
rows_within table ss h e =
    let rows = rows_among table h ss 0 h.static_bytes 0 in
    each_then (IsAlive h) (λ r. r < length h.by_row) (alive_within h) rows (all_alive table h ss 0 h.static_bytes 0 e.holds)

at_row : (o : Option ByteList) (any : Bool) → (is_some o ≡ true → any ≡ true) → cond any (round4 (length (bytes_of o))) 0 ≡ block_of o
at_row None true h = refl
at_row None false h = refl
at_row (Some l) true h = refl
at_row (Some l) false h = let f : ⊥ = cc (h refl) in absurd f

-- no other lists stand in the heap
pub rows_sized : (table : List TocEntry) (ss : Members) (h : Lists) → IsHeld table ss h → sum_by (row_size h) (rows_among table h ss 0 h.static_bytes 0) ≡ sum_by block_of h.by_row
rows_sized table ss h e =
    let rows = rows_among table h ss 0 h.static_bytes 0 in
    let n = length h.by_row in
    own_below (row_size h) n rows e.own (rows_within table ss h e)
    ∙ sums_same
    (λ r. cond (list_any (is_it r) rows) (row_size h r) 0)
    (λ r. block_of (list_at h r))
    n
    (λ r less. at_row (list_at h r) (list_any (is_it r) rows) (e.named r))
    ∙ below_listed block_of h.by_row None n (omega arith)
    ∙ ap (sum_by block_of) (take-length h.by_row)

-- ---- the whole

-- the heap takes as many bytes as the variables
pub held_footprint : (table : List TocEntry) (ss : Members) (h : Lists) → IsHeld table ss h → heap_footprint h ≡ variables_footprint (length h.static_bytes) (length h.by_row) ss (values_in table ss h)
held_footprint table ss h e =
    ap
    (λ n. round4 (length h.static_bytes) + round4 (10 * length h.by_row) + n)
    (sym (lists_sized table ss h e ∙ rows_sized table ss h e))

pub sum_one : (xs : List ℕ) → sum_by (λ x. 1) xs ≡ length xs
sum_one [] = refl
sum_one (x ∷ xs) = omega (arith, sum_by-cons (λ (y : ℕ). 1) x xs, sum_one xs)

few_below : (w : ℕ → ℕ) → ((r : ℕ) → w r ≤ 1) → w 0 ≡ 0 → (n : ℕ) → sum_below w (suc n) ≤ n
few_below w few none zero = omega (arith, none)
few_below w few none (suc n) = omega (arith, few_below w few none n, few (suc n))

few_less : (w : ℕ → ℕ) → ((r : ℕ) → w r ≤ 1) → w 0 ≡ 0 → (n : ℕ) → 1 ≤ n → sum_below w n < n
few_less w few none zero some = absurd (omega (arith, some))
few_less w few none (suc n) some = omega (arith, few_below w few none n)

bit_few : (b : Bool) → cond b 1 0 ≤ 1
bit_few true = omega arith
bit_few false = omega arith

-- row 0 is no list's, so there are fewer lists than rows
pub held_rows : (table : List TocEntry) (ss : Members) (h : Lists) → IsHeld table ss h → 1 ≤ length h.by_row → list_at h 0 ≡ None → length (rows_among table h ss 0 h.static_bytes 0) < length h.by_row
held_rows table ss h e some first =
    let rows = rows_among table h ss 0 h.static_bytes 0 in
    let w : ℕ → ℕ = λ r. cond (list_any (is_it r) rows) 1 0 in
    let counted : length rows ≡ sum_below w (length h.by_row) =
    sym (sum_one rows) ∙ own_below (λ r. 1) (length h.by_row) rows e.own (rows_within table ss h e) in
    let unnamed : list_any (is_it 0) rows ≡ false =
    absent
    0
    rows
    (each_then
    (IsAlive h)
    (λ r. r ≢ 0)
    (λ r alive zeroth. let f : ⊥ = cc (alive, ap is_some (ap (list_at h) zeroth ∙ first)) in absurd f)
    rows
    (all_alive table h ss 0 h.static_bytes 0 e.holds))
    in
    omega (arith, counted, few_less w (λ r. bit_few (list_any (is_it r) rows)) (ap (λ b. cond b 1 0) unnamed) (length h.by_row) some)
