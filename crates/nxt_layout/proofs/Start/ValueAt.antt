-- The value that stands at a place, and the lists in it, by recursion on the shape.
use Rattle.std.proofs.Common.{◌≡◌, ℕ, zero, suc, ◌+◌, ◌*◌, ◌≤◌, ◌<◌, true, List, [], ◌∷◌, ◌++◌, map, drop, flat_map, length, refl, sym, ap, ◌∙◌, arith, suc-mul, lt-ltb, zero-lt-suc}
use Rattle.std.proofs.lemmas.Bool.{and_from}
use Rattle.std.specs.Prelude.{pos}
use Rattle.nxt_facts.specs.Places.{places_from}
use Rattle.nxt_facts.proofs.Places.{length-places}
use Rattle.nxt_types.specs.Bytes.{u16_at}
use Rattle.nxt_types.specs.Shapes.{Shape, Void, Number, Array, Cluster, Mutex, Members, no_members, member}
use Rattle.nxt_types.specs.Names.{size}
use Rattle.nxt_model.specs.Values.{Value, Num, list_of, group_of}
use Rattle.nxt_model.specs.Means.Text.{number_in}
use Rattle.nxt_model.specs.Reading.{HeldList, held, EachReads, RowReads, row_count, leaf_place}
use Rattle.nxt_layout.specs.Rows.{Ground, row, elements_of, names_row}
use Rattle.nxt_facts.specs.Places.{places_from}
use Rattle.nxt_facts.proofs.Each.{Each, each_then}

-- the row number that stands in an element
abbrev pub number_at : Ground → ℕ → ℕ → ℕ
number_at g i base = u16_at g.memory.bytes (leaf_place g.memory i base)

abbrev pub row_values : Ground → (ℕ → Value) → ℕ → List Value
row_values g value zero = []
row_values g value (suc r) = map value (elements_of g (suc r))

abbrev pub row_lists : Ground → ℕ → (ℕ → List HeldList) → ℕ → List HeldList
row_lists g stride lists zero = held 0 stride 0 ∷ []
row_lists g stride lists (suc r) =
    held (suc r) stride (row g (suc r)).count ∷ flat_map lists (elements_of g (suc r))

abbrev mutual
  pub value_at : Ground → Shape → ℕ → ℕ → Value
  value_at g Void i base = Num (pos 0)
  value_at g (Number k) i base = Num (number_in k (drop (leaf_place g.memory i base) g.memory.bytes))
  value_at g (Array n s) i base = list_of (row_values g (value_at g s (i + 1)) (number_at g i base))
  value_at g (Cluster ss) i base = group_of (values_among g ss (i + 1) base)
  value_at g Mutex i base = Num (pos 0)

  pub values_among : Ground → Members → ℕ → ℕ → List Value
  values_among g no_members i base = []
  values_among g (member s ss) i base = value_at g s i base ∷ values_among g ss (i + size s) base

-- f gives the strides of the arrays
abbrev mutual
  pub lists_at : Ground → (ℕ → ℕ) → Shape → ℕ → ℕ → List HeldList
  lists_at g f Void i base = []
  lists_at g f (Number k) i base = []
  lists_at g f (Array n s) i base = row_lists g (f i) (lists_at g f s (i + 1)) (number_at g i base)
  lists_at g f (Cluster ss) i base = lists_among g f ss (i + 1) base
  lists_at g f Mutex i base = []

  pub lists_among : Ground → (ℕ → ℕ) → Members → ℕ → ℕ → List HeldList
  lists_among g f no_members i base = []
  lists_among g f (member s ss) i base = lists_at g f s i base ++ lists_among g f ss (i + size s) base

-- ---- single rows

-- each element ends in the row
pub places_within : (at stride n : ℕ) → Each (λ base. base + stride ≤ at + n * stride) (places_from at stride n)
places_within at stride zero = tt
places_within at stride (suc n) =
    let m : suc n * stride ≡ n * stride + stride = suc-mul n stride in (
      omega (arith, m),
      each_then
          (λ base. base + stride ≤ (at + stride) + n * stride)
          (λ base. base + stride ≤ at + suc n * stride)
          (λ base h. omega (arith, m, h))
          (places_from (at + stride) stride n)
          (places_within (at + stride) stride n),
    )

length_values : (value : ℕ → Value) (xs : List ℕ) → length (map value xs) ≡ length xs
length_values value [] = refl
length_values value (x ∷ xs) = omega (arith, length_values value xs)

pub each_reads : (reads : ℕ → Value → List HeldList → Type 0) (value : ℕ → Value) (lists : ℕ → List HeldList) (at stride n : ℕ) → Each (λ base. reads base (value base) (lists base)) (places_from at stride n) → EachReads reads at stride (map value (places_from at stride n)) (flat_map lists (places_from at stride n))
each_reads reads value lists at stride zero e = refl
each_reads reads value lists at stride (suc n) e =
    (lists at, flat_map lists (places_from (at + stride) stride n), refl, e.0, each_reads reads value lists (at + stride) stride n e.1)

pub names_it : (g : Ground) (r : ℕ) → suc r < row_count g.memory → names_row g (suc r) ≡ true
names_it g r h = and_from _ _ (lt-ltb 0 (suc r) (zero-lt-suc r)) (lt-ltb (suc r) (row_count g.memory) h)

pub row_reads : (g : Ground) (reads : ℕ → Value → List HeldList → Type 0) (value : ℕ → Value) (lists : ℕ → List HeldList) (stride r : ℕ) → r < row_count g.memory → (names_row g r ≡ true → Each (λ base. reads base (value base) (lists base)) (elements_of g r)) → RowReads g.memory reads stride r (row_values g value r) (row_lists g stride lists r)
row_reads g reads value lists stride zero within e = (refl, refl)
row_reads g reads value lists stride (suc r) within e =
    let long : length (map value (elements_of g (suc r))) ≡ (row g (suc r)).count =
    length_values value (elements_of g (suc r)) ∙ length-places (row g (suc r)).place (row g (suc r)).stride (row g (suc r)).count in
    let inner = flat_map lists (elements_of g (suc r)) in (
      inner,
      ap (λ n. held (suc r) stride n ∷ inner) (sym long),
      within,
      sym long,
      each_reads reads value lists (row g (suc r)).place (row g (suc r)).stride (row g (suc r)).count (e (names_it g r within)),
    )
