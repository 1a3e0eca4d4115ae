-- How the lists of a heap hold the variables.
use Rattle.std.specs.Prelude.{◌≡◌, ◌≢◌, ℕ, ◌+◌, ◌*◌, ◌/◌, ◌≤◌, List, [], ◌∷◌, ◌++◌, map, flat_map, length, drop, pos, slice_get, AllPairs, Some}
use Rattle.std.specs.List.{AllByRecursion, list_any}
use Rattle.std.specs.Prelude.{◌==◌, true}
use Rattle.nxt_types.specs.Arithmetic.{leaf_size}
use Rattle.nxt_types.specs.Bytes.{u16_at}
use Rattle.nxt_types.specs.Names.{size}
use Rattle.nxt_types.specs.Shapes.{Shape, Void, Number, Array, Cluster, Mutex, Members, no_members, member, SpellsAll}
use Rattle.nxt_types.specs.declared.shape.TocEntry.{TocEntry}
use Rattle.nxt_model.specs.Values.{Value, Num, list_of, group_of}
use Rattle.nxt_model.specs.Means.Text.{number_in}
use Rattle.nxt_model.specs.Reading.{desc_of}
use Rattle.nxt_facts.specs.Places.{places_from}
use Rattle.nxt_heap.specs.Lists.{Lists, list_at, bytes_at, IsAlive}

-- where the leaf of entry i stands in an element at `base`, or outside of all elements, where `base` is 0
abbrev pub leaf_place : List TocEntry → ℕ → ℕ → ℕ
leaf_place table i base = base + desc_of (slice_get table i)

-- the row that an array's leaf names
abbrev pub row_in : List TocEntry → ℕ → List ℕ → ℕ → ℕ
row_in table i bytes base = u16_at bytes (leaf_place table i base)

-- where the elements of a list begin among its bytes
abbrev pub element_starts : ℕ → List ℕ → List ℕ
element_starts stride bytes = places_from 0 stride (length bytes / stride)

-- ---- values

-- the value whose entries are those from i on, in the element at `base` of these bytes
abbrev mutual
  pub value_at : List TocEntry → Lists → Shape → ℕ → List ℕ → ℕ → Value
  value_at table h Void i bytes base = Num (pos 0)
  value_at table h (Number k) i bytes base = Num (number_in k (drop (leaf_place table i base) bytes))
  value_at table h (Array stride s) i bytes base =
      let elements = bytes_at h (row_in table i bytes base) in
      list_of (map (value_at table h s (i + 1) elements) (element_starts stride elements))
  value_at table h (Cluster ss) i bytes base = group_of (values_among table h ss (i + 1) bytes base)
  value_at table h Mutex i bytes base = Num (pos 0)

  pub values_among : List TocEntry → Lists → Members → ℕ → List ℕ → ℕ → List Value
  values_among table h no_members i bytes base = []
  values_among table h (member s ss) i bytes base =
      value_at table h s i bytes base ∷ values_among table h ss (i + size s) bytes base

-- the variables
abbrev pub values_in : List TocEntry → Members → Lists → Value
values_in table ss h = group_of (values_among table h ss 0 h.static_bytes 0)

-- ---- rows

-- the rows that the lists of a value have, each before those in its elements
abbrev mutual
  pub rows_at : List TocEntry → Lists → Shape → ℕ → List ℕ → ℕ → List ℕ
  rows_at table h Void i bytes base = []
  rows_at table h (Number k) i bytes base = []
  rows_at table h (Array stride s) i bytes base =
      let row = row_in table i bytes base in
      let elements = bytes_at h row in
      row ∷ flat_map (rows_at table h s (i + 1) elements) (element_starts stride elements)
  rows_at table h (Cluster ss) i bytes base = rows_among table h ss (i + 1) bytes base
  rows_at table h Mutex i bytes base = []

  pub rows_among : List TocEntry → Lists → Members → ℕ → List ℕ → ℕ → List ℕ
  rows_among table h no_members i bytes base = []
  rows_among table h (member s ss) i bytes base =
      rows_at table h s i bytes base ++ rows_among table h ss (i + size s) bytes base

-- ---- what holds

-- a row's list has whole elements, each of which holds a value
pub record HasElements (h : Lists) (row stride : ℕ) (holds : List ℕ → ℕ → Type 0) : Type 0 where
  pub count : ℕ
  pub bytes : List ℕ
  pub some : 1 ≤ stride
  pub here : list_at h row ≡ Some (record { stride = stride; bytes = bytes })
  pub whole : length bytes ≡ count * stride
  pub elements : AllByRecursion (holds bytes) (places_from 0 stride count)

-- the leaves lie in the bytes, and each list has its row
abbrev mutual
  pub Holds : List TocEntry → Lists → Shape → ℕ → List ℕ → ℕ → Type 0
  Holds table h Void i bytes base = Unit {0}
  Holds table h (Number k) i bytes base = leaf_place table i base + leaf_size k ≤ length bytes
  Holds table h (Array stride s) i bytes base =
      (leaf_place table i base + 2 ≤ length bytes)
      × HasElements h (row_in table i bytes base) stride (Holds table h s (i + 1))
  Holds table h (Cluster ss) i bytes base = HoldAll table h ss (i + 1) bytes base
  Holds table h Mutex i bytes base = Unit {0}

  pub HoldAll : List TocEntry → Lists → Members → ℕ → List ℕ → ℕ → Type 0
  HoldAll table h no_members i bytes base = Unit {0}
  HoldAll table h (member s ss) i bytes base =
      Holds table h s i bytes base × HoldAll table h ss (i + size s) bytes base

-- the heap holds the variables: each list has a row of its own, and no other row is alive
pub record IsHeld (table : List TocEntry) (ss : Members) (h : Lists) : Type 0 where
  pub spelled : SpellsAll table ss
  pub holds : HoldAll table h ss 0 h.static_bytes 0
  pub own : AllPairs (λ a b. a ≢ b) (rows_among table h ss 0 h.static_bytes 0)
  pub named : (row : ℕ) → IsAlive h row → list_any (λ r. r == row) (rows_among table h ss 0 h.static_bytes 0) ≡ true
