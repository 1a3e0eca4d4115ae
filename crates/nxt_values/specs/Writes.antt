-- What is written to the heap.
use Rattle.std.specs.Prelude.{◌≡◌, ◌≢◌, ℕ, ◌+◌, Bool, false, List, [], ◌∷◌, slice_set, ℤ, Some, None}
use Rattle.std.specs.Int.{to_le_bytes}
use Rattle.std.specs.List.{AllByRecursion}
use Rattle.nxt_types.specs.Arithmetic.{width_of, word}
use Rattle.nxt_types.specs.declared.kind.Kind.{Kind}
use Rattle.nxt_types.specs.declared.shape.TocEntry.{TocEntry}
use Rattle.nxt_types.specs.Shapes.{Shape, Array, Cluster, Members, has_list, some_list}
use Rattle.nxt_heap.specs.Lists.{Lists, stride_at, with_list}
use Rattle.nxt_values.specs.declared.reading.Region.{Region}
use Rattle.nxt_values.specs.declared.reading.Region.TheVariants.{Static, Row}
use Rattle.nxt_values.specs.declared.reading.Place.{Place}
use Rattle.nxt_values.specs.Held.{rows_at, rows_among}
use Rattle.nxt_values.specs.Regions.{bytes_in}
use Rattle.nxt_facts.specs.Pairs.{EachPair}

-- ---- bytes

-- the region has these bytes
abbrev pub with_bytes : Lists → Region → List ℕ → Lists
with_bytes h Static bytes = record h { static_bytes = bytes }
with_bytes h (Row row) bytes = with_list h row (Some (record { stride = stride_at h row; bytes = bytes }))

-- these bytes stand from a place on, and the others stay
abbrev pub put : List ℕ → ℕ → List ℕ → List ℕ
put [] at bytes = bytes
put (b ∷ bs) at bytes = put bs (at + 1) (slice_set bytes at b)

-- the low bytes of a number's word, as many as its kind takes
abbrev pub bytes_of_number : Kind → ℤ → List ℕ
bytes_of_number k x = to_le_bytes (width_of k) (word x)

-- ---- lists

-- none of these rows has a list
abbrev pub without : Lists → List ℕ → Lists
without h [] = h
without h (row ∷ rows) = without (with_list h row None) rows

-- the rows of the value that stands there, and of the values whose first begins there
abbrev pub rows_there : List TocEntry → Lists → Shape → Place → List ℕ
rows_there table h s p = rows_at table h s p.entry (bytes_in h p.region) p.base

abbrev pub all_rows_there : List TocEntry → Lists → Members → Place → List ℕ
all_rows_there table h ss p = rows_among table h ss p.entry (bytes_in h p.region) p.base

-- the lists of the value that stands there are freed
abbrev pub emptied : List TocEntry → Lists → Shape → Place → Lists
emptied table h s p = without h (rows_there table h s p)

-- a list stands in some part of a value of the shape: in an element of a list, or in a member of a group
abbrev pub has_inner_list : Shape → Bool
has_inner_list (Array stride s) = has_list s
has_inner_list (Cluster ss) = some_list ss
has_inner_list _ = false

-- the value that stands there has the rows that one had before it, where no part of it has a list
abbrev pub KeepsRows : List TocEntry → Lists → Lists → Shape → Place → Type 0
KeepsRows table h g s p = has_inner_list s ≡ false → rows_there table g s p ≡ rows_there table h s p

-- the row is not the region's
abbrev pub IsOther : Region → ℕ → Type 0
IsOther Static row = Unit {0}
IsOther (Row region) row = region ≢ row

-- they all differ, and none is the region's
pub record AreOwn (region : Region) (rows : List ℕ) : Type 0 where
  pub own : EachPair (λ a b. a ≢ b) rows
  pub other : AllByRecursion (IsOther region) rows
