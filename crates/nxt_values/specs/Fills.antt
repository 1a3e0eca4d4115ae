-- What numbers fill a place with.
use Rattle.std.specs.Prelude.{◌≡◌, ◌≢◌, ℕ, ◌+◌, ◌-◌, ◌*◌, ◌≤◌, ◌⊎◌, max, is_some, count_by, sum_by, ◌==◌, true, List, [], ◌∷◌, map, flat_map, take, drop, length, ℤ, pos, nat_abs, slice_index_or, None}
use Rattle.std.specs.List.{AllByRecursion, list_any}
use Rattle.nxt_types.specs.Arithmetic.{cut}
use Rattle.nxt_types.specs.Shapes.{Shape, Void, Number, Array, Cluster, Mutex, Members, no_members, member}
use Rattle.nxt_types.specs.declared.shape.TocEntry.{TocEntry}
use Rattle.nxt_model.specs.Values.{Num, ListOf, GroupOf, Values, no_more, values, items, Front, many, lists_in, lists_among, value}
use Rattle.nxt_model.specs.Footprint.{list_bytes, member_bytes}
use Rattle.nxt_types.specs.Pool.{round4}
use Rattle.nxt_heap.specs.Lists.{Lists, list_at, stride_at, bytes_at, IsAlive, block_of}
use Rattle.nxt_values.specs.Held.{row_in, value_at, values_among, rows_at, rows_among, Holds, HoldAll}
use Rattle.nxt_values.specs.Regions.{bytes_in, IsRegion}
use Rattle.nxt_model.specs.Spans.{Span, span, spans, spans_among, AreApart, FitsIn, FitAll}
use Rattle.nxt_facts.specs.Pairs.{EachPair}
use Rattle.nxt_facts.specs.Places.{places_from}
use Rattle.nxt_values.specs.Writes.{IsOther}
use Rattle.nxt_values.specs.declared.reading.Region.{Region}
use Rattle.nxt_values.specs.declared.reading.Region.TheVariants.{Static, Row}
use Rattle.nxt_values.specs.declared.reading.Place.{Place}

-- ---- values

abbrev pub first_of : List ℤ → ℤ
first_of zs = slice_index_or zs 0 (pos 0)

-- the value of the shape whose flat form the numbers begin with, each cut to its kind, and the numbers behind it; 0 stands
-- for what is missing, for a void and for a mutex
abbrev mutual
  pub filled : Shape → List ℤ → Front
  filled Void zs = (Num (pos 0), drop 1 zs)
  filled (Number k) zs = (Num (cut k (first_of zs)), drop 1 zs)
  filled (Array stride s) zs = let found = many (nat_abs (first_of zs)) (filled s) (drop 1 zs) in (ListOf found.0, found.1)
  filled (Cluster ss) zs = let found = all_filled ss zs in (GroupOf found.0, found.1)
  filled Mutex zs = (Num (pos 0), drop 1 zs)

  pub all_filled : Members → List ℤ → Values × List ℤ
  all_filled no_members zs = (no_more, zs)
  all_filled (member s ss) zs =
      let one = filled s zs in let rest = all_filled ss one.1 in (value one.0 rest.0, rest.1)

-- ---- changes

abbrev pub IsRow : Region → Type 0
IsRow Static = ⊥
IsRow (Row row) = Unit {0}

abbrev pub stride_in : Lists → Region → ℕ
stride_in h Static = 0
stride_in h (Row row) = stride_at h row

-- the span q, where its element begins at `base`, shares no byte with the span p, where that of p begins at b
abbrev pub IsBeside : ℕ → ℕ → Span → Span → Type 0
IsBeside base b p q = (base + q.place + q.width ≤ b + p.place) ⊎ (b + p.place + p.width ≤ base + q.place)

-- these rows, which were free, have lists, and the bytes in the spans of an element at `base` of the region may be others.
-- All other bytes and lists stay
pub record Grows (h g : Lists) (region : Region) (base : ℕ) (ps : List Span) (rows : List ℕ) : Type 0 where
  pub there : IsRegion g region
  pub long : length (bytes_in g region) ≡ length (bytes_in h region)
  pub stride : stride_in g region ≡ stride_in h region
  pub beside : (p : Span) (b : ℕ) → AllByRecursion (IsBeside base b p) ps
      → take p.width (drop (b + p.place) (bytes_in g region)) ≡ take p.width (drop (b + p.place) (bytes_in h region))
  pub static : IsRow region → g.static_bytes ≡ h.static_bytes
  pub kept : (row : ℕ) → IsAlive h row → IsOther region row → list_at g row ≡ list_at h row
  pub own : EachPair (λ a b. a ≢ b) rows
  pub fresh : AllByRecursion (λ row. list_at h row ≡ None) rows
  pub named : (row : ℕ) → IsAlive g row → IsAlive h row ⊎ (list_any (λ r. r == row) rows ≡ true)

-- ---- the pool

-- how many rows have a list
abbrev pub living : Lists → ℕ
living h = count_by is_some h.by_row

-- the footprint with so many lists more, whose blocks take so many bytes; free rows are taken first, and row 0 is none
abbrev pub needs : Lists → ℕ → ℕ → ℕ
needs h lists bytes =
    round4 (length h.static_bytes)
    + round4 (10 * max (length h.by_row) (living h + lists + 1))
    + sum_by block_of h.by_row
    + bytes

-- so many lists are there now, whose blocks take so many bytes
abbrev pub Spends : Lists → Lists → ℕ → ℕ → Type 0
Spends h g lists bytes = (m c : ℕ) → needs h (lists + m) (bytes + c) ≡ needs g m c

-- ---- places that are filled

-- the value that the numbers begin with stands there, and the others are `rest`
pub record Fills (table : List TocEntry) (h g : Lists) (s : Shape) (i : ℕ) (region : Region) (base : ℕ) (zs rest : List ℤ) : Type 0 where
  pub value : value_at table g s i (bytes_in g region) base ≡ (filled s zs).0
  pub others : rest ≡ (filled s zs).1
  pub holds : Holds table g s i (bytes_in g region) base
  pub grows : Grows h g region base (spans table s i) (rows_at table g s i (bytes_in g region) base)
  pub spends : Spends h g (lists_in (filled s zs).0) (list_bytes s (filled s zs).0)

pub record FillsAll (table : List TocEntry) (h g : Lists) (ss : Members) (i : ℕ) (region : Region) (base : ℕ) (zs rest : List ℤ) : Type 0 where
  pub value : values (values_among table g ss i (bytes_in g region) base) ≡ (all_filled ss zs).0
  pub others : rest ≡ (all_filled ss zs).1
  pub holds : HoldAll table g ss i (bytes_in g region) base
  pub grows : Grows h g region base (spans_among table ss i) (rows_among table g ss i (bytes_in g region) base)
  pub spends : Spends h g (lists_among (all_filled ss zs).0) (member_bytes ss (items (all_filled ss zs).0))

-- ---- lists that get their elements

-- the row, which was free, has a list of n elements, and stands in the leaf of entry i
pub record IsOpened (table : List TocEntry) (h g : Lists) (i : ℕ) (region : Region) (base row stride n : ℕ) : Type 0 where
  pub grows : Grows h g region base (span table i 2 ∷ []) (row ∷ [])
  pub named : row_in table i (bytes_in g region) base ≡ row
  pub alive : IsAlive g row
  pub wide : stride_at g row ≡ stride
  pub long : length (bytes_at g row) ≡ n * stride
  pub spends : Spends h g 1 (round4 (n * stride))

-- the lists in n values that the numbers begin with, and the bytes that these take
abbrev pub lists_of : Shape → ℕ → List ℤ → ℕ
lists_of s n zs = lists_among (many n (filled s) zs).0

abbrev pub bytes_of_lists : Shape → ℕ → List ℤ → ℕ
bytes_of_lists s n zs = sum_by (list_bytes s) (items (many n (filled s) zs).0)

-- the bytes of n elements
abbrev pub elements_span : ℕ → ℕ → ℕ → Span
elements_span stride at n = record { place = at; width = n * stride }

-- so many elements of a row's list, of which the first begins at `at`, are filled
pub record FillsEach (table : List TocEntry) (h g : Lists) (s : Shape) (i row stride at n : ℕ) (zs rest : List ℤ) : Type 0 where
  pub value : values (map (value_at table g s i (bytes_at g row)) (places_from at stride n)) ≡ (many n (filled s) zs).0
  pub others : rest ≡ (many n (filled s) zs).1
  pub holds : AllByRecursion (Holds table g s i (bytes_at g row)) (places_from at stride n)
  pub grows : Grows h g (Row row) 0 (elements_span stride at n ∷ []) (flat_map (rows_at table g s i (bytes_at g row)) (places_from at stride n))
  pub spends : Spends h g (lists_of s n zs) (bytes_of_lists s n zs)

-- ---- room

-- the leaves are apart, and end among the n bytes, in an element at `base`
pub record HasRoom (table : List TocEntry) (s : Shape) (i base n : ℕ) : Type 0 where
  pub within : base ≤ n
  pub apart : AreApart (spans table s i)
  pub fits : FitsIn table s i (n - base)

pub record AllHaveRoom (table : List TocEntry) (ss : Members) (i base n : ℕ) : Type 0 where
  pub within : base ≤ n
  pub apart : AreApart (spans_among table ss i)
  pub fits : FitAll table ss i (n - base)

abbrev pub FillsThere : List TocEntry → Lists → Lists → Shape → Place → List ℤ → List ℤ → Type 0
FillsThere table h g s p zs rest = Fills table h g s p.entry p.region p.base zs rest

abbrev pub FillAllThere : List TocEntry → Lists → Lists → Members → Place → List ℤ → List ℤ → Type 0
FillAllThere table h g ss p zs rest = FillsAll table h g ss p.entry p.region p.base zs rest

abbrev pub RoomThere : List TocEntry → Lists → Shape → Place → Type 0
RoomThere table h s p = HasRoom table s p.entry p.base (length (bytes_in h p.region))

abbrev pub RoomForAll : List TocEntry → Lists → Members → Place → Type 0
RoomForAll table h ss p = AllHaveRoom table ss p.entry p.base (length (bytes_in h p.region))

-- the footprint with the value that the numbers begin with, and with such values
abbrev pub needs_for : Lists → Shape → List ℤ → ℕ
needs_for h s zs = needs h (lists_in (filled s zs).0) (list_bytes s (filled s zs).0)

abbrev pub needs_for_all : Lists → Members → List ℤ → ℕ
needs_for_all h ss zs = needs h (lists_among (all_filled ss zs).0) (member_bytes ss (items (all_filled ss zs).0))

-- and with so many of them, one after another
abbrev pub needs_for_each : Lists → Shape → ℕ → List ℤ → ℕ
needs_for_each h s n zs = needs h (lists_of s n zs) (bytes_of_lists s n zs)
