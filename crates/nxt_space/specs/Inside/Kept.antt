-- The variables as a heap keeps them.
use Rattle.std.specs.Prelude.{◌≡◌, ℕ, ◌+◌, ◌^◌, ◌<◌, ◌≤◌, ◌-◌, ◌*◌, max, sum_by, List, length, ℤ, None}
use Rattle.nxt_types.specs.Names.{name_among, size}
use Rattle.nxt_types.specs.Shapes.{Shape, Members, SpellsAll}
use Rattle.nxt_types.specs.Tables.{Table}
use Rattle.nxt_model.specs.Values.{Value, GroupOf, lists_in}
use Rattle.nxt_model.specs.Footprint.{footprint}
use Rattle.nxt_types.specs.Pool.{round4, pool_size}
use Rattle.nxt_heap.specs.Lists.{Lists, HeapViews, list_at, IsAlive}
use Rattle.nxt_heap.specs.Lists as heap
use Rattle.nxt_values.specs.Held.{values_in, rows_among, IsHeld}
use Rattle.nxt_values.specs.Regions.{IsRegion, HoldsThere, value_there}
use Rattle.nxt_values.specs.Sizes.{IsCountable, size_there}
use Rattle.nxt_model.specs.Spans.{HasSpans}
use Rattle.nxt_values.specs.declared.reading.Place.{Place}
use Rattle.nxt_values.specs.declared.sizing.Size.{Size}
use Rattle.nxt_values.specs.Fills.{filled, all_filled, RoomThere}
use Rattle.nxt_space.specs.Variables.{Variables, SpaceViews, shape_by, value_by, with_by}

-- the variables of these shapes whose flat forms the numbers are
abbrev pub started_as : Members → List ℤ → Value
started_as ss zs = GroupOf (all_filled ss zs).0

-- ---- variables in a heap

abbrev pub values_of : Table → Lists → Value
values_of toc h = values_in toc.entries toc.shapes h

-- those in a heap, where another one is the heap at the start
abbrev pub variables_in : Table → Lists → Lists → Variables
variables_in toc h first =
    record {
      entries = toc.entries;
      shapes = toc.shapes;
      static_size = length h.static_bytes;
      start = values_of toc first;
      start_rows = length first.by_row;
      values = values_of toc h;
      rows = length h.by_row;
    }

-- the rows of their lists
abbrev pub rows_of : Table → Lists → List ℕ
rows_of toc h = rows_among toc.entries h toc.shapes 0 h.static_bytes 0

-- all views of them
abbrev pub views_in : Table → HeapViews → Lists → SpaceViews
views_in toc h first = record { vars = variables_in toc h.lists first; pool = h.pool; rows = rows_of toc h.lists }

-- the shape that begins at an entry, and its value
abbrev pub shape_in : Table → ℕ → Shape
shape_in toc i = shape_by (name_among toc.shapes 0 i)

abbrev pub value_in : Table → Lists → ℕ → Value
value_in toc h i = value_by (name_among toc.shapes 0 i) (values_of toc h)

-- the variables' values with the one there that numbers begin with
abbrev pub with_stored : Table → Lists → ℕ → List ℤ → Value
with_stored toc h i zs = with_by (name_among toc.shapes 0 i) (filled (shape_in toc i) zs).0 (values_of toc h)

-- the heap's rows with these values, and the bytes of the pool that they take
abbrev pub rows_with : Lists → Value → ℕ
rows_with h vars = max (length h.by_row) (lists_in vars + 1)

abbrev pub bytes_with : Table → Lists → Value → ℕ
bytes_with toc h vars = footprint (length h.static_bytes) (rows_with h vars) toc.shapes vars

-- the heap holds the variables
pub record Stand (toc : Table) (h : Lists) : Type 0 where
  pub entries : length toc.entries < 2 ^ 16
  pub spans : HasSpans toc.entries toc.shapes (length h.static_bytes)
  pub held : IsHeld toc.entries toc.shapes h
  pub first : list_at h 0 ≡ None
  pub pool : heap.footprint h ≤ pool_size

-- a heap that held other variables, or none, holds these now
pub record Stores (toc : Table) (h g : Lists) (vars : Value) : Type 0 where
  pub stand : Stand toc g
  pub long : length g.static_bytes ≡ length h.static_bytes
  pub values : values_of toc g ≡ vars
  pub rows : length g.by_row ≡ rows_with h vars

-- a heap without lists has room for the variables that numbers spell
pub record CanStart (toc : Table) (ss : Members) (h : Lists) (start : List ℤ) : Type 0 where
  pub entries : length toc.entries < 2 ^ 16
  pub variables : ss ≡ toc.shapes
  pub spelled : SpellsAll toc.entries toc.shapes
  pub spans : HasSpans toc.entries toc.shapes (length h.static_bytes)
  pub empty : (row : ℕ) → IsAlive h row → ⊥
  pub fits : bytes_with toc h (started_as toc.shapes start) ≤ pool_size

-- the heap at the start has as many static bytes as the other one, and holds variables in which there are so many lists
pub record HoldsStart (toc : Table) (h first : Lists) (n : ℕ) : Type 0 where
  pub stand : Stand toc first
  pub long : length first.static_bytes ≡ length h.static_bytes
  pub lists : n ≡ lists_in (values_of toc first)
  pub rows : n < length first.by_row

-- the heap holds the variables, in which there are so many lists, and the heap at the start those of the start
pub record IsKept (toc : Table) (h first : Lists) (n first_n : ℕ) : Type 0 where
  pub stand : Stand toc h
  pub lists : n ≡ lists_in (values_of toc h)
  pub rows : n < length h.by_row
  pub start : HoldsStart toc h first first_n

-- a value of the shape stands at a place
pub record IsThere (toc : Table) (h : Lists) (s : Shape) (at : Place) : Type 0 where
  pub region : IsRegion h at.region
  pub entries : at.entry + size s < 2 ^ 16
  pub holds : HoldsThere toc.entries h s at

-- the value that begins at an entry stands there, with its shape
pub record IsVariable (toc : Table) (h : Lists) (i : ℕ) (s : Shape) (at : Place) : Type 0 where
  pub there : IsThere toc h s at
  pub room : RoomThere toc.entries h s at
  pub shape : s ≡ shape_in toc i
  pub value : value_there toc.entries h s at ≡ value_in toc h i
  pub countable : lists_in (values_of toc h) < 2 ^ 16 → IsCountable (size_there toc.entries h s at)

-- ---- room

-- the bytes of the pool with a value of another size in the place of one, where there were so many lists
abbrev pub bytes_after : Lists → ℕ → Size → Size → ℕ
bytes_after h lists old new =
    round4 (length h.static_bytes)
    + round4 (10 * max (length h.by_row) (lists - old.lists + new.lists + 1))
    + (sum_by heap.block_of h.by_row - old.bytes + new.bytes)
