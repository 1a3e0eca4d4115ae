-- When a file is refused for its table and data.
use Rattle.std.specs.Prelude.{◌≡◌, ◌<◌, ℕ, ◌+◌, ◌*◌, Bool, ◌&&◌, ◌||◌, not, ◌==◌, nat_lt, nat_le, List, [], ◌∷◌, count_by, if◌then◌else◌}
use Rattle.std.specs.List.{list_any}
use Rattle.nxt_types.specs.Refusals.{passes}
use Rattle.nxt_types.specs.Shapes.{Members, some_list}
use Rattle.nxt_rxe.specs.declared.parts.Header.{Header}
use Rattle.nxt_rxe.specs.declared.parts.Parts.{Parts}
use Rattle.nxt_model.specs.Values.{Value}
use Rattle.nxt_types.specs.Pool.{pool_size}
use Rattle.nxt_model.specs.Reading.{row_count}
use Rattle.nxt_table.specs.declared.fault.TableFault.{TableFault}
use Rattle.nxt_table.specs.declared.fault.TableFault.TheVariants as table
use Rattle.nxt_table.specs.Leaves.{Leaf, leaf_of}
use Rattle.nxt_table.specs.TableRules as table_rules
use Rattle.nxt_table.specs.TableRules.{OfShapes}
use Rattle.nxt_layout.specs.declared.fault.LayoutFault.{LayoutFault}
use Rattle.nxt_layout.specs.declared.fault.LayoutFault.TheVariants.{Table, RowZero, RowIndex, RowShared, Stride, RowPlace, RowOverlap, PoolPassed, NoMemory}
use Rattle.nxt_layout.specs.Rows.{Ground, row, row_end, is_placed, is_strided, is_beyond, numbers_of, reached_through, reached, arrays_of, is_full}
use Rattle.nxt_layout.specs.Start.{ground, StartsAs, start_footprint}

-- ---- the rows

-- the table of rows lies behind the static bytes, and row 0 tells it
abbrev pub has_table : Header → Ground → Bool
has_table h g =
    nat_le h.static_size h.dope_at
    && nat_le (h.dope_at + 10) h.initial
    && ((row g 0).stride == 10)
    && nat_lt 0 (row g 0).count
    && nat_le (h.dope_at + 10 * (row g 0).count) h.initial

abbrev pub lacks_table : Parts → Members → Bool
lacks_table p ss = some_list ss && not (has_table p.header (ground p ss))

-- a row number of the entry is past the table's rows
abbrev pub names_no_row : Ground → Leaf → Bool
names_no_row g l = list_any (is_beyond g) (numbers_of g l)

-- two lists name the row
abbrev pub is_shared : Ground → ℕ → Bool
is_shared g r = nat_lt 1 (count_by (λ q. q == r) (reached g))

-- the row is reached through some entry, and its stride is not the entry's
abbrev pub is_missstrided : Ground → ℕ → Bool
is_missstrided g r =
    list_any
    (λ l. let rows = reached_through g l in list_any (λ q. q == r) rows && not (is_strided g l.entry rows r))
    (arrays_of g)

abbrev pub is_row_misplaced : Ground → ℕ → Bool
is_row_misplaced g r = is_full g r && not (is_placed g r)

-- where the bytes of a row lie; row 0 is the table of rows
abbrev pub place_of_row : Ground → ℕ → ℕ
place_of_row g r = if r == 0 then g.memory.table else (row g r).place

abbrev pub end_of_row : Ground → ℕ → ℕ
end_of_row g r = if r == 0 then g.memory.table + 10 * row_count g.memory else row_end g r

-- of row q and the later row r, both with elements, or the table
abbrev pub rows_share_a_byte : Ground → ℕ → ℕ → Bool
rows_share_a_byte g q r =
    nat_lt q r
    && ((q == 0) || is_full g q)
    && is_full g r
    && nat_lt (place_of_row g q) (end_of_row g r)
    && nat_lt (place_of_row g r) (end_of_row g q)

-- ---- the pool

-- the start needs a pool of so many bytes, which are too many
pub record PassesPool (p : Parts) (size : ℕ) : Type 0 where
  pub shapes : Members
  pub vars : Value
  pub starts : StartsAs p shapes vars
  pub size_is : size ≡ start_footprint p shapes vars
  pub passed : pool_size < size

-- ---- rules

-- a test of the file's rows
abbrev pub of_rows : Parts → (Ground → Bool) → Members → Bool
of_rows p test ss = some_list ss && test (ground p ss)

-- the rule of the fault is broken at the fault's place
abbrev pub Broken : Parts → LayoutFault → Type 0
Broken p (Table f) = table_rules.Broken p f
Broken p RowZero = OfShapes p (lacks_table p)
Broken p (RowIndex e) = OfShapes p (of_rows p (λ g. passes (names_no_row g) (leaf_of (arrays_of g) e)))
Broken p (RowShared r) = OfShapes p (of_rows p (λ g. is_shared g r))
Broken p (Stride r) = OfShapes p (of_rows p (λ g. is_missstrided g r))
Broken p (RowPlace r) = OfShapes p (of_rows p (λ g. is_row_misplaced g r))
Broken p (RowOverlap q r) = OfShapes p (of_rows p (λ g. rows_share_a_byte g q r))
Broken p (PoolPassed size) = PassesPool p size
Broken p NoMemory = ⊥

-- the rule's number, and the place
abbrev pub rank : LayoutFault → List ℕ
rank (Table f) = table_rules.rank f
rank RowZero = 12 ∷ []
rank (RowIndex e) = 13 ∷ e ∷ []
rank (RowShared r) = 14 ∷ r ∷ []
rank (Stride r) = 15 ∷ r ∷ []
rank (RowPlace r) = 16 ∷ r ∷ []
rank (RowOverlap q r) = 17 ∷ q ∷ r ∷ []
rank (PoolPassed size) = 18 ∷ size ∷ []
rank NoMemory = []

-- a fault of the table, as one of these
abbrev pub of_table : TableFault → LayoutFault
of_table table.NoMemory = NoMemory
of_table f = Table f
