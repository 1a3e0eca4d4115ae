-- The passes that find the first fault of the rows and of the pool.
use Rattle.std.specs.Prelude.{◌≡◌, ℕ, ◌+◌, ◌*◌, Bool, ◌&&◌, not, ◌==◌, nat_lt, max, List, [], flat_map, ◌⊎◌, Option, Some, None, if◌then◌else◌}
use Rattle.std.specs.List.{list_any}
use Rattle.nxt_types.specs.declared.shape.TocEntry.{TocEntry}
use Rattle.nxt_types.specs.Pool.{round4, pool_size}
use Rattle.nxt_rxe.specs.declared.parts.Parts.{Parts}
use Rattle.nxt_model.specs.Reading.{row_count}
use Rattle.nxt_table.specs.Inside.Checks.{fault_or, leaves_of, bytes_of_parts}
use Rattle.nxt_layout.specs.declared.fault.LayoutFault.{LayoutFault}
use Rattle.nxt_layout.specs.declared.fault.LayoutFault.TheVariants.{RowZero, RowIndex, RowShared, Stride, RowPlace, RowOverlap, PoolPassed, NoMemory}
use Rattle.nxt_layout.specs.Rows.{Ground, is_placed, is_full_in}
use Rattle.nxt_layout.specs.Inside.RowPasses.{Through, bare_ground, extent_in, array_leaves, through_from, all_rows, list_count, times, least, first_beyond, first_below, misstrided_in, full_bytes, first_spans, spans_of}
use Rattle.nxt_layout.specs.LayoutRules.{has_table}

-- ---- the passes in their order

abbrev pub spells_array : List TocEntry → Bool
spells_array table = list_any (λ e. e.code == 7) table

-- the fault, or there was no memory
abbrev pub IsFound : Option LayoutFault → LayoutFault → Type 0
IsFound found fault = (fault ≡ NoMemory) ⊎ (found ≡ Some fault)

-- ---- rows

abbrev pub ground_in : Parts → Ground
ground_in p = bare_ground (bytes_of_parts p) p.header.dope_at p.header.static_size

-- what is found through the arrays
abbrev pub arrays_in : Parts → List Through
arrays_in p = through_from (ground_in p) (extent_in (leaves_of p)) [] (array_leaves (leaves_of p))

abbrev pub overlap_fault : Option (ℕ × ℕ) → Option LayoutFault
overlap_fault None = None
overlap_fault (Some o) = Some (RowOverlap o.0 o.1)

abbrev pub rows_fault : Ground → List Through → Option LayoutFault
rows_fault g ts =
    let rows = all_rows ts in
    fault_or
    RowIndex
    (first_beyond ts)
    (fault_or
    RowShared
    (first_below (λ r. nat_lt 1 (times r rows)) 0 (row_count g.memory))
    (fault_or
    Stride
    (least (flat_map (misstrided_in g) ts))
    (fault_or
    RowPlace
    (first_below (λ r. is_full_in g rows r && not (is_placed g r)) 0 (row_count g.memory))
    (overlap_fault (first_spans (spans_of g (is_full_in g rows)))))))

abbrev pub row_fault : Parts → Option LayoutFault
row_fault p =
    if spells_array p.toc && not (has_table p.header (ground_in p)) then Some RowZero
    else rows_fault (ground_in p) (arrays_in p)

-- ---- the pool

abbrev pub rows_in_file : Parts → ℕ
rows_in_file p = if spells_array p.toc then row_count (ground_in p).memory else 1

-- the bytes that the start needs, by array and by row of the table
abbrev pub size_of_start : Parts → ℕ
size_of_start p =
    round4 p.header.static_size
    + round4 (10 * max (rows_in_file p) (list_count (arrays_in p) + 1))
    + full_bytes (ground_in p) (is_full_in (ground_in p) (all_rows (arrays_in p)))

abbrev pub pool_fault : Parts → Option LayoutFault
pool_fault p = if nat_lt pool_size (size_of_start p) then Some (PoolPassed (size_of_start p)) else None
