-- How many bytes the variables take at the start, by array and by row.
use Rattle.std.proofs.Common.{◌≡◌, ℕ, ◌+◌, ◌*◌, ◌<◌, Bool, true, false, cond, ◌&&◌, nat_lt, [], max, sum_by, length, if◌then◌else◌, refl, sym, ap, ap₂, ◌∙◌, ltb-true}
use Rattle.std.specs.List.{list_any}
use Rattle.std.proofs.lemmas.Bool.{and_parts}
use Rattle.std.proofs.lemmas.List.{length-map}
use Rattle.nxt_types.specs.Shapes.{Members}
use Rattle.nxt_rxe.specs.declared.parts.Parts.{Parts}
use Rattle.nxt_types.specs.Pool.{round4}
use Rattle.nxt_model.specs.Reading.{row_count}
use Rattle.nxt_table.specs.Leaves.{Leaf, AreShapes, leaves}
use Rattle.nxt_layout.specs.Rows.{Ground, row, has_elements, names_row, element_places, numbers_of, reached_through, reached, arrays_of, is_full}
use Rattle.nxt_layout.specs.Start.{ground, file_rows}
use Rattle.nxt_layout.specs.Inside.RowPasses.{row_bytes}
use Rattle.nxt_facts.specs.Sums.{sum_below}
use Rattle.nxt_facts.proofs.Each.{Each, each_from, each_flat, each_filter}
use Rattle.nxt_facts.proofs.Sums.{total, total_is, total_one, total_flat, total_every, is_it}
use Rattle.nxt_facts.proofs.SumsBelow.{sums_same, once_below}
use Rattle.nxt_layout.proofs.Start.ValueAt.{number_at}
use Rattle.nxt_layout.proofs.Start.Leaves.{leaves_among}
use Rattle.nxt_layout.proofs.Start.LeafOrder.{leaves_are}
use Rattle.nxt_table.proofs.Laws.StrideFree.{size_of_table}
use Rattle.nxt_layout.proofs.Start.RulesKept.{AreKept, KeepsRows, are_kept, reached_once}
use Rattle.nxt_layout.proofs.Start.Size.{numbers, no_bytes, no_count, start_bytes}

-- ---- the same sums by array

pub numbers_by_array : (g : Ground) → length (numbers g) ≡ sum_by (λ l. length (numbers_of g l)) (arrays_of g)
numbers_by_array g =
    sym (total_one (numbers g))
    ∙ total_flat (λ r. 1) (numbers_of g) (arrays_of g)
    ∙ total_every (λ l. total (λ r. 1) (numbers_of g l)) (λ l. length (numbers_of g l)) (λ l. total_one (numbers_of g l)) (arrays_of g)
    ∙ sym (total_is (λ l. length (numbers_of g l)) (arrays_of g))

-- an entry stands once in each element around it
pub numbers_in_places : (g : Ground) (l : Leaf) → length (numbers_of g l) ≡ length (element_places g l.arrays)
numbers_in_places g l = length-map (element_places g l.arrays) (number_at g l.entry)

-- ---- and by row of the table

pub reached_below : (g : Ground) → Each (λ r. r < row_count g.memory) (reached g)
reached_below g =
    each_flat
    (λ r. r < row_count g.memory)
    (reached_through g)
    (arrays_of g)
    (each_from
    (λ l. Each (λ r. r < row_count g.memory) (reached_through g l))
    (λ l.
    each_filter
    (λ r. r < row_count g.memory)
    (names_row g)
    (numbers_of g l)
    (each_from
    (λ r. names_row g r ≡ true → r < row_count g.memory)
    (λ r h. ltb-true r (row_count g.memory) (and_parts (nat_lt 0 r) (nat_lt r (row_count g.memory)) h).1)
    (numbers_of g l)))
    (arrays_of g))

full_bytes : (g : Ground) (r : ℕ) (any has : Bool) → has_elements g r ≡ has → cond any (row_bytes g r) 0 ≡ cond (any && has) (row_bytes g r) 0
full_bytes g r true true e = refl
full_bytes g r true false e =
    ap (λ n. round4 (n * (row g r).stride)) (no_count g r e) ∙ no_bytes (row g r).stride
full_bytes g r false has e = refl

-- each row with elements that is reached counts once
pub bytes_by_row : (g : Ground) → AreKept g → sum_by (row_bytes g) (reached g) ≡ sum_below (λ r. if is_full g r then row_bytes g r else 0) (row_count g.memory)
bytes_by_row g kept =
    total_is (row_bytes g) (reached g)
    ∙ once_below (row_bytes g) (row_count g.memory) (reached g) (reached_once g kept) (reached_below g)
    ∙ sums_same
    (λ r. cond (list_any (is_it r) (reached g)) (row_bytes g r) 0)
    (λ r. if is_full g r then row_bytes g r else 0)
    (row_count g.memory)
    (λ r h. full_bytes g r (list_any (is_it r) (reached g)) (has_elements g r) refl)

-- ---- the whole by array and by row

-- the lists are counted by array, and their bytes by row of the table
pub start_by_row : (p : Parts) (plain : Members) → AreShapes p.toc plain → KeepsRows p → start_bytes p plain ≡ round4 p.header.static_size + round4 (10 * max (file_rows p plain) (sum_by (λ l. length (numbers_of (ground p plain) l)) (arrays_of (ground p plain)) + 1)) + sum_below (λ r. if is_full (ground p plain) r then row_bytes (ground p plain) r else 0) (row_count (ground p plain).memory)
start_by_row p plain shapes rules =
    let g = ground p plain in
    let order : leaves p.toc plain ≡ leaves_among p.toc plain 0 [] = leaves_are p.toc plain (size_of_table p.toc plain shapes.spelled) in
    let kept = are_kept p plain shapes order rules in
    ap₂
    (λ (n k : ℕ). round4 p.header.static_size + round4 (10 * max (file_rows p plain) (n + 1)) + k)
    (numbers_by_array g)
    (bytes_by_row g kept)
