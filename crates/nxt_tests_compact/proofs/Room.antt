-- The bytes of all blocks of a pool whose blocks stand as they have to.
use Rattle.std.proofs.Common.{ℕ, ◌+◌, ◌*◌, ◌<◌, ◌≤◌, List, length, arith}
use Rattle.nxt_rows.specs.Rows.{dope_row, row_count}
use Rattle.nxt_blocks.specs.Blocks.{total}
use Rattle.nxt_blocks.proofs.Laws.Packing.{fits}
use Rattle.nxt_compact.specs.Pools.{block_bytes, blocks_in, IsSound}
use Rattle.nxt_compact.proofs.Laws.Shifted.{bytes_of_table}
use Rattle.nxt_compact.proofs.Laws.InPool.{standing}
use Rattle.nxt_compact.proofs.Laws.Going.{first_full}
use Rattle.nxt_compact.proofs.Laws.Opening.{bytes_before, before_most}

-- the rows lie in the pool
pub row_inside : (pool : List ℕ) (table base row : ℕ) → IsSound pool table base → row < row_count pool table → table + 10 * (row + 1) ≤ length pool
row_inside pool table base row s within = omega (arith, within, bytes_of_table (dope_row pool table 0) s.stride, s.within 0 (first_full pool table base s), s.place)

-- the blocks fit above the static bytes
pub all_inside : (pool : List ℕ) (table base : ℕ) → IsSound pool table base → base + total (blocks_in pool table) ≤ length pool
all_inside pool table base s =
    let first = first_full pool table base s in
    fits (blocks_in pool table) base (length pool) (omega (arith, s.above 0 first, s.within 0 first)) (standing pool table base s)

-- so do those up to a row
pub next_inside : (pool : List ℕ) (table base row : ℕ) → IsSound pool table base → row < row_count pool table → base + bytes_before pool table row + block_bytes (dope_row pool table row) ≤ length pool
next_inside pool table base row s within = omega (arith, before_most pool table row within, all_inside pool table base s)
