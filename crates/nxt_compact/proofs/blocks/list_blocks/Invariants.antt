use Rattle.std.proofs.Common.{◌≡◌, ◌≤◌, length}
use Rattle.nxt_rows.specs.Rows.{row_count}
use Rattle.nxt_compact.specs.Orders.{Listed}
use Rattle.nxt_compact.proofs.blocks.list_blocks.Given as goal

abbrev pub invariant-loop-row : goal.invariant-loop-row
invariant-loop-row l =
    (l.rows ≡ row_count l.pool l.table) × (l.blocks ≤ l.row) × (length l.keys ≡ length l.initial.keys) × Listed l.pool l.table l.row l.keys l.blocks
