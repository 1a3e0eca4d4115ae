use Rattle.std.proofs.Common.{◌≡◌, ◌+◌}
use Rattle.nxt_rows.specs.Rows.{row_count}
use Rattle.nxt_compact.proofs.Laws.Opening.{bytes_before}
use Rattle.nxt_compact.proofs.up.end_of_blocks.Given as goal

abbrev pub invariant-loop-row : goal.invariant-loop-row
invariant-loop-row l = (l.rows ≡ row_count l.pool l.table) × (l.end ≡ l.base + bytes_before l.pool l.table l.row)
