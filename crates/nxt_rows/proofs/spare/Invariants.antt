use Rattle.nxt_rows.proofs.Laws.FreeRows.{Walks}
use Rattle.nxt_rows.specs.Rows.{row_count}
use Rattle.std.proofs.Common.{◌-◌}
use Rattle.nxt_rows.proofs.spare.Given as goal

abbrev pub invariant-loop-row : goal.invariant-loop-row
invariant-loop-row l = Walks l.pool l.table l.free l.row

abbrev pub decreases-loop-row : goal.decreases-loop-row
decreases-loop-row l = row_count l.pool l.table - l.free
