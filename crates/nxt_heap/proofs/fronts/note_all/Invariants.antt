use Rattle.std.proofs.Common.{◌≡◌}
use Rattle.nxt_rows.specs.Rows.{row_count}
use Rattle.nxt_heap.specs.Inside.Pool.{AreFrontsBefore}
use Rattle.nxt_heap.proofs.fronts.note_all.Given as goal

abbrev pub invariant-loop-row : goal.invariant-loop-row
invariant-loop-row l = (l.rows ≡ row_count l.pool l.table) × AreFrontsBefore l.pool l.table l.row l.fronts
