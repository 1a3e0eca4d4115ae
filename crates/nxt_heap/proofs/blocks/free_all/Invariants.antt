use Rattle.nxt_heap.proofs.AtStart.{Freed}
use Rattle.nxt_heap.proofs.blocks.free_all.Given as goal

abbrev pub invariant-loop-row : goal.invariant-loop-row
invariant-loop-row l = Freed l.pool l.table l.rows l.row

abbrev pub decreases-loop-row : goal.decreases-loop-row
decreases-loop-row l = l.row
