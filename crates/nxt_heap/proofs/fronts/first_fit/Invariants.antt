use Rattle.std.proofs.Common.{◌-◌, length}
use Rattle.nxt_heap.proofs.Begins.{Passed}
use Rattle.nxt_heap.proofs.fronts.first_fit.Given as goal

abbrev pub invariant-loop-at : goal.invariant-loop-at
invariant-loop-at l = Passed l.pool l.table l.start l.bytes l.at

abbrev pub decreases-loop-at : goal.decreases-loop-at
decreases-loop-at l = length l.pool - l.at
