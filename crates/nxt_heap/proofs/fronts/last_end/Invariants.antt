use Rattle.nxt_heap.proofs.Begins.{NoneAbove}
use Rattle.nxt_heap.proofs.fronts.last_end.Given as goal

abbrev pub invariant-loop-at : goal.invariant-loop-at
invariant-loop-at l = NoneAbove l.fronts l.at l.below

abbrev pub decreases-loop-at : goal.decreases-loop-at
decreases-loop-at l = l.at
