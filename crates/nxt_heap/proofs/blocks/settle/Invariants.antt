use Rattle.std.proofs.Common.{◌-◌, ◌≤◌, ℕ}
use Rattle.nxt_types.specs.Pool.{pool_size}
use Rattle.nxt_heap.proofs.Settling.{IsSettling}
use Rattle.nxt_heap.proofs.blocks.settle.Given as goal

abbrev pub invariant-loop-settled : goal.invariant-loop-settled
invariant-loop-settled l = (upto : ℕ) × IsSettling l.initial.pool l.pool l.fronts l.initial.at l.at l.low l.settled upto × (l.settled ≤ l.k)

abbrev pub decreases-loop-settled : goal.decreases-loop-settled
decreases-loop-settled l = pool_size - l.low
