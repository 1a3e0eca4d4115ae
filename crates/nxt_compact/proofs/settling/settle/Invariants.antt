use Rattle.std.proofs.Common.{ℕ, ◌≤◌}
use Rattle.nxt_compact.proofs.Laws.Going.{Going}
use Rattle.nxt_compact.proofs.Ordered.{Ahead}
use Rattle.nxt_compact.proofs.settling.settle.Given as goal

abbrev pub invariant-loop-key : goal.invariant-loop-key
invariant-loop-key l =
    (upto : ℕ)
    × Going l.initial.pool l.pool l.initial.table l.table l.base l.at l.settled upto
    × Ahead l.order l.key-index upto
    × (l.settled ≤ l.k)
