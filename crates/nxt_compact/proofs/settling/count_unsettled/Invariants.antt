use Rattle.std.proofs.Common.{◌≡◌, ℕ}
use Rattle.nxt_blocks.specs.Blocks.{packed, unsettled_below}
use Rattle.nxt_compact.specs.Pools.{blocks_in}
use Rattle.nxt_compact.proofs.Ordered.{Ahead}
use Rattle.nxt_compact.proofs.settling.count_unsettled.Given as goal

abbrev pub invariant-loop-key : goal.invariant-loop-key
invariant-loop-key l =
    (upto : ℕ)
    × (l.at ≡ packed l.base (blocks_in l.pool l.table) upto)
    × (l.unsettled ≡ unsettled_below l.base (blocks_in l.pool l.table) upto)
    × Ahead l.order l.key-index upto
