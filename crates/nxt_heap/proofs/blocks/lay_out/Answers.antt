-- A table alone has no gap below it.
use Rattle.std.proofs.Common.{◌≡◌, ◌+◌, ◌∙◌, refl, arith}
use Rattle.nxt_blocks.specs.Blocks.{total}
use Rattle.nxt_compact.specs.Pools.{blocks_in}
use Rattle.nxt_heap.proofs.Settled.{none_unsettled}
use Rattle.nxt_heap.proofs.blocks.lay_out.Goals as goal

pub returns-clause-packed : goal.returns-clause-packed
returns-clause-packed c =
    let pool = c.free_all.new.pool in
    let base = c.args.base in
    let end = base + c.round4.result in
    record {
      table = refl;
      gaps = none_unsettled pool base base end c.free_all.ensures.pool (rw c.round4.ensures c.free_all.ensures.end) (omega (arith, c.round4.ensures, c.free_all.ensures.total));
    }
