use Rattle.nxt_asm_parts.specs.Defaults.{return_leaves}
use Rattle.nxt_asm_parts.proofs.DefaultLeaves.{leaves_next}
use Rattle.nxt_asm_parts.proofs.defaults.write_returns.Goals as goal

pub loop-block-preserved : goal.loop-block-preserved
loop-block-preserved c =
    leaves_next return_leaves c.args.blocks.now c.loop-block.block-index c.block-item.result c.args.defaults.now c.loop-block.defaults
    c.write_return.new.defaults c.loop-block-test.true c.block-item.is c.loop-block.invariant c.in_ok-write_return.ensures
