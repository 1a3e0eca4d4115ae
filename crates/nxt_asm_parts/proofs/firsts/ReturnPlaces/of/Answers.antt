use Rattle.std.proofs.Common.{◌<◌, length, arith}
use Rattle.nxt_asm_parts.proofs.FirstPlaces.{before_more, count_more, few_subroutines}
use Rattle.nxt_asm_parts.proofs.firsts.ReturnPlaces.of.Goals as goal

pub subroutines_with-count-requires : goal.subroutines_with-count-requires
subroutines_with-count-requires c =
    let few = few_subroutines c.args.blocks.now c.loop-block.block-index c.loop-block.count c.loop-block.invariant.count in
    grind (arith, few, c.loop-block-test.true, c.well_formed)

pub loop-block-preserved : goal.loop-block-preserved
loop-block-preserved c =
    let bs = c.args.blocks.now in
    let i = c.loop-block.block-index in
    let b = c.block-item.result in
    let lt : i < length bs = omega (arith, c.loop-block-test.true) in
    record {
      count = count_more bs i b c.loop-block.count c.subroutines_with-count.result lt c.block-item.is c.loop-block.invariant.count c.subroutines_with-count.ensures;
      before = before_more bs i b c.loop-block.count c.loop-block.before c.push.new.self lt c.block-item.is c.loop-block.invariant.count c.loop-block.invariant.before c.in_ok-push.ensures.ok;
    }
