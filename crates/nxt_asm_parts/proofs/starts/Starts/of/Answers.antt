use Rattle.std.proofs.Common.{◌<◌, length, ap, ◌∙◌, arith}
use Rattle.nxt_model.specs.Assembled.{starts_from}
use Rattle.nxt_asm_parts.proofs.Laws.Words.{size_more, blocks_more}
use Rattle.nxt_asm_parts.proofs.starts.Starts.of.Goals as goal

pub loop-block-preserved : goal.loop-block-preserved
loop-block-preserved c =
    let bs = c.args.blocks.now in
    let i = c.loop-block.block-index in
    let b = c.block-item.result in
    let here = c.loop-block.here in
    let lt : i < length bs = omega (arith, c.loop-block-test.true) in
    let own = c.in_ok-starts.ensures ∙ ap (starts_from here) c.as_slice.ensures in
    record {
      word = size_more bs i b here c.end_of-here.result lt c.block-item.is c.loop-block.invariant.word (c.end_of-here.ensures here b.body (c.as_slice-in-loop-block.ensures ∙ own));
      found = blocks_more bs i b here c.in_ok-starts.starts c.loop-block.all c.push.new.self lt c.block-item.is c.loop-block.invariant.word c.loop-block.invariant.found own c.in_ok-push.ensures.ok;
    }
