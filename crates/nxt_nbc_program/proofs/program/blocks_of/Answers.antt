use Rattle.std.proofs.Common.{◌∙◌, ◌++◌, [], ◌∷◌, ap, map, take}
use Rattle.std.specs.List.{enumerate_from}
use Rattle.nxt_model.specs.Nbc.Text.{program_block}
use Rattle.nxt_nbc_names.specs.BlocksSeen.{block_seen}
use Rattle.nxt_nbc_names.specs.SourceSeen.{source_seen}
use Rattle.nxt_nbc_program.proofs.Bodies.{block_there, block_whole, blocks_more, number_there}
use Rattle.nxt_nbc_program.proofs.program.blocks_of.Goals as goal

pub block_of-requires-clause-within : goal.block_of-requires-clause-within
block_of-requires-clause-within c =
    number_there (source_seen c.args.source.now) c.numbered-block-items.result.now c.numbered-block-items.ensures c.loop-number.number c.block-item.result
    c.loop-number-test.true c.block-item.is

pub block_of-requires-clause-block : goal.block_of-requires-clause-block
block_of-requires-clause-block c =
    block_there (source_seen c.args.source.now) c.numbered-block-items.result.now c.numbered-block-items.ensures c.loop-number.number c.block-item.result
    c.loop-number-test.true c.block-item.is

pub block_of-requires-clause-whole : goal.block_of-requires-clause-whole
block_of-requires-clause-whole c =
    (block_whole (source_seen c.args.source.now) c.numbered-block-items.result.now c.numbered-block-items.ensures c.loop-number.number c.block-item.result
    c.loop-number-test.true c.block-item.is c.requires.whole).0

pub block_of-requires-clause-few : goal.block_of-requires-clause-few
block_of-requires-clause-few c =
    (block_whole (source_seen c.args.source.now) c.numbered-block-items.result.now c.numbered-block-items.ensures c.loop-number.number c.block-item.result
    c.loop-number-test.true c.block-item.is c.requires.whole).1

pub loop-number-preserved : goal.loop-number-preserved
loop-number-preserved c =
    let src = source_seen c.args.source.now in
    let bs = c.numbered-block-items.result.now in
    let k = c.loop-number.number in
    c.in_ok-push.ensures.ok
    ∙ ap (λ xs. xs ++ c.in_ok-written.written ∷ []) c.loop-number.invariant
    ∙ ap (λ b. map (program_block src) (enumerate_from 0 (map block_seen (take k bs))) ++ b ∷ []) c.in_ok-written.ensures
    ∙ blocks_more src bs k c.block-item.result c.loop-number-test.true c.block-item.is
