use Rattle.std.proofs.Common.{ℕ, Bool, List, map}
use Rattle.nxt_model.specs.Nbc.Forms.{Form}
use Rattle.nxt_model.specs.Nbc.Text.{LabelAt}
use Rattle.nxt_model.specs.Nbc.NbcRules.{uses_unknown}
use Rattle.nxt_nbc_lines.specs.Firsts.{first_in_blocks}
use Rattle.nxt_nbc_names.specs.BlocksSeen.{block_seen}
use Rattle.nxt_nbc_names.specs.SourceSeen.{source_seen}
use Rattle.nxt_nbc.proofs.UnknownNames.{block_whole_at, first_more}
use Rattle.nxt_nbc.proofs.unknown.first_in_blocks.Goals as goal

pub first_in_block-requires : goal.first_in_block-requires
first_in_block-requires c =
    block_whole_at c.args.blocks.now c.loop-block.block-index c.block-item.result c.requires c.loop-block-test.true c.block-item.is

pub loop-block-preserved : goal.loop-block-preserved
loop-block-preserved c =
    let src = source_seen c.args.source.now in
    let test : ℕ → List LabelAt → Form → Bool = λ line ls. uses_unknown src ls line in
    first_more test c.args.blocks.now c.loop-block.block-index c.block-item.result c.loop-block-test.true c.block-item.is c.loop-block.first c.lesser-first.result
    c.in_ok-first_in_block.field-0 (first_in_blocks test (map block_seen c.args.blocks.now)) c.loop-block.invariant c.in_ok-first_in_block.ensures c.lesser-first.ensures
