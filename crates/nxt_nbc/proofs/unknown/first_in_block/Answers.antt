use Rattle.nxt_nbc_lines.proofs.Laws.Whole.{line_whole_at}
use Rattle.nxt_nbc.proofs.unknown.first_in_block.Goals as goal

pub uses_unknown-requires : goal.uses_unknown-requires
uses_unknown-requires c =
    line_whole_at c.args.block.now.lines.now c.loop-line.line-index c.line-item.result c.requires c.loop-line-test.true c.line-item.is
