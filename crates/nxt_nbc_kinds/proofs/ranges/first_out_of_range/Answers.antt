use Rattle.nxt_nbc_lines.proofs.Laws.Whole.{line_whole_at}
use Rattle.nxt_nbc_kinds.proofs.ranges.first_out_of_range.Goals as goal

pub is_out_of_range-requires : goal.is_out_of_range-requires
is_out_of_range-requires c = line_whole_at c.args.lines.now c.loop-line.line-index c.line-item.result c.requires c.loop-line-test.true c.line-item.is
