-- One more row.
use Rattle.std.proofs.Common.{sym, ap, ◌∙◌, ◌++◌}
use Rattle.nxt_list.specs.Listing.{row_line}
use Rattle.nxt_list.specs.Inside.RowLines.{memory_of}
use Rattle.nxt_list.proofs.Lines.{row_more}
use Rattle.nxt_list.proofs.rows.push_all_rows.Goals as goal

pub loop-row-preserved : goal.loop-row-preserved
loop-row-preserved c =
    let m = memory_of c.args.layout.now in
    c.in_ok-push_row.ensures
    ∙ ap (λ text. text ++ row_line m c.loop-row.row) c.loop-row.invariant
    ∙ sym (row_more c.args.into.now m c.loop-row.row)
