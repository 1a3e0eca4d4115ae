-- The text so far has the lines of the rows before this one.
use Rattle.std.proofs.Common.{◌≡◌, ◌++◌}
use Rattle.nxt_list.specs.Listing.{lines_of_rows}
use Rattle.nxt_list.specs.Inside.RowLines.{memory_of}
use Rattle.nxt_list.proofs.rows.push_all_rows.Given as goal

abbrev pub invariant-loop-row : goal.invariant-loop-row
invariant-loop-row l = l.into ≡ l.fn.into ++ lines_of_rows (memory_of l.layout) l.row
