-- The spans so far, and those that are left.
use Rattle.std.proofs.Common.{◌≡◌, ◌-◌, ◌++◌}
use Rattle.nxt_layout.specs.Inside.RowPasses.{ground_of, is_full_by, spans_from, spans_of}
use Rattle.nxt_layout.proofs.spans.spans_of.Given as goal

abbrev pub invariant-loop-row : goal.invariant-loop-row
invariant-loop-row l = l.spans.items ++ spans_from (ground_of l.space) (is_full_by (ground_of l.space) l.marks) l.row (l.rows - l.row) ≡ spans_of (ground_of l.space) (is_full_by (ground_of l.space) l.marks)
