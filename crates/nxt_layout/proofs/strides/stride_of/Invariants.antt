-- No row so far has elements.
use Rattle.std.proofs.Common.{◌≡◌, drop, find}
use Rattle.nxt_layout.specs.Rows.{has_elements}
use Rattle.nxt_layout.specs.Inside.RowPasses.{ground_of}
use Rattle.nxt_layout.proofs.strides.stride_of.Given as goal

abbrev pub invariant-loop-row : goal.invariant-loop-row
invariant-loop-row l = find (has_elements (ground_of l.space)) l.rows ≡ find (has_elements (ground_of l.space)) (drop l.row-index l.rows)
