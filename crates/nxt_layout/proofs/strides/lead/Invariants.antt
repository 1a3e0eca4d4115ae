-- The least so far, and those that are left.
use Rattle.std.proofs.Common.{◌≡◌, drop, filter}
use Rattle.nxt_table.specs.Inside.Owners.{least_of}
use Rattle.nxt_layout.specs.Rows.{has_elements}
use Rattle.nxt_layout.specs.Inside.RowPasses.{ground_of, least}
use Rattle.nxt_layout.proofs.strides.lead.Given as goal

abbrev pub invariant-loop-row : goal.invariant-loop-row
invariant-loop-row l = least_of l.lead (least (filter (has_elements (ground_of l.space)) (drop l.row-index l.rows))) ≡ least (filter (has_elements (ground_of l.space)) l.rows)
