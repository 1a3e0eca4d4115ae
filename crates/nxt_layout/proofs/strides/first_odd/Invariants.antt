-- The least so far, and those that are left.
use Rattle.std.proofs.Common.{◌≡◌, drop, filter}
use Rattle.nxt_table.specs.Inside.Owners.{least_of}
use Rattle.nxt_layout.specs.Inside.RowPasses.{ground_of, least, is_odd}
use Rattle.nxt_layout.proofs.strides.first_odd.Given as goal

abbrev pub invariant-loop-row : goal.invariant-loop-row
invariant-loop-row l = least_of l.odd (least (filter (is_odd (ground_of l.space) l.stride) (drop l.row-index l.rows))) ≡ least (filter (is_odd (ground_of l.space) l.stride) l.rows)
