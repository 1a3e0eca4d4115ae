-- No row so far is named twice.
use Rattle.std.proofs.Common.{◌≡◌, ◌-◌}
use Rattle.std.specs.Prelude.{nat_lt, slice_index}
use Rattle.nxt_layout.specs.Inside.RowPasses.{first_below}
use Rattle.nxt_layout.proofs.rows.shared.Given as goal

abbrev pub invariant-loop-row : goal.invariant-loop-row
invariant-loop-row l = first_below (λ r. nat_lt 1 (slice_index l.marks r)) 0 l.rows ≡ first_below (λ r. nat_lt 1 (slice_index l.marks r)) l.row (l.rows - l.row)
