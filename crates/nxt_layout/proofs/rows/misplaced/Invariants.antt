-- No row so far is misplaced.
use Rattle.std.proofs.Common.{◌≡◌, ◌-◌, ◌&&◌, not}
use Rattle.nxt_layout.specs.Rows.{is_placed}
use Rattle.nxt_layout.specs.Inside.RowPasses.{ground_of, first_below, is_full_by}
use Rattle.nxt_layout.proofs.rows.misplaced.Given as goal

abbrev pub invariant-loop-row : goal.invariant-loop-row
invariant-loop-row l = first_below (λ r. is_full_by (ground_of l.space) l.marks r && not (is_placed (ground_of l.space) r)) 0 l.rows ≡ first_below (λ r. is_full_by (ground_of l.space) l.marks r && not (is_placed (ground_of l.space) r)) l.row (l.rows - l.row)
