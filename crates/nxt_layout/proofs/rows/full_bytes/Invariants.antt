-- The bytes of the rows so far.
use Rattle.std.proofs.Common.{◌≡◌, ◌≤◌, ◌*◌, ◌^◌, if◌then◌else◌}
use Rattle.nxt_layout.specs.Inside.RowPasses.{ground_of, is_full_by, row_bytes}
use Rattle.nxt_facts.specs.Sums.{sum_below}
use Rattle.nxt_layout.proofs.rows.full_bytes.Given as goal

abbrev pub invariant-loop-row : goal.invariant-loop-row
invariant-loop-row l = record {
  sum : l.bytes ≡ sum_below (λ r. if is_full_by (ground_of l.space) l.marks r then row_bytes (ground_of l.space) r else 0) l.row;
  bound : l.bytes ≤ 2 ^ 33 * l.row;
}
