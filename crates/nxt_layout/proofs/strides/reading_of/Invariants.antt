-- What is read so far, and the rows that are left.
use Rattle.std.proofs.Common.{◌≡◌, ◌++◌, ◌&&◌, not, drop, filter}
use Rattle.nxt_table.specs.Inside.Owners.{least_of}
use Rattle.nxt_layout.specs.Rows.{is_placed}
use Rattle.nxt_layout.specs.Inside.RowPasses.{ground_of, least, odd_of, is_even}
use Rattle.nxt_layout.proofs.strides.reading_of.Given as goal

abbrev pub invariant-loop-row : goal.invariant-loop-row
invariant-loop-row l = record {
  read : l.read.items ++ filter (λ r. is_placed (ground_of l.space) r && is_even (ground_of l.space) l.bytes (odd_of (ground_of l.space) l.all) r) (drop l.row-index l.all) ≡ filter (λ r. is_placed (ground_of l.space) r && is_even (ground_of l.space) l.bytes (odd_of (ground_of l.space) l.all) r) l.all;
  missed : least_of l.misstrided (least (filter (λ r. not (is_even (ground_of l.space) l.bytes (odd_of (ground_of l.space) l.all) r)) (drop l.row-index l.all))) ≡ least (filter (λ r. not (is_even (ground_of l.space) l.bytes (odd_of (ground_of l.space) l.all) r)) l.all);
}
