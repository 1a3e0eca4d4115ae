-- The elements so far, and those of the rows that are left.
use Rattle.std.proofs.Common.{◌≡◌, ◌≤◌, ◌+◌, ◌*◌, drop, length, flat_map}
use Rattle.nxt_layout.specs.Rows.{elements_of}
use Rattle.nxt_layout.specs.Inside.RowPasses.{ground_of}
use Rattle.nxt_layout.proofs.known.count_of.Given as goal

abbrev pub invariant-loop-row : goal.invariant-loop-row
invariant-loop-row l = record {
  same : l.count + length (flat_map (elements_of (ground_of l.space)) (drop l.row-index l.rows)) ≡ length (flat_map (elements_of (ground_of l.space)) l.rows);
  bound : l.count ≤ 65535 * l.row-index;
}
