-- The arrays so far, and those that are left.
use Rattle.std.proofs.Common.{◌≤◌, All, drop, length}
use Rattle.std.specs.Prelude.{slice_index}
use Rattle.nxt_layout.specs.Inside.RowPasses.{ground_of}
use Rattle.nxt_layout.specs.Inside.Known.{IsOpen, IsKnown}
use Rattle.nxt_layout.proofs.Dope.Told.{IsLeft}
use Rattle.nxt_layout.proofs.reach.arrays_of.Given as goal

abbrev pub invariant-loop-leaf : goal.invariant-loop-leaf
invariant-loop-leaf l = record {
  left : IsLeft (ground_of l.space) (slice_index l.extents) l.leaves (drop l.leaf-index l.leaves) l.stack.items l.arrays;
  open_still : All (IsOpen (ground_of l.space)) l.stack.items;
  known : IsKnown (ground_of l.space) l.known;
  count : length l.arrays.found.items ≤ l.leaf-index;
}
