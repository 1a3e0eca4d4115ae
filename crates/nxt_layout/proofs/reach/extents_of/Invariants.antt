-- The leaves so far, and those that are left.
use Rattle.std.proofs.Common.{◌≡◌, ◌<◌, ℕ, drop, fold, length}
use Rattle.std.specs.Prelude.{slice_index}
use Rattle.nxt_layout.specs.Inside.RowPasses.{wider, extent_in}
use Rattle.nxt_layout.proofs.reach.extents_of.Given as goal

abbrev pub invariant-loop-leaf : goal.invariant-loop-leaf
invariant-loop-leaf l = record {
  count : length l.extents.items ≡ l.entries;
  extents : (a : ℕ) → a < l.entries → fold (wider a) (slice_index l.extents.items a) (drop l.leaf-index l.leaves) ≡ extent_in l.leaves a;
}
