-- The leaves so far, and those of the entries that are left.
use Rattle.std.proofs.Common.{◌≡◌, ◌++◌, ◌<◌, ◌^◌, drop, All}
use Rattle.nxt_table.specs.Inside.LeafPasses.{leaves_from}
use Rattle.nxt_table.proofs.leaves.leaves_of.Given as goal

abbrev pub invariant-loop-i : goal.invariant-loop-i
invariant-loop-i l = record {
  same : l.leaves.items ++ leaves_from l.i (drop l.i l.placed) ≡ leaves_from 0 l.placed;
  places : All (λ x. x.place < 2 ^ 16) l.leaves.items;
}
