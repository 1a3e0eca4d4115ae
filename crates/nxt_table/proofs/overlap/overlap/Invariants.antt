-- The first pair among the leaves that are done, and the first of them on each byte.
use Rattle.std.proofs.Common.{◌≡◌, ◌≤◌, ℕ, drop, length, Option}
use Rattle.std.specs.BTreeMap.{get}
use Rattle.nxt_table.specs.Inside.LeafPasses.{first_leaf, first_pair}
use Rattle.nxt_table.specs.Inside.Owners.{byte_cmp, covers}
use Rattle.nxt_table.proofs.overlap.overlap.Given as goal

abbrev pub invariant-loop-left : goal.invariant-loop-left
invariant-loop-left l = record {
  within : l.left ≤ length l.leaves;
  pair : l.found ≡ first_pair (drop l.left l.leaves);
  owners : (a : Option ℕ) (x : ℕ) → get byte_cmp l.owners (a, x) ≡ first_leaf (covers (a, x)) (drop l.left l.leaves);
}

abbrev pub decreases-loop-left : goal.decreases-loop-left
decreases-loop-left l = l.left
