-- The defaults so far fit.
use Rattle.std.proofs.Common.{◌≡◌, ◌≤◌, drop}
use Rattle.nxt_table.specs.Inside.LeafPasses.{lacking_from}
use Rattle.nxt_table.proofs.leaves.lacking_default.Given as goal

abbrev pub invariant-loop-leaf : goal.invariant-loop-leaf
invariant-loop-leaf l = record {
  same : lacking_from l.default_size 0 l.leaves ≡ lacking_from l.default_size l.at (drop l.leaf-index l.leaves);
  fits : l.at ≤ l.default_size;
}
