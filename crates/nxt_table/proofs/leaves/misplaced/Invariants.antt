-- None was found so far.
use Rattle.std.proofs.Common.{◌≡◌, drop}
use Rattle.nxt_table.specs.Inside.LeafPasses.{first_leaf, passes_end}
use Rattle.nxt_table.proofs.leaves.misplaced.Given as goal

abbrev pub invariant-loop-leaf : goal.invariant-loop-leaf
invariant-loop-leaf l = first_leaf (passes_end l.static_size) l.leaves ≡ first_leaf (passes_end l.static_size) (drop l.leaf-index l.leaves)
