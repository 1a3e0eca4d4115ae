-- The leaves so far have their defaults.
use Rattle.std.proofs.Common.{◌≡◌, ◌≤◌, drop, length, None}
use Rattle.nxt_table.specs.Inside.LeafPasses.{lacking_from, filled_from}
use Rattle.nxt_table.proofs.leaves.fill.Given as goal

abbrev pub invariant-loop-leaf : goal.invariant-loop-leaf
invariant-loop-leaf l = record {
  same : filled_from l.defaults l.at (drop l.leaf-index l.leaves) l.bytes ≡ filled_from l.defaults 0 l.leaves l.initial.bytes;
  fits : l.at ≤ length l.defaults;
  enough : lacking_from (length l.defaults) l.at (drop l.leaf-index l.leaves) ≡ None;
}
