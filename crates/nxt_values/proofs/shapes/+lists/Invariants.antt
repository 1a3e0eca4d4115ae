-- The shapes before this one hold no list.
use Rattle.std.proofs.Common.{◌≡◌, map, drop}
use Rattle.nxt_types.specs.Shapes.{tree, members, some_list}
use Rattle.nxt_values.proofs.shapes.+lists.Given as goal

abbrev pub invariant-some_list-loop-shape : goal.invariant-some_list-loop-shape
invariant-some_list-loop-shape l = some_list (members (map tree l.shapes)) ≡ some_list (members (map tree (drop l.shape-index l.shapes)))
