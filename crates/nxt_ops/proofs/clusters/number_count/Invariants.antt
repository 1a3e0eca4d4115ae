-- So many members are numbers.
use Rattle.std.specs.Prelude.{◌≡◌, true, take}
use Rattle.std.specs.List.{list_all}
use Rattle.nxt_types.specs.Shapes.{is_number, tree}
use Rattle.nxt_ops.proofs.clusters.number_count.Given as goal

abbrev pub invariant-loop-shape : goal.invariant-loop-shape
invariant-loop-shape l = list_all (λ s. is_number (tree s)) (take l.shape-index l.members) ≡ true
