-- What was counted so far, and what is still to be counted.
use Rattle.std.proofs.Common.{◌+◌, ◌*◌, drop, map}
use Rattle.nxt_types.specs.Shapes.{tree, members}
use Rattle.nxt_types.specs.Names.{size, sizes}
use Rattle.nxt_values.specs.Fills.{filled, all_filled}
use Rattle.nxt_values.specs.Sizes.{size_of_filled, size_of_all_filled}
use Rattle.nxt_values.proofs.Laws.Sizes.{ElementsSpelled, MembersSpelled}
use Rattle.nxt_values.proofs.sizing.+spelled.Given as goal

abbrev pub decreases-spelled_size : goal.decreases-spelled_size
decreases-spelled_size l = 2 * size (tree l.shape.now)

abbrev pub decreases-spelled_sizes : goal.decreases-spelled_sizes
decreases-spelled_sizes l = 2 * sizes (members (map tree l.shapes.now)) + 1

abbrev pub invariant-spelled_size-loop : goal.invariant-spelled_size-loop
invariant-spelled_size-loop l =
    ElementsSpelled
    (tree l.element.value)
    l.stride
    l.count
    l.counter
    l.inner
    l.left
    (size_of_filled (tree l.shape) l.from)
    (filled (tree l.shape) l.from).1

abbrev pub invariant-spelled_sizes-loop-shape : goal.invariant-spelled_sizes-loop-shape
invariant-spelled_sizes-loop-shape l =
    MembersSpelled
    (sizes (members (map tree l.shapes)))
    (members (map tree (drop l.shape-index l.shapes)))
    l.sum
    l.left
    (size_of_all_filled (members (map tree l.shapes)) l.from)
    (all_filled (members (map tree l.shapes)) l.from).1
