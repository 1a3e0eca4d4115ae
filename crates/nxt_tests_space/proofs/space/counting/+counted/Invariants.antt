-- What was counted so far, and what is still to be counted.
use Rattle.std.proofs.Common.{drop, map}
use Rattle.nxt_types.specs.Shapes.{tree, members}
use Rattle.nxt_types.specs.Names.{sizes}
use Rattle.nxt_values.specs.Fills.{filled, all_filled}
use Rattle.nxt_values.specs.Sizes.{size_of_filled, size_of_all_filled}
use Rattle.nxt_values.proofs.Laws.Sizes.{ElementsSpelled, MembersSpelled}
use Rattle.nxt_tests_space.proofs.space.counting.+counted.Given as goal

abbrev pub invariant-counted-loop : goal.invariant-counted-loop
invariant-counted-loop l =
    ElementsSpelled
    (tree l.element.value)
    l.stride
    l.count
    l.counter
    l.inner
    l.left
    (size_of_filled (tree l.shape) l.from)
    (filled (tree l.shape) l.from).1

abbrev pub invariant-counted_all-loop-shape : goal.invariant-counted_all-loop-shape
invariant-counted_all-loop-shape l =
    MembersSpelled
    (sizes (members (map tree l.shapes)))
    (members (map tree (drop l.shape-index l.shapes)))
    l.sum
    l.left
    (size_of_all_filled (members (map tree l.shapes)) l.from)
    (all_filled (members (map tree l.shapes)) l.from).1
