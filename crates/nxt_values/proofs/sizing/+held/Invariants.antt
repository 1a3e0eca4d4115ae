-- What was counted so far, and what is still to be counted.
use Rattle.std.proofs.Common.{◌+◌, ◌*◌}
use Rattle.nxt_types.specs.Shapes.{count, tree}
use Rattle.nxt_types.specs.Names.{size, sizes}
use Rattle.nxt_values.specs.Ahead.{ahead}
use Rattle.nxt_values.specs.Sizes.{size_there, sizes_there}
use Rattle.nxt_values.proofs.Laws.Sizes.{ElementsHeld, MembersHeld}
use Rattle.nxt_values.proofs.sizing.+held.Given as goal

abbrev pub decreases-held_size : goal.decreases-held_size
decreases-held_size l = 2 * size (tree l.shape.now)

abbrev pub decreases-held_sizes : goal.decreases-held_sizes
decreases-held_sizes l = 2 * sizes (ahead l.members) + 1

abbrev pub invariant-held_size-loop-k : goal.invariant-held_size-loop-k
invariant-held_size-loop-k l =
    ElementsHeld
    l.entries
    l.heap.lists
    (tree l.element.value)
    l.elements
    l.k
    l.inner
    (size_there l.entries l.heap.lists (tree l.shape) l.fn.at)

abbrev pub invariant-held_sizes-loop-shape : goal.invariant-held_sizes-loop-shape
invariant-held_sizes-loop-shape l =
    let all = l.fn.members in
    MembersHeld
    l.entries
    l.heap.lists
    (sizes (ahead all))
    (sizes_there l.entries l.heap.lists (ahead all) all.first)
    l.sum
    (ahead l.members)
    l.members.first

abbrev pub decreases-held_sizes-loop-shape : goal.decreases-held_sizes-loop-shape
decreases-held_sizes-loop-shape l = count (ahead l.members)
