-- What was added so far, and what is still to be added.
use Rattle.std.proofs.Common.{◌≡◌, ◌+◌, ◌*◌, ◌++◌}
use Rattle.nxt_types.specs.Shapes.{count, tree}
use Rattle.nxt_types.specs.Names.{size, sizes}
use Rattle.nxt_values.specs.Ahead.{ahead}
use Rattle.nxt_model.specs.Values.{values, flats}
use Rattle.nxt_values.specs.Regions.{values_there}
use Rattle.nxt_values.proofs.Read.Gathered.{Left, with_elements}
use Rattle.nxt_values.proofs.reading.+gather.Given as goal

abbrev pub decreases-gather : goal.decreases-gather
decreases-gather l = 2 * size (tree l.shape.now)

abbrev pub decreases-gather_members : goal.decreases-gather_members
decreases-gather_members l = 2 * sizes (ahead l.members) + 1

abbrev pub invariant-gather-loop-k : goal.invariant-gather-loop-k
invariant-gather-loop-k l =
    l.into
    ≡ l.fn.into
    ++ with_elements l.entries l.heap.lists (tree l.element.value) l.elements l.k

abbrev pub invariant-gather_members-loop-shape : goal.invariant-gather_members-loop-shape
invariant-gather_members-loop-shape l =
    let all = l.fn.members in
    Left
    l.entries
    l.heap.lists
    (sizes (ahead all))
    l.fn.into
    (l.fn.into ++ flats (values (values_there l.entries l.heap.lists (ahead all) all.first)))
    l.into
    (ahead l.members)
    l.members.first

abbrev pub decreases-gather_members-loop-shape : goal.decreases-gather_members-loop-shape
decreases-gather_members-loop-shape l = count (ahead l.members)
