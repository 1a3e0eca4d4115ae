-- The lists that are freed so far, and those that are still to be freed.
use Rattle.std.proofs.Common.{◌≡◌, ◌+◌, ◌*◌}
use Rattle.nxt_types.specs.Shapes.{count, tree}
use Rattle.nxt_types.specs.Names.{size, sizes}
use Rattle.nxt_values.specs.Ahead.{ahead}
use Rattle.nxt_values.specs.Writes.{without, all_rows_there}
use Rattle.nxt_values.proofs.Free.Elements.{rows_until}
use Rattle.nxt_values.proofs.Free.Members.{Left}
use Rattle.nxt_values.proofs.writing.+free.Given as goal

abbrev pub decreases-free_lists : goal.decreases-free_lists
decreases-free_lists l = 2 * size (tree l.shape.now)

abbrev pub decreases-free_members : goal.decreases-free_members
decreases-free_members l = 2 * sizes (ahead l.members) + 1

abbrev pub invariant-free_lists-loop-k : goal.invariant-free_lists-loop-k
invariant-free_lists-loop-k l =
    l.heap.lists ≡ without l.fn.heap.lists (rows_until l.entries l.fn.heap.lists (tree l.element.value) l.elements l.k)

abbrev pub invariant-free_members-loop-shape : goal.invariant-free_members-loop-shape
invariant-free_members-loop-shape l =
    let all = l.fn.members in
    Left
    l.entries
    l.fn.heap.lists
    (sizes (ahead all))
    (all_rows_there l.entries l.fn.heap.lists (ahead all) all.first)
    l.heap.lists
    (ahead l.members)
    l.members.first

abbrev pub decreases-free_members-loop-shape : goal.decreases-free_members-loop-shape
decreases-free_members-loop-shape l = count (ahead l.members)
