-- What is filled so far, and what is still to be filled.
use Rattle.std.proofs.Common.{◌≡◌, ◌+◌, ◌*◌, false}
use Rattle.nxt_types.specs.Shapes.{count, tree, has_list, some_list}
use Rattle.nxt_heap.specs.Moves.{KeepsFront, RowsStay}
use Rattle.nxt_types.specs.Names.{size, sizes}
use Rattle.nxt_values.specs.Ahead.{ahead}
use Rattle.nxt_values.specs.Fills.{needs_for_all, needs_for_each, FillAllThere}
use Rattle.nxt_values.specs.Elements.{FillsElements}
use Rattle.nxt_values.proofs.Laws.Steps.{ElementsLeft, MembersLeft}
use Rattle.nxt_values.proofs.writing.+fill.Given as goal

abbrev pub decreases-fill : goal.decreases-fill
decreases-fill l = 2 * size (tree l.shape.now)

abbrev pub decreases-fill_ahead : goal.decreases-fill_ahead
decreases-fill_ahead l = 2 * sizes (ahead l.members) + 1

abbrev pub decreases-fill_elements : goal.decreases-fill_elements
decreases-fill_elements l = 2 * size (tree l.element.now) + 1

abbrev pub invariant-fill_elements-loop-k : goal.invariant-fill_elements-loop-k
invariant-fill_elements-loop-k l =
    ElementsLeft
    l.entries
    l.heap.lists
    (tree l.element)
    l.elements
    l.k
    l.left
    (needs_for_each l.fn.heap.lists (tree l.element) l.elements.count l.from)
    (λ f rest. FillsElements l.entries l.fn.heap.lists f (tree l.element) l.elements l.from rest)
    × (has_list (tree l.element) ≡ false → RowsStay l.fn.heap.pool l.heap.pool)
    × KeepsFront l.fn.heap l.heap

abbrev pub invariant-fill_ahead-loop-shape : goal.invariant-fill_ahead-loop-shape
invariant-fill_ahead-loop-shape l =
    let all = l.fn.members in
    MembersLeft
    l.entries
    l.heap.lists
    (sizes (ahead all))
    l.left
    (needs_for_all l.fn.heap.lists (ahead all) l.fn.from)
    (λ f rest. FillAllThere l.entries l.fn.heap.lists f (ahead all) all.first l.fn.from rest)
    (ahead l.members)
    l.members.first
    × (some_list (ahead all) ≡ false → (some_list (ahead l.members) ≡ false) × RowsStay l.fn.heap.pool l.heap.pool)
    × KeepsFront l.fn.heap l.heap

abbrev pub decreases-fill_ahead-loop-shape : goal.decreases-fill_ahead-loop-shape
decreases-fill_ahead-loop-shape l = count (ahead l.members)
