-- What is still to be added of what a file's memory reads as.
use Rattle.std.proofs.Common.{◌+◌, ◌*◌, ◌++◌, List, drop, map}
use Rattle.nxt_types.specs.Shapes.{tree, members}
use Rattle.nxt_types.specs.Names.{size, sizes}
use Rattle.nxt_model.specs.Values.{Value, flat}
use Rattle.nxt_model.specs.Reading.{HeldList, Reads}
use Rattle.nxt_space.specs.Inside.Starts.{memory_of}
use Rattle.nxt_space.proofs.Start.FlatForms.{ElementsToAdd, MembersBehind}
use Rattle.nxt_space.proofs.starting.+start.Given as goal

abbrev pub decreases-add_start : goal.decreases-add_start
decreases-add_start l = 2 * size (tree l.shape.now)

abbrev pub decreases-add_starts : goal.decreases-add_starts
decreases-add_starts l = 2 * sizes (members (map tree l.shapes.now)) + 1

abbrev pub invariant-add_start-loop-k : goal.invariant-add_start-loop-k
invariant-add_start-loop-k l =
    (v : Value) (lists : List HeldList) → Reads (memory_of l.layout) l.entry (tree l.shape) l.base v lists →
    ElementsToAdd (Reads (memory_of l.layout) (l.entry + 1) (tree l.element.value)) l.row.place l.row.stride l.row.count l.k l.into (l.fn.into ++ flat v)

abbrev pub invariant-add_starts-loop-shape : goal.invariant-add_starts-loop-shape
invariant-add_starts-loop-shape l =
    MembersBehind
    (memory_of l.layout)
    (members (map tree l.shapes))
    (members (map tree (drop l.shape-index l.shapes)))
    l.fn.entry
    l.entry
    l.base
    l.fn.into
    l.into
