-- The entries of the shapes so far and of those to come.
use Rattle.std.proofs.Common.{◌≡◌, ◌+◌, ◌*◌, drop, map}
use Rattle.nxt_types.specs.Shapes.{tree, members}
use Rattle.nxt_types.specs.Names.{size, sizes}
use Rattle.nxt_values.proofs.reading.+size.Given as goal

abbrev pub decreases-size_of : goal.decreases-size_of
decreases-size_of l = 2 * size (tree l.shape.now)

abbrev pub decreases-sizes_of : goal.decreases-sizes_of
decreases-sizes_of l = 2 * sizes (members (map tree l.shapes.now)) + 1

abbrev pub invariant-sizes_of-loop-shape : goal.invariant-sizes_of-loop-shape
invariant-sizes_of-loop-shape l =
    l.sum + sizes (members (map tree (drop l.shape-index l.shapes))) ≡ sizes (members (map tree l.shapes))
