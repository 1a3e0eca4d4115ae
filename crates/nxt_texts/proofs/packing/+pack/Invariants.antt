-- What is still to be packed.
use Rattle.std.proofs.Common.{◌++◌, drop, map}
use Rattle.nxt_types.specs.Shapes.{tree, members}
use Rattle.nxt_texts.specs.Packing.{packed_fronts}
use Rattle.nxt_texts.proofs.PackedValues.{StillPacked}
use Rattle.nxt_texts.proofs.packing.+pack.Given as goal

abbrev pub invariant-pack_members-loop-shape : goal.invariant-pack_members-loop-shape
invariant-pack_members-loop-shape l =
    StillPacked
    (l.fn.into ++ (packed_fronts (members (map tree l.shapes)) l.from).0)
    (packed_fronts (members (map tree l.shapes)) l.from).1
    (members (map tree (drop l.shape-index l.shapes)))
    l.into
    l.left
