-- What is still to be unpacked.
use Rattle.std.proofs.Common.{drop, map}
use Rattle.nxt_types.specs.Shapes.{tree, members}
use Rattle.nxt_texts.proofs.PackedValues.{StillUnpacked}
use Rattle.nxt_texts.proofs.packing.+unpack.Given as goal

abbrev pub invariant-unpack_members-loop-shape : goal.invariant-unpack_members-loop-shape
invariant-unpack_members-loop-shape l =
    StillUnpacked
    (members (map tree l.shapes))
    l.bytes
    l.fn.into
    (members (map tree (drop l.shape-index l.shapes)))
    l.left
    l.into
