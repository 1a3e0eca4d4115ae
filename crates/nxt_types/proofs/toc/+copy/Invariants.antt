-- So many shapes were copied.
use Rattle.std.proofs.Common.{◌≡◌, map, take}
use Rattle.nxt_types.specs.Shapes.{tree}
use Rattle.nxt_types.proofs.toc.+copy.Given as goal

abbrev pub invariant-copies_of-loop-shape : goal.invariant-copies_of-loop-shape
invariant-copies_of-loop-shape l = map tree l.copies.items ≡ map tree (take l.shape-index l.shapes)
