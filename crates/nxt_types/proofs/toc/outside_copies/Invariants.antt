-- So many shapes were copied.
use Rattle.std.proofs.Common.{◌≡◌, take}
use Rattle.nxt_types.specs.Tables.{trees_of}
use Rattle.nxt_types.proofs.toc.outside_copies.Given as goal

abbrev pub invariant-loop-shape : goal.invariant-loop-shape
invariant-loop-shape l = trees_of l.copies.items ≡ trees_of (take l.shape-index l.shapes)
