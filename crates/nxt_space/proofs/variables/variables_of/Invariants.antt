-- The shapes so far are those of the first variables.
use Rattle.std.proofs.Common.{◌-◌, map}
use Rattle.nxt_types.specs.Names.{sizes}
use Rattle.nxt_types.specs.Shapes.{tree, members}
use Rattle.nxt_space.proofs.Start.Shapes.{Walked}
use Rattle.nxt_space.proofs.variables.variables_of.Given as goal

abbrev pub decreases-loop-shape : goal.decreases-loop-shape
decreases-loop-shape l = sizes l.toc.shapes - l.entry

abbrev pub invariant-loop-shape : goal.invariant-loop-shape
invariant-loop-shape l = Walked l.toc.shapes (members (map tree l.shapes.items)) l.entry
