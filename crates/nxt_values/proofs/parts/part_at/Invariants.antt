-- The positions that are left lead to the part.
use Rattle.std.proofs.Common.{drop}
use Rattle.nxt_types.specs.Shapes.{tree}
use Rattle.nxt_model.specs.Values.{part}
use Rattle.nxt_values.specs.Regions.{value_there}
use Rattle.nxt_values.specs.Parts.{positions}
use Rattle.nxt_values.proofs.Read.Parts.{PartLeft}
use Rattle.nxt_values.proofs.parts.part_at.Given as goal

abbrev pub invariant-loop-step : goal.invariant-loop-step
invariant-loop-step l =
    PartLeft
    l.entries
    l.heap.lists
    (tree l.shape)
    l.at
    (positions (drop l.step-index l.steps))
    (part (positions l.fn.steps) (value_there l.entries l.heap.lists (tree l.fn.shape) l.fn.at))
