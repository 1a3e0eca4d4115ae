-- The members before i are those of the fields.
use Rattle.std.proofs.Common.{◌≡◌, map, drop}
use Rattle.nxt_types.specs.Shapes.{tree, members}
use Rattle.nxt_types.specs.Calls.{are_fields}
use Rattle.nxt_code.proofs.shapes.are_fields.Given as goal

abbrev pub invariant-loop-i : goal.invariant-loop-i
invariant-loop-i l =
    are_fields l.fields (members (map tree l.shapes))
    ≡ are_fields (drop l.i l.fields) (members (map tree (drop l.i l.shapes)))
