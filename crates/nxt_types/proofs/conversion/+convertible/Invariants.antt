-- The members before i convert, so that those from i on decide.
use Rattle.std.proofs.Common.{◌≡◌, map, drop}
use Rattle.nxt_types.specs.Shapes.{tree, members, convertible_members}
use Rattle.nxt_types.proofs.conversion.+convertible.Given as goal

abbrev pub invariant-are_convertible-loop-i : goal.invariant-are_convertible-loop-i
invariant-are_convertible-loop-i l =
    convertible_members (members (map tree l.to)) (members (map tree l.from))
    ≡ convertible_members (members (map tree (drop l.i l.to))) (members (map tree (drop l.i l.from)))
