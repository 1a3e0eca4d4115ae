-- A place has two members.
use Rattle.std.proofs.Common.{◌<◌, ◌≤◌, length, map, arith}
use Rattle.std.proofs.lemmas.List.{length-map}
use Rattle.nxt_types.specs.Shapes.{tree}
use Rattle.nxt_code.proofs.Arguments.ShapeTests.{few_no_place, many_no_place}
use Rattle.nxt_code.proofs.shapes.are_two_numbers.Goals as goal

pub returns-in_default : goal.returns-in_default
returns-in_default c =
    let n = length-map c.args.shapes.now tree in
    let l : length (map tree c.args.shapes.now) < 2 = omega arith in
    few_no_place (map tree c.args.shapes.now) l

pub returns-in_default-2 : goal.returns-in_default-2
returns-in_default-2 c =
    let n = length-map c.args.shapes.now tree in
    let l : 3 ≤ length (map tree c.args.shapes.now) = omega arith in
    many_no_place (map tree c.args.shapes.now) l
