-- There are as many members as fields.
use Rattle.std.proofs.Common.{◌∙◌, map}
use Rattle.std.proofs.lemmas.List.{length-map}
use Rattle.nxt_types.specs.Shapes.{tree}
use Rattle.nxt_code.proofs.Arguments.ShapeTests.{other_count}
use Rattle.nxt_code.proofs.shapes.are_fields.Goals as goal

pub returns-then-fields-shapes : goal.returns-then-fields-shapes
returns-then-fields-shapes c =
    other_count (c.args.fields.now) (map tree c.args.shapes.now)
    (λ e. c.if-fields-shapes.true (e ∙ length-map c.args.shapes.now tree))
