-- The space tells the shape.
use Rattle.std.proofs.Common.{sym, ap, ◌∙◌}
use Rattle.nxt_types.specs.Shapes.{tree}
use Rattle.nxt_space.specs.Variables.{name_of}
use Rattle.nxt_operands.specs.Operands.{stride_of}
use Rattle.nxt_operands.proofs.Laws.Shapes.{told}
use Rattle.nxt_operands.proofs.operands.stride_at.Goals as goal

pub returns-in-Some : goal.returns-in-Some
returns-in-Some c =
    c.stride.ensures
    ∙ ap stride_of (sym (told (name_of c.args.space.now.vars c.args.i) (tree c.in-Some.shape.now) c.in-Some.ensures))
