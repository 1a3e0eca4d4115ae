-- What the space tells of the two entries.
use Rattle.std.proofs.Common.{sym, ap, ap₂, ◌∙◌}
use Rattle.nxt_types.specs.OperandRules.{element_of}
use Rattle.nxt_types.specs.Shapes.{tree, convertible}
use Rattle.nxt_space.specs.Variables.{name_of, shape_of}
use Rattle.nxt_operands.proofs.Laws.Shapes.{told, untold, no_void}
use Rattle.nxt_lists.proofs.gathering.is_element.Goals as goal

pub returns-in-Some-Some : goal.returns-in-Some-Some
returns-in-Some-Some c =
    let s = c.args.space.now.vars in
    c.has_element.ensures
    ∙ sym
    (ap₂
    (λ l u. convertible (element_of l) u)
    (told (name_of s c.args.list) (tree c.in-Some-Some.list.now) c.in-Some-Some.ensures)
    (told (name_of s c.args.value) (tree c.in-Some-Some.value.now) c.in-Some-Some.ensures'))

pub returns-in_default : goal.returns-in_default
returns-in_default c =
    let s = element_of (shape_of c.args.space.now.vars c.args.list) in
    no_void s ∙ ap (convertible s) (sym (untold (name_of c.args.space.now.vars c.args.value) c.in_default.ensures'))

pub returns-in_default-2 : goal.returns-in_default-2
returns-in_default-2 c =
    ap
    (λ l. convertible (element_of l) (shape_of c.args.space.now.vars c.args.value))
    (sym (untold (name_of c.args.space.now.vars c.args.list) c.in_default.ensures))
