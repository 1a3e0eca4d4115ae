-- By their shapes both are lists of numbers.
use Rattle.std.proofs.Common.{rules, ℤ, w64, refl, ap₂, ◌∙◌}
use Rattle.std.proofs.Math.Facts.{to_z-of_z}
use mir.Val.{SFits}
use Rattle.nxt_types.specs.Arithmetic.{compares}
use Rattle.nxt_model.specs.Means.Effects.{element}
use Rattle.nxt_model.specs.Means.Numbers.{either_signed}
use Rattle.nxt_space.specs.Variables.{shape_of, value_of}
use Rattle.nxt_ops.proofs.DecidingNumbers.{lists_held}
use Rattle.nxt_operands.proofs.Laws.NumberLists.{alike_numbers, variable_numbers}
use Rattle.nxt_ops.proofs.comparing.holds.Goals as goal

pub deciding_apart-requires-clause-list_x : goal.deciding_apart-requires-clause-list_x
deciding_apart-requires-clause-list_x c =
    let s = c.args.space.now.vars in
    variable_numbers s c.args.x c.requires.sound c.requires.x (alike_numbers (shape_of s c.args.x) (shape_of s c.args.y) c.requires.fit c.requires.list).0

pub deciding_apart-requires-clause-list_y : goal.deciding_apart-requires-clause-list_y
deciding_apart-requires-clause-list_y c =
    let s = c.args.space.now.vars in
    variable_numbers s c.args.y c.requires.sound c.requires.y (alike_numbers (shape_of s c.args.x) (shape_of s c.args.y) c.requires.fit c.requires.list).1

pub returns : goal.returns
returns c =
    let s = c.args.space.now.vars in
    let x = value_of s c.args.x in
    let y = value_of s c.args.y in
    let pair : ℤ × ℤ = (c.in_ok-a.a, c.in_ok-a.b) in
    let f0 : SFits w64 pair.0 = search rules in
    let f1 : SFits w64 pair.1 = search rules in
    c.compares.ensures
    ∙ ap₂ (compares c.args.cmp) (to_z-of_z f0) (to_z-of_z f1)
    ∙ lists_held
    c.args.cmp
    (shape_of s c.args.x)
    (shape_of s c.args.y)
    x
    y
    (either_signed (element (shape_of s c.args.x)) (element (shape_of s c.args.y)))
    pair
    c.requires.fit
    c.requires.list
    refl
    c.in_ok-a.ensures
