-- What is plain and no number is a list of numbers.
use Rattle.std.proofs.Common.{sym, ◌∙◌}
use Rattle.nxt_space.specs.Variables.{shape_of}
use Rattle.nxt_operands.proofs.Laws.NumberLists.{plain_numbers, variable_numbers}
use Rattle.nxt_ops.proofs.lists.source_of.Goals as goal

pub numbers_of-requires-clause-list : goal.numbers_of-requires-clause-list
numbers_of-requires-clause-list c =
    let s = c.args.space.now.vars in
    let other = sym c.is_number.ensures ∙ c.if-is_number.false in
    variable_numbers
    s
    c.args.i
    c.requires.sound
    c.requires.named
    (plain_numbers (shape_of s c.args.i) c.requires.plain other)
