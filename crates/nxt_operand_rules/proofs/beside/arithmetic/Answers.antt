-- A list is made of two numbers or lists, of which one is a list.
use Rattle.std.proofs.Common.{◌||◌, sym, ◌∙◌}
use Rattle.std.proofs.lemmas.Bool.{and_from, and_left, or_left}
use Rattle.nxt_types.specs.Shapes.{is_numbers}
use Rattle.nxt_types.specs.OperandRules.{is_plain, shape_of}
use Rattle.nxt_operand_rules.proofs.BesideOthers.{last_two, second_else, second_if, third_else, third_if}
use Rattle.nxt_operand_rules.proofs.beside.arithmetic.Goals as goal

pub returns-then-is_number : goal.returns-then-is_number
returns-then-is_number c = λ d e f is_dest is_x is_y.
    c.is_number-then-is_number.ensures e is_x
    ∙ second_if (shape_of d) (shape_of e) (shape_of f) c.args.k c.in-1.is (sym (c.is_number.ensures d is_dest) ∙ c.if-is_number.true)

pub returns-else-is_number : goal.returns-else-is_number
returns-else-is_number c = λ d e f is_dest is_x is_y.
    c.is_plain-else-is_number.ensures e is_x
    ∙ second_else (shape_of d) (shape_of e) (shape_of f) c.args.k c.in-1.is (sym (c.is_number.ensures d is_dest) ∙ c.if-is_number.false)

pub returns-then-is_number-2 : goal.returns-then-is_number-2
returns-then-is_number-2 c = λ d e f is_dest is_x is_y.
    c.is_number-then-is_number-2.ensures f is_y
    ∙ third_if (shape_of d) (shape_of e) (shape_of f) c.args.k c.in-2.is (sym (c.is_number-in-2.ensures d is_dest) ∙ c.if-is_number-2.true)

pub returns-then-is_numbers : goal.returns-then-is_numbers
returns-then-is_numbers c = λ d e f is_dest is_x is_y.
    let x = shape_of e in
    let y = shape_of f in
    c.if-is_numbers.true
    ∙ sym (and_from (is_plain y) (is_numbers x || is_numbers y) (sym (c.is_plain-else-is_number-2.ensures f is_y) ∙ c.if-is_plain.true)
    (or_left (is_numbers x) (is_numbers y) (sym (c.is_numbers.ensures e is_x) ∙ c.if-is_numbers.true)))
    ∙ third_else (shape_of d) x y c.args.k c.in-2.is (sym (c.is_number-in-2.ensures d is_dest) ∙ c.if-is_number-2.false)

pub returns-else-is_numbers : goal.returns-else-is_numbers
returns-else-is_numbers c = λ d e f is_dest is_x is_y.
    let x = shape_of e in
    let y = shape_of f in
    c.is_numbers-else-is_numbers.ensures f is_y
    ∙ last_two (is_plain y) (is_numbers x) (is_numbers y) (sym (c.is_plain-else-is_number-2.ensures f is_y) ∙ c.if-is_plain.true) (sym (c.is_numbers.ensures e is_x) ∙ c.if-is_numbers.false)
    ∙ third_else (shape_of d) x y c.args.k c.in-2.is (sym (c.is_number-in-2.ensures d is_dest) ∙ c.if-is_number-2.false)

pub returns-else-is_plain : goal.returns-else-is_plain
returns-else-is_plain c = λ d e f is_dest is_x is_y.
    let x = shape_of e in
    let y = shape_of f in
    c.if-is_plain.false
    ∙ sym (and_left (is_plain y) (is_numbers x || is_numbers y) (sym (c.is_plain-else-is_number-2.ensures f is_y) ∙ c.if-is_plain.false))
    ∙ third_else (shape_of d) x y c.args.k c.in-2.is (sym (c.is_number-in-2.ensures d is_dest) ∙ c.if-is_number-2.false)
