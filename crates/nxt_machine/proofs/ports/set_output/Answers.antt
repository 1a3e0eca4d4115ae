-- A number is one port, and a list of ports is read as its numbers.
use Rattle.std.proofs.Common.{OnOk, ◌≡◌, ◌++◌, [], ◌∷◌, false, drop, map, rules, sym, ap, ◌∙◌, subst}
use Rattle.nxt_types.specs.Arithmetic.{word}
use Rattle.nxt_types.specs.Statements.{statement_of}
use Rattle.nxt_space.specs.Variables.{shape_of, value_of}
use Rattle.nxt_operands.proofs.Laws.NumberLists.{plain_numbers, variable_numbers}
use Rattle.nxt_machine.specs.Numbers.{ports_at, set_motors_by}
use Rattle.nxt_machine.proofs.Meanings.Ports.{port_named, ports_listed}
use Rattle.nxt_machine.proofs.ports.set_output.Goals as goal

-- ---- one port

one : (c : goal.After-set_one) → c.wrap.result ∷ [] ≡ ports_at c.args.space.now.vars c.args.instr.now.a
one c =
    let s = c.args.space.now.vars in
    let a = c.args.instr.now.a in
    let wrapped : c.wrap.result ≡ word c.get.result = search rules in
    ap (λ w. w ∷ []) (wrapped ∙ ap word c.get.ensures)
    ∙ port_named (shape_of s a) (value_of s a) (sym c.is_number.ensures ∙ c.if-is_number.true)

pub returns-then-is_number-clause-devices : goal.returns-then-is_number-clause-devices
returns-then-is_number-clause-devices c =
    let pairs = drop 1 (statement_of c.args.instr.now c.args.words.now).args in
    subst (λ ports. OnOk c.set_one.result (c.set_one.new.io ≡ (set_motors_by c.args.space.now.vars ports pairs c.args.io.now).devices)) (one c) c.set_one.ensures.devices

pub returns-then-is_number-clause-lines : goal.returns-then-is_number-clause-lines
returns-then-is_number-clause-lines c =
    let pairs = drop 1 (statement_of c.args.instr.now c.args.words.now).args in
    subst (λ ports. OnOk c.set_one.result (c.set_one.new.out.lines ≡ c.args.out.now.lines ++ (set_motors_by c.args.space.now.vars ports pairs c.args.io.now).lines)) (one c) c.set_one.ensures.lines

pub returns-then-is_number-clause-silent : goal.returns-then-is_number-clause-silent
returns-then-is_number-clause-silent c is none =
    let pairs = drop 1 (statement_of c.args.instr.now c.args.words.now).args in
    c.set_one.ensures.silent (ap (λ ports. (set_motors_by c.args.space.now.vars ports pairs c.args.io.now).lines) (one c) ∙ none)

-- ---- a list of ports

pub numbers_of-requires-clause-list : goal.numbers_of-requires-clause-list
numbers_of-requires-clause-list c =
    let s = c.args.space.now.vars in
    let a = c.args.instr.now.a in
    variable_numbers s a c.requires.sound c.requires.named (plain_numbers (shape_of s a) c.requires.plain (sym c.is_number.ensures ∙ c.if-is_number.false))

several : (c : goal.After-drop-ports-inside) → map word c.in_ok-ports.ports ≡ ports_at c.args.space.now.vars c.args.instr.now.a
several c =
    let s = c.args.space.now.vars in
    let a = c.args.instr.now.a in
    ports_listed (shape_of s a) (value_of s a) _ (sym c.is_number.ensures ∙ c.if-is_number.false) c.in_ok-ports.ensures

pub returns-clause-devices : goal.returns-clause-devices
returns-clause-devices c =
    let pairs = drop 1 (statement_of c.args.instr.now c.args.words.now).args in
    subst (λ ports. OnOk c.set_several.result (c.set_several.new.io ≡ (set_motors_by c.args.space.now.vars ports pairs c.args.io.now).devices)) (several c) c.set_several.ensures.devices

pub returns-clause-lines : goal.returns-clause-lines
returns-clause-lines c =
    let pairs = drop 1 (statement_of c.args.instr.now c.args.words.now).args in
    subst (λ ports. OnOk c.set_several.result (c.set_several.new.out.lines ≡ c.args.out.now.lines ++ (set_motors_by c.args.space.now.vars ports pairs c.args.io.now).lines)) (several c) c.set_several.ensures.lines

pub returns-clause-silent : goal.returns-clause-silent
returns-clause-silent c is none = let other : _ ≡ false = sym c.is_number.ensures ∙ c.if-is_number.false in let no : ⊥ = cc in absurd no

pub returns-in_err-ports-clause-silent : goal.returns-in_err-ports-clause-silent
returns-in_err-ports-clause-silent c is none = let other : _ ≡ false = sym c.is_number.ensures ∙ c.if-is_number.false in let no : ⊥ = cc in absurd no
