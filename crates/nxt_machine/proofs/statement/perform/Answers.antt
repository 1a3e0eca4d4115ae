-- A statement that computes with numbers takes no memory.
use Rattle.std.proofs.Common.{◌≡◌, ◌||◌, true, sym, ap, ◌∙◌, subst}
use Rattle.std.specs.List.{list_all}
use Rattle.std.proofs.lemmas.Bool.{and_parts}
use Rattle.nxt_types.specs.OperandRules.{AreFit}
use Rattle.nxt_types.specs.Statements.{statement_of}
use Rattle.nxt_ops.specs.Ops.{runs as computes}
use Rattle.nxt_ops.specs.Preparing.{is_a_number}
use Rattle.nxt_ops.proofs.Laws.{same_statement}
use Rattle.nxt_ops.proofs.Laws.Numbers.{given_numbers}
use Rattle.nxt_machine.specs.Memory.{is_of_devices}
use Rattle.nxt_machine.specs.Inside.Statements.{operands_at}
use Rattle.nxt_machine.proofs.Kept.{fit_there}
use Rattle.nxt_machine.proofs.statement.perform.Goals as goal

pub returns-then-runs-clause-numbers : goal.returns-then-runs-clause-numbers
returns-then-runs-clause-numbers c works silent =
    let p = c.args.program.now in
    let s = p.space.vars in
    let i = c.args.placed.now.instr in
    let run : computes i.op ≡ true = sym c.runs.ensures ∙ c.if-runs.true in
    let same = same_statement i p.code.words run in
    let all = (and_parts (computes i.op || is_of_devices i.op) (list_all is_a_number (operands_at s (statement_of i p.code.words))) works).1 in
    c.compute.ensures.numbers
    (given_numbers s i (subst (AreFit s.shapes) same (fit_there p c.requires.program c.args.place c.args.placed.now c.requires.at)) run
    (sym (ap (λ st. list_all is_a_number (operands_at s st)) same) ∙ all))
