-- The line is written field by field.
use Rattle.std.proofs.Common.{◌≡◌, List, ℕ, subst}
use Rattle.std.specs.Prelude.{OnOk}
use Rattle.nxt_types.specs.Statements.{statement_of}
use Rattle.nxt_list.proofs.Lines.{statement_written}
use Rattle.nxt_list.proofs.code.push_statement.Goals as goal

pub returns : goal.returns
returns c =
    let placed = c.args.placed.now in
    subst
    (λ (text : List ℕ). OnOk c.push_operands.result (c.push_operands.new.into ≡ text))
    (statement_written c.args.into.now c.append.new.self c.push_number.new.into c.push_text.new.into c.push_comparison.new.into c.name.result.now placed.word (statement_of placed.instr c.args.words.now)
    c.in_ok-append.ensures.ok c.in_ok-push_number.ensures c.in_ok-push_text.ensures c.name.ensures.value c.in_ok-push_comparison.ensures)
    c.push_operands.ensures
