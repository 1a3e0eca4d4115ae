-- What is seen of an operand is that of its class, and there is none past the last.
use Rattle.std.proofs.Common.{◌<◌, ◌≤◌, length, sym, ap, ◌∙◌, arith}
use Rattle.nxt_types.specs.Statements.{statement_of}
use Rattle.nxt_operand_rules.specs.SeenOf.{seen}
use Rattle.nxt_code.proofs.Arguments.ByPosition.{sort_there, sort_past}
use Rattle.nxt_code.proofs.operands.seen_at.Goals as goal

pub returns-then-k-operand_count : goal.returns-then-k-operand_count
returns-then-k-operand_count c =
    let l : length (statement_of c.args.instr.now c.args.words.now).args ≤ c.args.k = omega arith in
    sym (ap seen (sort_past c.args.toc.now.shapes c.args.instr.now c.args.words.now c.requires c.args.k l))

pub returns : goal.returns
returns c =
    let l : c.args.k < length (statement_of c.args.instr.now c.args.words.now).args = omega arith in
    c.seen_in.ensures
    ∙ sym (ap seen (sort_there c.args.toc.now.shapes c.args.instr.now c.args.words.now c.requires c.args.k c.class-class.result c.operand-word.result l c.class-class.ensures c.operand-word.ensures))
