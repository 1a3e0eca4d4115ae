-- The question's answer is what is asked.
use Rattle.std.proofs.Common.{◌≡◌, ◌<◌, length, ◌∙◌, arith}
use Rattle.std.proofs.lemmas.Result.{IfOk-weaker}
use Rattle.nxt_types.specs.OperandRules.{shape_of, sort_at}
use Rattle.nxt_operand_rules.specs.Questions.{answer}
use Rattle.nxt_code.specs.OperandsSeen.{operands}
use Rattle.nxt_code.proofs.Arguments.ByPosition.{operands_count}
use Rattle.nxt_code.proofs.between.fits_others.Goals as goal

pub returns-clause-fits : goal.returns-clause-fits
returns-clause-fits c =
    let ss = c.args.toc.now.shapes in
    let os = operands ss c.args.instr.now c.args.words.now in
    let n = operands_count ss c.args.instr.now c.args.words.now c.requires.whole in
    let l = c.requires.within in
    let under : c.args.k < length os = omega (arith, n, l) in
    IfOk-weaker c.answer.result (λ b. b ≡ answer c.asked-question.result (λ i. shape_of (sort_at os i)) c.args.k) (λ b. b ≡ _)
    (λ b e. e ∙ c.asked-question.ensures os under c.seen_at-first.ensures c.seen_at-second.ensures c.seen_at-third.ensures)
    c.answer.ensures.answer
