use Rattle.std.proofs.Common.{◌<◌, length, subst, arith}
use Rattle.std.proofs.lemmas.List.{take_all}
use Rattle.nxt_asm_rules.specs.AsmRules.{far_in_body}
use Rattle.nxt_nbc_lines.specs.Firsts.{IsLeast}
use Rattle.nxt_asm_rules.proofs.Laws.FarJumps.{body_more}
use Rattle.nxt_asm.proofs.jumps.far_in_body.Goals as goal

pub loop-j-preserved : goal.loop-j-preserved
loop-j-preserved c = λ here all.
    let j = c.loop-j.j in
    let ss = c.args.body.now in
    let lt : j < length ss = omega (arith, c.loop-j-test.true) in
    body_more c.args.at.now here ss j c.index-body-j.result c.word_at.result c.loop-j.found c.far_line.result c.lesser-found.result lt c.index-body-j.is all c.word_at.ensures c.lesser-found.ensures
    (c.loop-j.invariant here all) c.far_line.ensures

pub returns : goal.returns
returns c = λ here all.
    subst (λ ss. IsLeast (λ line. far_in_body line c.args.at.now here ss) c.loop-j.found) (take_all c.loop-j.j c.args.body.now c.loop-j-test.false)
    (c.loop-j.invariant here all)
