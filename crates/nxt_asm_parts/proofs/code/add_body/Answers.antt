use Rattle.std.proofs.Common.{◌<◌, ◌≤◌, length, ap, ◌∙◌, arith}
use Rattle.std.specs.Prelude.{slice_index}
use Rattle.nxt_model.specs.TextProgram.{text_of}
use Rattle.nxt_asm_parts.proofs.CodeWords.{body_more, narrow_statement}
use Rattle.nxt_asm_parts.proofs.Laws.Words.{start_at}
use Rattle.nxt_asm_parts.proofs.code.add_body.Goals as goal

pub add_statement-requires-clause-fits : goal.add_statement-requires-clause-fits
add_statement-requires-clause-fits c =
    let ss = c.args.body.now in
    let j = c.loop-j.j in
    let here = c.args.here in
    let lt : j < length ss = omega (arith, c.loop-j-test.true) in
    let le : j ≤ length ss = omega (arith, lt) in
    let place = c.word_at.ensures ∙ ap (λ l. slice_index l j) c.requires.starts ∙ start_at here ss j le in
    narrow_statement (text_of c.args.numbers.now) c.args.at.now here ss j c.index-body-j.result c.word_at.result lt c.index-body-j.is place c.requires.fits

pub loop-j-preserved : goal.loop-j-preserved
loop-j-preserved c =
    let ss = c.args.body.now in
    let j = c.loop-j.j in
    let here = c.args.here in
    let lt : j < length ss = omega (arith, c.loop-j-test.true) in
    let le : j ≤ length ss = omega (arith, lt) in
    let place = c.word_at.ensures ∙ ap (λ l. slice_index l j) c.requires.starts ∙ start_at here ss j le in
    body_more (text_of c.args.numbers.now) c.args.at.now here ss j c.index-body-j.result c.word_at.result c.args.code.now c.loop-j.code c.add_statement.new.code
    lt c.index-body-j.is place c.loop-j.invariant c.in_ok-add_statement.ensures
