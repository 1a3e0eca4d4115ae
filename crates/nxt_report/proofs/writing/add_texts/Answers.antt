-- Line by line.
use Rattle.std.proofs.Common.{◌++◌, sym, ap, ◌∙◌, append-nil, append_assoc, take}
use Rattle.std.proofs.lemmas.List.{take_all}
use Rattle.nxt_model.specs.LineText.{lines_text, line_text}
use Rattle.nxt_report.proofs.Runs.{texts_next}
use Rattle.nxt_report.proofs.writing.add_texts.Goals as goal

pub loop-line-init : goal.loop-line-init
loop-line-init c = sym (append-nil c.args.text.now)

pub loop-line-preserved : goal.loop-line-preserved
loop-line-preserved c =
    let lines = c.args.lines.now in
    let i = c.loop-line.line-index in
    c.in_ok-line_text.ensures.ok
    ∙ ap (λ t. t ++ line_text c.line-item.result) c.loop-line.invariant
    ∙ append_assoc c.args.text.now (lines_text (take i lines)) (line_text c.line-item.result)
    ∙ ap (λ t. c.args.text.now ++ t) (sym (texts_next lines i c.line-item.result _ c.loop-line-test.true c.line-item.is))

pub returns : goal.returns
returns c = c.loop-line.invariant ∙ ap (λ ls. c.args.text.now ++ lines_text ls) (take_all c.loop-line.line-index c.args.lines.now c.loop-line-test.false)
