use Rattle.std.proofs.Common.{◌∙◌, Some, None, ap, sym, subst}
use Rattle.std.specs.Prelude.{option_to_list}
use Rattle.std.proofs.lemmas.List.{append-nil}
use Rattle.nxt_model.specs.Nbc.Text.{labels_from, statements_in}
use Rattle.nxt_nbc_lines.specs.Seen.{line_form_seen}
use Rattle.nxt_nbc_names.specs.BlocksSeen.{block_seen}
use Rattle.nxt_nbc_names.specs.SourceSeen.{source_seen}
use Rattle.nxt_nbc_program.specs.Fits.{LabelsFit}
use Rattle.nxt_nbc_lines.proofs.Laws.Whole.{line_whole_at}
use Rattle.nxt_nbc_program.proofs.Bodies.{body_more}
use Rattle.nxt_nbc_program.proofs.Laws.Fits.{labels_fit}
use Rattle.nxt_nbc_program.proofs.statements.body_of.Goals as goal
use Rattle.nxt_nbc_program.proofs.statements.body_of.Goals.{in-Some+in_ok-push, in_default}

pub statement_of-requires-clause-labels : goal.statement_of-requires-clause-labels
statement_of-requires-clause-labels c = subst LabelsFit (sym c.in_ok-labels.ensures) (labels_fit (block_seen c.args.block.now).items c.requires.few)

pub statement_of-requires-clause-whole : goal.statement_of-requires-clause-whole
statement_of-requires-clause-whole c =
    line_whole_at c.args.block.now.lines.now c.loop-line.line-index c.line-item.result c.requires.whole c.loop-line-test.true c.line-item.is

pub loop-line-preserved : goal.loop-line-preserved
loop-line-preserved c =
    let src = source_seen c.args.source.now in
    let b = block_seen c.args.block.now in
    let labels = labels_from 0 b.items in
    let lines = c.args.block.now.lines.now in
    let i = c.loop-line.line-index in
    let l = c.line-item.result in
    let ss = c.loop-line.statements in
    let adds = c.in_ok-statement.ensures
    ∙ ap (λ ls. statements_in src ls c.args.number b.subroutine c.args.dependents (line_form_seen l)) c.in_ok-labels.ensures in
    let more = body_more (statements_in src labels c.args.number b.subroutine c.args.dependents) lines i l c.loop-line-test.true c.line-item.is ss c.loop-line.invariant in
    elim c.match-branch-3.branch [
      | in-Some+in_ok-push w ↦
          w.statements-is ∙ w.in_ok-push.ensures.ok ∙ more (Some w.in-Some.statement) (ap option_to_list (sym w.in-Some.is) ∙ adds)
      | in_default w ↦ w.statements-is ∙ sym (append-nil ss) ∙ more None (ap option_to_list (sym w.in_default.is) ∙ adds)
    ]
