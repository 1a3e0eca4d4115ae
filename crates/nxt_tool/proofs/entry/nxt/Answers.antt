-- The answer that is given is due.
use Rattle.std.proofs.Common.{⊎_elim, inl, inr}
use Rattle.nxt_model.proofs.Laws.Compaction.{compaction_changes_dumps_alone}
use Rattle.nxt_tool.proofs.Reports.Statuses.{right_status}
use Rattle.nxt_tool.proofs.entry.nxt.Goals as goal

pub returns-clause-complete : goal.returns-clause-complete
returns-clause-complete g c = λ b s bytes program script no_program no_script no_image no_report.
    let told = c.answer.ensures.told b s bytes program script in
    ⊎_elim
    (λ e. inl (told.0, told.1, e))
    inr
    (right_status c.answer.result _ _ _ told.2.report_text
    (λ failed. ⊎_elim no_program (λ rose. no_script rose.1) (c.answer.ensures.read failed))
    (λ failed. ⊎_elim no_report (λ rose. no_image rose.1) (c.answer.ensures.write failed)))

pub returns-clause-compaction : goal.returns-clause-compaction
returns-clause-compaction g c = compaction_changes_dumps_alone
