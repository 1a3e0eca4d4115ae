use Rattle.std.proofs.Common.{◌≡◌, ◌≤◌, length, Some, option_map, ap, sym, subst, ◌∙◌, ℕ}
use Rattle.std.proofs.lemmas.Result.{IfOk-weaker}
use Rattle.std.proofs.lemmas.List.{length-map}
use Rattle.nxt_model.specs.Nbc.Forms.{labelled_form, statement_form}
use Rattle.nxt_nbc_lines.specs.Seen.{form_seen, word_seen, words_seen}
use Rattle.nxt_nbc_lines.specs.Statements.{label_of}
use Rattle.nxt_nbc_lines.proofs.Labels.{label_before}
use Rattle.nxt_nbc_lines.proofs.statements.labelled_form.Goals as goal

pub returns-in-Some : goal.returns-in-Some
returns-in-Some c =
    let words = words_seen c.args.words.now in
    let label = c.in-Some.label.now in
    let statement = words_seen c.in-Some.statement.now in
    let some : 1 ≤ length statement = subst (λ (n : ℕ). 1 ≤ n) (sym (length-map c.in-Some.statement.now word_seen)) c.in-Some.len_at_least in
    let split : Some (label, statement) ≡ label_of words = ap (option_map (λ r. (r.0.now, words_seen r.1.now))) (sym c.in-Some.is) ∙ c.front_label.ensures in
    IfOk-weaker c.statement_form.result (λ o. option_map form_seen o ≡ statement_form (Some label) statement) (λ o. option_map form_seen o ≡ labelled_form words)
    (λ o h. h ∙ label_before words label statement some split) c.statement_form.ensures
