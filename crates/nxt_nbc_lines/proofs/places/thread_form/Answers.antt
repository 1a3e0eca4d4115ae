use Rattle.std.proofs.Common.{◌≡◌, option_map, ap, sym, ◌∙◌}
use Rattle.std.proofs.lemmas.Result.{IfOk-weaker}
use Rattle.nxt_model.specs.Nbc.Forms.{body_form, thread_form}
use Rattle.nxt_nbc_lines.specs.Seen.{form_seen, term_seen, terms_seen, words_seen}
use Rattle.nxt_nbc_lines.proofs.PlaceLaws.{thread-precedes, thread-follows, thread-exit_to, thread-body}
use Rattle.nxt_nbc_lines.proofs.places.thread_form.Goals as goal

pub returns-in-Some : goal.returns-in-Some
returns-in-Some c =
    thread-precedes (words_seen c.args.words.now) (terms_seen c.in-Some.terms) (sym c.is_alone.ensures ∙ c.if-is_alone.false)
    (ap (option_map terms_seen) (sym c.in-Some.is) ∙ c.in_ok-terms.ensures)

pub returns-in-Some-2 : goal.returns-in-Some-2
returns-in-Some-2 c =
    thread-follows (words_seen c.args.words.now) (terms_seen c.in-Some-2.terms) (sym c.is_alone.ensures ∙ c.if-is_alone.false)
    (ap (option_map terms_seen) (sym c.in_default.is) ∙ c.in_ok-terms.ensures)
    (ap (option_map terms_seen) (sym c.in-Some-2.is) ∙ c.in_ok-terms-2.ensures)

pub returns-in-Some-3 : goal.returns-in-Some-3
returns-in-Some-3 c =
    thread-exit_to (words_seen c.args.words.now) (term_seen c.in-Some-3.term) (sym c.is_alone.ensures ∙ c.if-is_alone.false)
    (ap (option_map terms_seen) (sym c.in_default.is) ∙ c.in_ok-terms.ensures)
    (ap (option_map terms_seen) (sym c.in_default-2.is) ∙ c.in_ok-terms-2.ensures)
    (sym c.is_alone-2.ensures ∙ c.if-is_alone-2.false)
    (ap (option_map term_seen) (sym c.in-Some-3.is) ∙ c.in_ok-term.ensures)

pub returns : goal.returns
returns c =
    let ws = words_seen c.args.words.now in
    IfOk-weaker c.body_form.result (λ o. option_map form_seen o ≡ body_form ws) (λ o. option_map form_seen o ≡ thread_form ws)
    (λ o h. h ∙ thread-body ws (sym c.is_alone.ensures ∙ c.if-is_alone.false)
    (ap (option_map terms_seen) (sym c.in_default.is) ∙ c.in_ok-terms.ensures)
    (ap (option_map terms_seen) (sym c.in_default-2.is) ∙ c.in_ok-terms-2.ensures)
    (sym c.is_alone-2.ensures ∙ c.if-is_alone-2.false)
    (ap (option_map term_seen) (sym c.in_default-3.is) ∙ c.in_ok-term.ensures))
    c.body_form.ensures
