use Rattle.std.proofs.Common.{◌≡◌, option_map, ap, sym, ◌∙◌}
use Rattle.std.proofs.lemmas.Result.{IfOk-weaker}
use Rattle.nxt_model.specs.Nbc.Forms.{body_form, labelled_form}
use Rattle.nxt_nbc_lines.specs.Seen.{form_seen, term_seen, words_seen}
use Rattle.nxt_nbc_lines.proofs.PlaceLaws.{body-call, body-labelled}
use Rattle.nxt_nbc_lines.proofs.places.body_form.Goals as goal

pub returns-in-Some : goal.returns-in-Some
returns-in-Some c =
    body-call (words_seen c.args.words.now) (term_seen c.in-Some.term) (sym c.are_names.ensures ∙ c.if-are_names.false)
    (ap (option_map term_seen) (sym c.in-Some.is) ∙ c.in_ok-term.ensures)

pub returns : goal.returns
returns c =
    let ws = words_seen c.args.words.now in
    IfOk-weaker c.labelled_form.result (λ o. option_map form_seen o ≡ labelled_form ws) (λ o. option_map form_seen o ≡ body_form ws)
    (λ o h. h ∙ body-labelled ws (sym c.are_names.ensures ∙ c.if-are_names.false) (ap (option_map term_seen) (sym c.in_default.is) ∙ c.in_ok-term.ensures))
    c.labelled_form.ensures
