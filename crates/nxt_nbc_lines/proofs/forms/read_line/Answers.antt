use Rattle.std.proofs.Common.{◌≡◌, Some, option_map, refl, ap, sym, ◌∙◌}
use Rattle.std.specs.Prelude.{if◌then◌else◌}
use Rattle.std.proofs.lemmas.Result.{on_ok_weaker}
use Rattle.nxt_model.specs.Nbc.Forms.{ends_empty, form_in, least_bad}
use Rattle.nxt_nbc_lines.specs.Places.{ends_empty_at, form_at}
use Rattle.nxt_nbc_lines.specs.Seen.{form_seen, words_seen}
use Rattle.nxt_nbc_lines.proofs.LineLaws.{formed_more}
use Rattle.nxt_nbc_lines.proofs.OpenLaws.{ends_empty-is, form_in-is}
use Rattle.nxt_nbc_lines.proofs.forms.read_line.Goals as goal

pub returns-clause-formed : goal.returns-clause-formed
returns-clause-formed c =
    let ws = words_seen c.args.words.now in
    let o = c.args.places.now in
    let f = form_seen c.in-Some.form in
    let bad = c.args.formed.now.bad in
    let is : Some f ≡ form_in o ws =
    ap (option_map form_seen) (sym c.in-Some.is) ∙ c.in_ok-form.ensures ∙ ap (λ p. form_at p ws) c.innermost-place.ensures ∙ sym (form_in-is o ws) in
    let ends : c.ends_empty.result ≡ ends_empty f o =
    c.ends_empty.ensures ∙ ap (ends_empty_at f) c.innermost-place.ensures ∙ sym (ends_empty-is f o) in
    let after : c.bad_after-formed.result ≡ (if ends_empty f o then least_bad c.args.line bad else bad) =
    c.bad_after-formed.ensures ∙ ap (λ b. if b then least_bad c.args.line bad else bad) ends in
    on_ok_weaker c.push.result
    (λ e. formed_more c.args.line c.args.formed.now.forms c.push.new.self (record { line = c.args.line; form = c.in-Some.form }) o (form_in o ws) bad c.bad_after-formed.result refl is after e)
    c.push.ensures.ok
