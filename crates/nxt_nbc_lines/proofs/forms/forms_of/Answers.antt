use Rattle.std.proofs.Common.{◌≡◌, [], None, get_or, take, drop, map, ap, sym, ◌∙◌}
use Rattle.nxt_model.specs.Nbc.Tokens.{Token}
use Rattle.nxt_model.specs.Nbc.Forms.{form_in, formed_from}
use Rattle.nxt_nbc_lines.specs.Lines.{held_lines, left_open, with_line, word_at}
use Rattle.nxt_nbc_lines.specs.Seen.{formed_seen, line_form_seen, words_seen}
use Rattle.nxt_nbc_lines.proofs.LineLaws.{front-fits, held-first, join, join-line, join-start}
use Rattle.nxt_nbc_lines.proofs.HeldLines.{formed_held}
use Rattle.nxt_nbc_lines.proofs.forms.forms_of.Goals as goal

pub loop-rest-init : goal.loop-rest-init
loop-rest-init c =
    let ls = held_lines c.args.text.now c.args.tokens.now in
    ap (λ fs. join (record { forms = map line_form_seen fs; bad = None }) (formed_from ls c.new-places.result)) c.new.ensures
    ∙ ap (λ o. join (record { forms = []; bad = None }) (formed_from ls o)) c.new-places.ensures
    ∙ join-start (formed_from ls []) ∙ formed_held c.args.text.now c.args.tokens.now

pub split_at-requires : goal.split_at-requires
split_at-requires c = front-fits c.loop-rest.rest.now c.first.inside.line c.line_len-len.result c.line_len-len.ensures

pub loop-rest-preserved : goal.loop-rest-preserved
loop-rest-preserved c =
    let text = c.args.text.now in
    let rest = c.loop-rest.rest.now in
    let line = c.first.inside.line in
    let n = c.line_len-len.result in
    let done = formed_seen c.loop-rest.formed in
    let o = c.loop-rest.places in
    let more = held_lines text (drop n rest) in
    let ws = map (word_at text) (take n rest) in
    let first : (get_or rest 0 c.first-item.result).line ≡ line = ap (λ (t : Token). t.line) (sym c.first-item.is ∙ sym c.first.view_is) in
    let words : words_seen c.as_slice.result.now ≡ ws =
    ap words_seen c.as_slice.ensures ∙ c.in_ok-words.ensures ∙ ap (map (word_at text)) c.split_at.ensures.front in
    let step : join done (formed_from (held_lines text rest) o) ≡ join (with_line line (form_in o ws) o done) (formed_from more (left_open line (form_in o ws) o)) =
    ap (λ ls. join done (formed_from ls o)) (held-first text rest c.first-item.result line n c.in-len1-up.len_at_least first c.line_len-len.ensures)
    ∙ join-line line (form_in o ws) o done (formed_from more) in
    let found = with_line line (form_in o ws) o done in
    ap (λ d. join d (formed_from (held_lines text c.split_at.result.1.now) c.read_line.new.places)) (c.in_ok-read_line.ensures.formed ∙ ap (λ w. with_line line (form_in o w) o done) words)
    ∙ ap (λ b. join found (formed_from (held_lines text b) c.read_line.new.places)) c.split_at.ensures.back
    ∙ ap (λ p. join found (formed_from more p)) (c.in_ok-read_line.ensures.places ∙ ap (λ w. left_open line (form_in o w) o) words)
    ∙ sym step ∙ c.loop-rest.invariant
