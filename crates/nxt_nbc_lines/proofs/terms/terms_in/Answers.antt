use Rattle.std.proofs.Common.{map, ap, sym, ◌∙◌, option_map}
use Rattle.nxt_model.specs.Nbc.Forms.{all_of, term_of}
use Rattle.nxt_nbc_lines.specs.Seen.{pieces_in, term_seen, terms_seen, words_seen}
use Rattle.nxt_nbc_lines.proofs.PutAll.{put_all, put_seen}
use Rattle.nxt_nbc_lines.proofs.terms.terms_in.Goals as goal

pub loop-rest-preserved : goal.loop-rest-preserved
loop-rest-preserved c =
    let terms = c.loop-rest.terms in
    let more = pieces_in c.front_piece.result.1 in
    c.loop-rest.invariant
    ∙ ap (λ o. put_all (terms_seen terms) (all_of (map term_of (pieces_in o)))) c.in-Some.is
    ∙ ap (λ ps. put_all (terms_seen terms) (all_of (map term_of ps))) c.front_piece.ensures.pieces
    ∙ put_seen term_seen term_of terms c.in-Some-2.term (words_seen c.front_piece.result.0.now) more
    (ap (option_map term_seen) (sym c.in-Some-2.is) ∙ c.in_ok-term.ensures)
    ∙ ap (λ ts. put_all (terms_seen ts) (all_of (map term_of more))) (sym c.in_ok-push.ensures.ok)
