use Rattle.std.proofs.Common.{◌∙◌, ap, sym}
use Rattle.std.proofs.lemmas.List.{get_or-map, length-map}
use Rattle.std.proofs.lemmas.List.Folds.{list_any_at}
use Rattle.std.proofs.Common.{arith}
use Rattle.nxt_model.specs.Nbc.NbcRules.{is_missing}
use Rattle.nxt_model.specs.Nbc.Text.{denoted}
use Rattle.nxt_nbc_lines.specs.Seen.{term_seen, terms_seen}
use Rattle.nxt_nbc_names.specs.SourceSeen.{source_seen}
use Rattle.nxt_nbc.proofs.unknown.any_missing.Goals as goal

pub returns-then-branch : goal.returns-then-branch
returns-then-branch c =
    let src = source_seen c.args.source.now in
    let ts = c.args.terms.now in
    let i = c.loop-term.term-index in
    let t = c.term-item.result in
    let n = length-map ts term_seen in
    sym (list_any_at (λ u. is_missing (denoted src c.args.line u)) (terms_seen ts) i (term_seen t) (let l = c.loop-term-test.true in omega (arith, n, l))
    (ap (λ u. is_missing (denoted src c.args.line u)) (get_or-map term_seen ts i t (term_seen t) c.loop-term-test.true ∙ ap term_seen (sym c.term-item.is))
    ∙ sym c.in_ok-is_missing.ensures ∙ c.if-branch.true))
