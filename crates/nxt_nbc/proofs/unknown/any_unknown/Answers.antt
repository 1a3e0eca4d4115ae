use Rattle.std.proofs.Common.{◌≡◌, ◌∙◌, ℕ, ◌≤◌, ap, sym, false, length, get_or, arith, inl, inr}
use Rattle.std.proofs.lemmas.Bool.{cases_lt}
use Rattle.std.proofs.lemmas.List.{get_or_default}
use Rattle.nxt_types.specs.Opcodes.{class_in, row}
use Rattle.nxt_model.specs.Nbc.NbcRules.{is_unknown}
use Rattle.nxt_nbc_lines.specs.Seen.{term_seen}
use Rattle.nxt_nbc_lines.specs.declared.terms.Term.{Term}
use Rattle.nxt_nbc_names.specs.SourceSeen.{source_seen}
use Rattle.nxt_nbc.proofs.UnknownNames.{any_term, none_of_terms}
use Rattle.nxt_nbc.proofs.unknown.any_unknown.Goals as goal

pub returns-then-branch : goal.returns-then-branch
returns-then-branch c =
    let src = source_seen c.args.source.now in
    let t = c.index-terms-k.result in
    sym (any_term (λ p. is_unknown src c.args.labels.now c.args.line p.0 p.1) c.args.op c.args.terms.now c.requires c.loop-k.k t c.loop-k-test.true c.index-terms-k.is
    (ap (λ d. is_unknown src c.args.labels.now c.args.line d (term_seen t)) (sym c.class.ensures) ∙ sym c.in_ok-is_unknown.ensures ∙ c.if-branch.true))

pub loop-k-preserved : goal.loop-k-preserved
loop-k-preserved c = λ j d l.
    elim (cases_lt j c.loop-k.k) as (λ _. is_unknown (source_seen c.args.source.now) c.args.labels.now c.args.line (class_in (row c.args.op).operands j) (term_seen (get_or c.args.terms.now j d)) ≡ false) [
      | inl lt ↦ c.loop-k.invariant j d lt
      | inr ge ↦ here j d (omega (arith, ge, l))
    ]
  where
    here : (j : ℕ) (d : Term) → j ≡ c.loop-k.k
        → is_unknown (source_seen c.args.source.now) c.args.labels.now c.args.line (class_in (row c.args.op).operands j) (term_seen (get_or c.args.terms.now j d)) ≡ false
    here j d e =
        let src = source_seen c.args.source.now in
        let ts = c.args.terms.now in
        let t = c.index-terms-k.result in
        ap (λ i. is_unknown src c.args.labels.now c.args.line (class_in (row c.args.op).operands i) (term_seen (get_or ts i d))) e
        ∙ ap (λ u. is_unknown src c.args.labels.now c.args.line (class_in (row c.args.op).operands c.loop-k.k) (term_seen u))
        (get_or_default ts c.loop-k.k d t c.loop-k-test.true ∙ sym c.index-terms-k.is)
        ∙ ap (λ k. is_unknown src c.args.labels.now c.args.line k (term_seen t)) (sym c.class.ensures)
        ∙ sym c.in_ok-is_unknown.ensures ∙ c.if-branch.false

pub returns : goal.returns
returns c =
    let src = source_seen c.args.source.now in
    let all : length c.args.terms.now ≤ c.loop-k.k = c.loop-k-test.false in
    sym (none_of_terms (λ p. is_unknown src c.args.labels.now c.args.line p.0 p.1) c.args.op c.args.terms.now c.requires
    (λ k d l. c.loop-k.invariant k d (omega (arith, l, all))))
