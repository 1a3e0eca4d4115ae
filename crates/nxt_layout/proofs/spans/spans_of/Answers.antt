-- With one more row, where it is full.
use Rattle.std.proofs.Common.{rules, ◌≡◌, true, false, ◌+◌, ◌-◌, ◌++◌, ◌∷◌, [], ap, sym, ◌∙◌, subst, arith, append-nil}
use Rattle.nxt_layout.specs.declared.spans.Span.{Span}
use Rattle.nxt_layout.specs.Inside.RowPasses.{ground_of, is_full_by, spans_from, row_span, SpansRise}
use Rattle.nxt_layout.proofs.Dope.Searches.{all_rise}
use Rattle.nxt_layout.proofs.Dope.Through.{span_more, span_less}
use Rattle.nxt_layout.proofs.spans.spans_of.Goals.{then-is_full+in_ok-push-2, else-is_full}
use Rattle.nxt_layout.proofs.spans.spans_of.Goals as goal

pub loop-row-preserved : goal.loop-row-preserved
loop-row-preserved c =
    let g = ground_of c.args.space.now in
    let full = is_full_by g c.args.marks.now in
    let r = c.loop-row.row in
    let n = c.rows-rows.result in
    let rest = spans_from g full (r + 1) (n - (r + 1)) in
    let before = c.loop-row.spans.items in
    elim c.if-is_full.branch [
      | then-is_full+in_ok-push-2 w ↦ (let it : full r ≡ true = search rules in
          let items : c.if-is_full.spans.items ≡ before ++ row_span g r ∷ [] =
          ap (λ v. v.items) w.spans-is ∙ w.in_ok-push-2.ensures.items ∙ ap (λ (s : Span). before ++ s ∷ []) w.row_span.ensures in
          ap (λ ss. ss ++ rest) items ∙ span_more g full r n before c.loop-row-test.true it ∙ c.loop-row.invariant)
      | else-is_full w ↦ (let it : full r ≡ false = search rules in
          ap (λ v. v.items ++ rest) w.spans-is ∙ span_less g full r n before c.loop-row-test.true it ∙ c.loop-row.invariant)
    ]

pub returns-clause-rise : goal.returns-clause-rise
returns-clause-rise c =
    let g = ground_of c.args.space.now in
    let full = is_full_by g c.args.marks.now in
    let spans = c.loop-row.spans.items in
    let none : c.rows-rows.result - c.loop-row.row ≡ 0 = omega (arith, c.loop-row-test.false) in
    subst (SpansRise 0) (sym (sym (append-nil spans) ∙ ap (λ k. spans ++ spans_from g full c.loop-row.row k) (sym none) ∙ c.loop-row.invariant)) (all_rise g full)
