use Rattle.std.proofs.Common.{◌≡◌, false, slice_get, refl, ap, below_more, not, ◌∙◌, arith}
use Rattle.nxt_model.specs.Nbc.Forms.{Precedes}
use Rattle.nxt_model.specs.Nbc.NbcRules.{is_no_thread, is_thread, is_wrong_kind}
use Rattle.nxt_nbc_lines.specs.Seen.{terms_seen}
use Rattle.nxt_nbc_names.specs.SourceSeen.{source_seen}
use Rattle.nxt_nbc_kinds.proofs.LeastOperands.{least_at, least_past, no_thread_at, no_thread_past}
use Rattle.nxt_nbc_kinds.proofs.kinds.wrong_thread.Goals as goal

pub returns-then-not-is_thread : goal.returns-then-not-is_thread
returns-then-not-is_thread c =
    let source = c.args.source.now in
    let src = source_seen source in
    let terms = c.args.terms.now in
    least_at (λ k. is_wrong_kind src c.args.line k (Precedes (terms_seen terms))) refl c.loop-k.k c.loop-k.invariant
    (no_thread_at src c.args.line terms c.loop-k.k c.index-terms-k.result c.is_thread.result c.loop-k-test.true c.index-terms-k.is
    (c.is_thread.ensures source.structs ∙ ap is_thread c.in_ok-denoted.ensures)
    ∙ ap not c.if-not-is_thread.true)

pub loop-k-preserved : goal.loop-k-preserved
loop-k-preserved c =
    let source = c.args.source.now in
    let src = source_seen source in
    let terms = c.args.terms.now in
    below_more (λ j. is_no_thread src c.args.line (slice_get (terms_seen terms) j) ≡ false) c.loop-k.k c.loop-k.invariant
    (no_thread_at src c.args.line terms c.loop-k.k c.index-terms-k.result c.is_thread.result c.loop-k-test.true c.index-terms-k.is
    (c.is_thread.ensures source.structs ∙ ap is_thread c.in_ok-denoted.ensures)
    ∙ ap not c.if-not-is_thread.false)

pub returns : goal.returns
returns c =
    let src = source_seen c.args.source.now in
    let terms = c.args.terms.now in
    least_past (λ k. is_wrong_kind src c.args.line k (Precedes (terms_seen terms))) refl c.loop-k.k c.loop-k.invariant
    (λ j over. no_thread_past src c.args.line terms j (omega (arith, over)))
