-- One word more.
use Rattle.std.proofs.Common.{ℕ, ◌∙◌, pos, refl, ap, arith}
use Rattle.nxt_ops.specs.Ops.{word_of_one}
use Rattle.nxt_ops.proofs.Passing.{passed_more, next_kept}
use Rattle.nxt_ops.proofs.passes.change_each.Goals as goal

pub loop-k-preserved : goal.loop-k-preserved
loop-k-preserved c =
    let xs = c.args.xs.now in
    let f = λ (w : ℕ). word_of_one c.args.operator c.args.signed (pos w) in
    passed_more f xs xs c.loop-k.xs c.loop-k.k 0 c.one_word.result (omega (arith, c.loop-k-test.true)) refl c.loop-k.invariant (c.one_word.ensures ∙ ap f (next_kept 0 c.loop-k.invariant))
