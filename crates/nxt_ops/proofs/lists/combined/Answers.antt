-- One more word.
use Rattle.std.proofs.Common.{rules, ◌++◌, ◌∷◌, [], ◌<◌, length, w64, ap, ap₂, ◌∙◌, arith}
use Rattle.std.specs.Prelude.{pos}
use Rattle.std.proofs.Math.Facts.{to_z-of_z}
use mir.Val.{SFits}
use Rattle.nxt_ops.specs.Elements.{pairs_of}
use Rattle.nxt_ops.specs.Ops.{word_of_two}
use Rattle.nxt_ops.proofs.PairedNumbers.{pair_more}
use Rattle.nxt_ops.proofs.lists.combined.Goals as goal

pub loop-k-preserved : goal.loop-k-preserved
loop-k-preserved c =
    let x = c.number_at-x.result in
    let y = c.number_at-y.result in
    let fx : SFits w64 x = search rules in
    let fy : SFits w64 y = search rules in
    let fw : SFits w64 c.from.result = search rules in
    let less : c.loop-k.k < length (pairs_of c.args.xs.now c.args.ys.now) = omega (arith, c.loop-k-test.true, c.pair_count-count.ensures.count) in
    pair_more
    c.args.operator
    c.args.signed
    c.args.xs.now
    c.args.ys.now
    c.loop-k.k
    x
    y
    c.from.result
    c.loop-k.flat
    c.push-in-loop-k.new.self
    less
    c.loop-k.invariant
    c.number_at-x.ensures
    c.number_at-y.ensures
    (c.from.ensures
    ∙ ap pos c.word.ensures
    ∙ ap₂ (λ a b. pos (word_of_two c.args.operator c.args.signed a b)) (to_z-of_z fx) (to_z-of_z fy))
    (c.in_ok-push-2.ensures.ok ∙ ap (λ z. c.loop-k.flat ++ z ∷ []) (to_z-of_z fw))
