-- One pair of words more.
use Rattle.std.proofs.Common.{ℕ, ◌<◌, ◌≡◌, ◌∙◌, get_or, length, pos, sym, ap, arith}
use Rattle.std.specs.Prelude.{zip}
use Rattle.std.proofs.lemmas.Slice.Zip.{length-zip, get_or-zip}
use Rattle.nxt_ops.specs.Ops.{word_of_two}
use Rattle.nxt_ops.proofs.Passing.{passed_more, passed_all, next_kept}
use Rattle.nxt_ops.proofs.passes.combine_each.Goals as goal

pub loop-k-preserved : goal.loop-k-preserved
loop-k-preserved c =
    let xs = c.args.xs.now in
    let ys = c.args.ys.now in
    let k = c.loop-k.k in
    let f = λ (p : ℕ × ℕ). word_of_two c.args.operator c.args.signed (pos p.0) (pos p.1) in
    let many : length xs ≡ length (zip xs ys) = omega (arith, length-zip xs ys, c.requires) in
    let less : k < length xs = omega (arith, c.loop-k-test.true) in
    let within : k < length ys = omega (arith, less, c.requires) in
    passed_more f (zip xs ys) xs c.loop-k.xs k (0, 0) c.two_word.result (omega (arith, less, many)) many c.loop-k.invariant
    (c.two_word.ensures
    ∙ ap (λ x. f (x, get_or ys k 0)) (next_kept 0 c.loop-k.invariant)
    ∙ ap f (sym (get_or-zip xs ys k (0, 0) less within)))

pub returns : goal.returns
returns c =
    let xs = c.args.xs.now in
    let ys = c.args.ys.now in
    let f = λ (p : ℕ × ℕ). word_of_two c.args.operator c.args.signed (pos p.0) (pos p.1) in
    let many : length xs ≡ length (zip xs ys) = omega (arith, length-zip xs ys, c.requires) in
    passed_all f (zip xs ys) xs c.loop-k.xs c.loop-k.k (omega (arith, c.loop-k-test.false, c.loop-k.auto.k-end, many)) many c.loop-k.invariant
