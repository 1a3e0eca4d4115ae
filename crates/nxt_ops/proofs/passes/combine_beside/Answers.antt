-- One pair of words more.
use Rattle.std.proofs.Common.{ℕ, ◌<◌, ◌≤◌, ◌≡◌, ◌∙◌, get_or, length, pos, sym, ap, arith}
use Rattle.std.specs.Prelude.{zip}
use Rattle.std.proofs.lemmas.List.{get_or-map, length-map}
use Rattle.std.proofs.lemmas.Slice.Zip.{length-zip, get_or-zip}
use Rattle.nxt_types.specs.Arithmetic.{word}
use Rattle.nxt_model.specs.Values.{Num, Value, elements, number}
use Rattle.nxt_space.specs.Spots.{numbers_in_bytes}
use Rattle.nxt_ops.specs.Ops.{word_of_two}
use Rattle.nxt_ops.specs.Passes.{words_of}
use Rattle.nxt_ops.proofs.Passing.{passed_more, passed_all, next_kept}
use Rattle.nxt_ops.proofs.passes.combine_beside.Goals as goal

-- there are as many words as numbers
as_many : (v : Value) → length (words_of v) ≡ length (elements v)
as_many v = length-map (elements v) (λ u. word (number u))

pub loop-k-preserved : goal.loop-k-preserved
loop-k-preserved c =
    let xs = c.args.xs.now in
    let v = numbers_in_bytes c.args.kind c.args.bytes.now in
    let ys = words_of v in
    let k = c.loop-k.k in
    let f = λ (p : ℕ × ℕ). word_of_two c.args.operator c.args.signed (pos p.0) (pos p.1) in
    let enough : length xs ≤ length ys = omega (arith, as_many v, c.requires) in
    let many : length xs ≡ length (zip xs ys) = omega (arith, length-zip xs ys, enough) in
    let less : k < length xs = omega (arith, c.loop-k-test.true) in
    let within : k < length ys = omega (arith, less, enough) in
    let there : k < length (elements v) = omega (arith, within, as_many v) in
    let read : c.word_in.result ≡ get_or ys k 0 = c.word_in.ensures ∙ sym (get_or-map (λ u. word (number u)) (elements v) k (Num (pos 0)) 0 there) in
    passed_more f (zip xs ys) xs c.loop-k.xs k (0, 0) c.two_word.result (omega (arith, less, many)) many c.loop-k.invariant
    (c.two_word.ensures
    ∙ ap (λ y. word_of_two c.args.operator c.args.signed (pos (get_or c.loop-k.xs k 0)) (pos y)) read
    ∙ ap (λ x. f (x, get_or ys k 0)) (next_kept 0 c.loop-k.invariant)
    ∙ ap f (sym (get_or-zip xs ys k (0, 0) less within)))

pub returns : goal.returns
returns c =
    let xs = c.args.xs.now in
    let v = numbers_in_bytes c.args.kind c.args.bytes.now in
    let ys = words_of v in
    let f = λ (p : ℕ × ℕ). word_of_two c.args.operator c.args.signed (pos p.0) (pos p.1) in
    let enough : length xs ≤ length ys = omega (arith, as_many v, c.requires) in
    let many : length xs ≡ length (zip xs ys) = omega (arith, length-zip xs ys, enough) in
    passed_all f (zip xs ys) xs c.loop-k.xs c.loop-k.k (omega (arith, c.loop-k-test.false, c.loop-k.auto.k-end, many)) many c.loop-k.invariant
