-- One word more.
use Rattle.std.proofs.Common.{pos, arith}
use Rattle.nxt_types.specs.Arithmetic.{word}
use Rattle.nxt_model.specs.Values.{Num, elements, number}
use Rattle.nxt_space.specs.Spots.{numbers_in_bytes}
use Rattle.nxt_ops.proofs.Passing.{passed_more, passed_all}
use Rattle.nxt_ops.proofs.passes.read_each.Goals as goal

pub loop-k-preserved : goal.loop-k-preserved
loop-k-preserved c =
    let vs = elements (numbers_in_bytes c.args.kind c.args.bytes.now) in
    passed_more (λ v. word (number v)) vs c.args.into.now c.loop-k.into c.loop-k.k (Num (pos 0)) c.word_in.result (omega (arith, c.loop-k-test.true, c.requires)) c.requires c.loop-k.invariant c.word_in.ensures

pub returns : goal.returns
returns c =
    let vs = elements (numbers_in_bytes c.args.kind c.args.bytes.now) in
    passed_all (λ v. word (number v)) vs c.args.into.now c.loop-k.into c.loop-k.k (omega (arith, c.loop-k-test.false, c.loop-k.auto.k-end, c.requires)) c.requires c.loop-k.invariant
