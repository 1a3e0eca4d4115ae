-- One number more.
use Rattle.std.proofs.Common.{get_or, arith}
use Rattle.nxt_ops.proofs.Written.{write_more, write_long, write_all}
use Rattle.nxt_ops.proofs.passes.write_each.Goals as goal

pub loop-k-preserved : goal.loop-k-preserved
loop-k-preserved c =
    let words = c.args.words.now in
    let k = c.loop-k.k in
    record {
      long = write_long c.args.kind (get_or words k 0) k c.loop-k.into c.write_number.new.into c.args.into.now c.write_number.ensures c.loop-k.invariant.long;
      numbers = write_more c.args.kind words c.args.into.now c.loop-k.into c.write_number.new.into k c.loop-k-test.true c.requires.long c.loop-k.invariant.long c.loop-k.invariant.numbers c.write_number.ensures;
    }

pub returns : goal.returns
returns c =
    write_all c.args.kind c.args.words.now c.args.into.now c.loop-k.into c.loop-k.k (omega (arith, c.loop-k-test.false, c.loop-k.auto.k-end)) c.requires.long c.loop-k.invariant.long c.loop-k.invariant.numbers
