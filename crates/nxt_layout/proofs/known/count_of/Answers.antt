-- The elements of one more row.
use Rattle.std.proofs.Common.{rules, arith}
use Rattle.nxt_layout.specs.Inside.RowPasses.{ground_of}
use Rattle.nxt_layout.proofs.Dope.Named.{elements_more}
use Rattle.nxt_layout.proofs.known.count_of.Goals as goal

pub loop-row-preserved : goal.loop-row-preserved
loop-row-preserved c =
    let more = elements_more (ground_of c.args.space.now) c.args.rows.now c.loop-row.row-index (omega (arith, c.loop-row-test.true)) in
    record {
      same = omega (arith, c.loop-row.invariant.same, more, c.count.ensures, c.from-count.ensures);
      bound = search rules;
    }
