use Rattle.std.proofs.Common.{map, take}
use Rattle.nxt_model.specs.TextProgram.{shape_by}
use Rattle.nxt_asm_parts.specs.MeasuresSeen.{shapes_seen}
use Rattle.nxt_asm_parts.proofs.StructShapes.{cluster_more, members_more}
use Rattle.nxt_asm_parts.proofs.Laws.LargeElements.{large_more}
use Rattle.nxt_asm_parts.proofs.measure.measure_behind.Goals as goal

pub loop-of-preserved : goal.loop-of-preserved
loop-of-preserved c =
    let ss = shapes_seen c.args.structs.now in
    let ts = c.args.types.now in
    let i = c.loop-of.of-index in
    let under = c.loop-of-test.true in
    let known = c.loop-of.invariant in
    record {
      whole =
          cluster_more ss ts i _ c.with-whole.result under
          (c.with-whole.ensures (map (shape_by ss) (take i ts)) _ known.whole c.measure_among.ensures);
      members = members_more ss ts i _ c.loop-of.members c.push.new.self c.loop-of.whole under known.members known.whole c.in_ok-push.ensures.ok;
      large = large_more ss ts i _ c.loop-of.large _ _ under known.large c.large_among.ensures c.or-large.ensures;
    }
