use Rattle.std.proofs.Common.{[], sym, subst}
use Rattle.nxt_asm_parts.specs.MeasuresSeen.{AreMeasured}
use Rattle.nxt_asm_parts.proofs.StructShapes.{measured_more, measured_next, seen_more}
use Rattle.nxt_asm_parts.proofs.measure.Measures.of.Goals as goal

pub loop-one-preserved : goal.loop-one-preserved
loop-one-preserved c =
    let ms = c.loop-one.measured.items in
    let one = c.one-item.result in
    let next = c.in_ok-next.next in
    let pushed = c.in_ok-push.ensures.items in
    let is =
    measured_next ms c.as_slice.result.now one c.as_slice-in-loop-one.result.now next c.as_slice.ensures.value c.as_slice-in-loop-one.ensures
    c.in_ok-next.ensures in
    record {
      measured = subst (AreMeasured []) (sym pushed) (measured_more ms next one c.loop-one.invariant.measured is);
      seen = seen_more c.args.structs.now c.loop-one.one-index one ms c.push.new.self.items next c.loop-one-test.true c.one-item.is c.loop-one.invariant.seen is pushed;
    }
