use Rattle.std.proofs.Common.{◌<◌, length, arith}
use Rattle.nxt_asm.proofs.CountedSteps.{text_more}
use Rattle.nxt_asm.proofs.footprint.text_bytes.Goals as goal

pub loop-place-preserved : goal.loop-place-preserved
loop-place-preserved c =
    let texts = c.args.constants.now.texts in
    let under : c.loop-place.place < length texts = omega (arith, c.loop-place-test.true, c.text_count-place-end.ensures) in
    text_more texts c.loop-place.place c.loop-place.bytes c.in_ok-bytes_of_text.field-0 c.in_ok-bytes.bytes under c.loop-place.invariant
    c.in_ok-bytes_of_text.ensures c.in_ok-bytes.ensures
