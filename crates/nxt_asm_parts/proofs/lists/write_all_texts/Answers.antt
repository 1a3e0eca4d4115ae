use Rattle.std.proofs.Common.{◌<◌, [], length, arith}
use Rattle.nxt_asm_parts.specs.Defaults.{text_leaves}
use Rattle.nxt_asm_parts.proofs.ListRows.{arrays_more, more_lists_fit}
use Rattle.nxt_asm_parts.proofs.lists.write_all_texts.Goals as goal

pub write_text_at-requires-clause-fits : goal.write_text_at-requires-clause-fits
write_text_at-requires-clause-fits c =
    let texts = c.args.constants.now.texts in
    let under : c.loop-place.place < length texts = omega (arith, c.loop-place-test.true, c.text_count-place-end.ensures) in
    more_lists_fit text_leaves texts c.loop-place.place [] c.args.lists.now c.loop-place.lists under c.requires c.loop-place.invariant

pub loop-place-preserved : goal.loop-place-preserved
loop-place-preserved c =
    let texts = c.args.constants.now.texts in
    let under : c.loop-place.place < length texts = omega (arith, c.loop-place-test.true, c.text_count-place-end.ensures) in
    arrays_more text_leaves texts c.loop-place.place [] c.args.lists.now c.loop-place.lists c.write_text_at.new.lists under c.loop-place.invariant
    c.in_ok-write_text_at.ensures
