use Rattle.std.proofs.Common.{◌<◌, [], length, slice_index_or, arith}
use Rattle.nxt_types.specs.Shapes.{Number}
use Rattle.nxt_types.specs.declared.kind.Kind.TheVariants.{Ubyte}
use Rattle.nxt_model.specs.TextProgram.{text_value}
use Rattle.nxt_asm_parts.specs.Defaults.{text_leaves}
use Rattle.nxt_asm_parts.proofs.DefaultLeaves.{leaves_more, next_fits}
use Rattle.nxt_asm_parts.proofs.defaults.write_texts.Goals as goal

pub write_row-requires : goal.write_row-requires
write_row-requires c =
    let texts = c.args.constants.now.texts in
    let under : c.loop.counter < length texts = omega (arith, c.loop-test.true, c.text_count-end.ensures) in
    let fits = next_fits text_leaves texts c.loop.counter [] c.args.defaults.now c.loop.defaults under c.requires c.loop.invariant in
    omega (arith, fits)

pub loop-preserved : goal.loop-preserved
loop-preserved c =
    let texts = c.args.constants.now.texts in
    let under : c.loop.counter < length texts = omega (arith, c.loop-test.true, c.text_count-end.ensures) in
    leaves_more text_leaves texts c.loop.counter [] c.args.defaults.now c.loop.defaults c.write_row.new.defaults under c.loop.invariant
    (c.in_ok-write_row.ensures 1 (Number Ubyte) (text_value (slice_index_or texts c.loop.counter [])))
