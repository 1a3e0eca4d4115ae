use Rattle.std.proofs.Common.{length, ap, arith}
use Rattle.nxt_types.specs.Shapes.{members}
use Rattle.nxt_model.specs.Assembled.{all_shapes, leaves_sizes, places}
use Rattle.nxt_model.specs.TextProgram.{text_of}
use Rattle.nxt_asm_rules.proofs.Laws.Counts.{code_length, records_length, table_length}
use Rattle.nxt_asm.proofs.sections.header_of.Goals as goal

pub overflow_cast-result : goal.overflow_cast-result
overflow_cast-result c =
    let ss = members (all_shapes (text_of c.args.draft.now)) in
    let count = table_length ss (places (leaves_sizes ss)) in
    omega (arith, c.len.ensures, ap length c.requires.toc, count, c.requires.fits.entries)

pub overflow_cast-result-2 : goal.overflow_cast-result-2
overflow_cast-result-2 c =
    omega (arith, c.len-2.ensures, ap length c.requires.clumps, records_length 0 c.args.draft.now.blocks, c.requires.blocks)

pub overflow_cast-result-3 : goal.overflow_cast-result-3
overflow_cast-result-3 c =
    omega (arith, c.len-3.ensures, ap length c.requires.code, code_length (text_of c.args.draft.now) 0 c.args.draft.now.blocks, c.requires.fits.size)
