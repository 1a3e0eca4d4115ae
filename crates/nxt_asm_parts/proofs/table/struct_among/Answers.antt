use Rattle.nxt_asm_parts.proofs.StructShapes.{found_among}
use Rattle.nxt_asm_parts.proofs.table.struct_among.Goals as goal

pub returns-then-position-first : goal.returns-then-position-first
returns-then-position-first c =
    found_among c.args.structs.now c.args.first c.args.position c.get.result c.if-position-first.true c.get.ensures.lookup
