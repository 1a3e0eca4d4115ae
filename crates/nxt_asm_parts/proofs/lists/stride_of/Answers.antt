use Rattle.std.proofs.Common.{◌<◌, arith}
use Rattle.std.proofs.lemmas.Bool.Decides.{nat_tests}
use Rattle.nxt_model.specs.TextProgram.{base_shape}
use Rattle.nxt_asm_parts.specs.Places.{first_shapes}
use Rattle.nxt_asm_parts.proofs.ListRows.{inner_bytes}
use Rattle.nxt_asm_parts.proofs.lists.stride_of.Goals as goal

pub returns-else-of-eq1 : goal.returns-else-of-eq1
returns-else-of-eq1 c =
    let more : 1 < c.args.of.arrays = grind (arith, nat_tests) in
    λ small. inner_bytes c.args.of.arrays (base_shape (first_shapes c.args.first c.args.measures.now) c.args.of.base) more
