use Rattle.std.proofs.Common.{◌<◌, arith}
use Rattle.std.proofs.lemmas.Bool.Decides.{nat_tests}
use Rattle.nxt_asm_parts.proofs.Taken.{arrays_taken}
use Rattle.nxt_asm_parts.proofs.measure.Measure.of_arrays.Goals as goal

pub returns-else-arrays-eq0 : goal.returns-else-arrays-eq0
returns-else-arrays-eq0 c = λ s is.
    let some : 0 < c.args.arrays = grind (arith, nat_tests) in
    arrays_taken c.args.arrays s c.args.self c.saturating_add.result some is c.saturating_add.ensures
