use Rattle.std.proofs.Common.{arith}
use Rattle.nxt_nbc_program.proofs.BlockNumbers.{number_below}
use Rattle.nxt_nbc_program.proofs.links.number_of.Goals as goal

pub overflow_cast-result : goal.overflow_cast-result
overflow_cast-result c =
    let l = number_below c.args.source.now.blocks c.args.name.now c.number.result c.in-Some.number c.requires c.number.ensures c.in-Some.is in omega (arith, l)
