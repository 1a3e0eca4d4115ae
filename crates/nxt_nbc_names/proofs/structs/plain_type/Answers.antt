use Rattle.std.proofs.Common.{true, false}
use Rattle.nxt_nbc_names.proofs.PlainTypes.{of_number, of_other}
use Rattle.nxt_nbc_names.proofs.structs.plain_type.Goals as goal

pub returns-in-Some : goal.returns-in-Some
returns-in-Some c = of_number c.number_types.result.now c.args.name.now c.number_types.ensures c.in-Some.found c.in-Some.ensures

pub returns-in-None : goal.returns-in-None
returns-in-None c =
    of_other c.number_types.result.now c.args.name.now c.number_types.ensures true c.as_bytes.result.now c.in-None.ensures c.as_bytes.ensures.value c.if-eq.ensures

pub returns-in-None-2 : goal.returns-in-None-2
returns-in-None-2 c =
    of_other c.number_types.result.now c.args.name.now c.number_types.ensures false c.as_bytes.result.now c.in-None.ensures c.as_bytes.ensures.value c.if-eq.ensures
