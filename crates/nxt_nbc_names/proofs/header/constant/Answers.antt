use Rattle.std.proofs.Common.{Some, ap, ◌∙◌}
use Rattle.nxt_nbc_names.proofs.Constants.{of_own, of_call, of_none}
use Rattle.nxt_nbc_names.proofs.header.constant.Goals as goal

pub returns-in-Some : goal.returns-in-Some
returns-in-Some c = of_own c.plain_constants.result.now c.args.name.now c.plain_constants.ensures c.in-Some.constant c.in-Some.ensures

pub returns-in-Some-call_named : goal.returns-in-Some-call_named
returns-in-Some-call_named c =
    ap Some c.number.ensures
    ∙ of_call c.plain_constants.result.now c.args.name.now c.plain_constants.ensures c.in-Some-call_named.call c.in-None.ensures c.in-Some-call_named.ensures

pub returns-in-None-call_named : goal.returns-in-None-call_named
returns-in-None-call_named c =
    of_none c.plain_constants.result.now c.args.name.now c.plain_constants.ensures c.in-None.ensures c.in-None-call_named.ensures
