-- The numbers are what is stored of the values.
use Rattle.std.proofs.Common.{Ok, Err, ap, ◌∙◌, subst}
use Rattle.nxt_model.specs.Values.{list_of, stored}
use Rattle.nxt_space.specs.Outcomes.{Does}
use Rattle.nxt_space.specs.Spots.{numbers_in_bytes}
use Rattle.nxt_space.specs.Variables.{shape_of, with_value}
use Rattle.nxt_space.specs.declared.fault.OpFault.TheVariants.{PoolPassed}
use Rattle.nxt_operands.specs.Operands.{Done}
use Rattle.nxt_operands.proofs.Laws.Refusals.{passed_on}
use Rattle.nxt_lists.proofs.NumberLists.{list_of_numbers}
use Rattle.nxt_lists.proofs.numbers.store_numbers.Goals as goal

pub returns-in_err-set_list-clause-does : goal.returns-in_err-set_list-clause-does
returns-in_err-set_list-clause-does c i vs mine are =
    let s = c.args.space.now.vars in
    let fault = PoolPassed c.in_err-set_list.field-0.0.0 in
    passed_on Done Done (with_value s i (stored (shape_of s i) (list_of vs))) c.args.space.now c.set_list.new.self fault c.from_residual.result c.from_residual.ensures.1
    (subst
    (λ w. Does {T = Unit {0}} Done (with_value s i w) c.args.space.now (Err fault) c.set_list.new.self)
    (ap (numbers_in_bytes c.args.to.kind) c.as_slice.ensures ∙ list_of_numbers s i c.args.to c.args.bytes.now vs mine are)
    (c.in_err-set_list.ensures.becomes i mine))

pub returns-clause-does : goal.returns-clause-does
returns-clause-does c i vs mine are =
    let s = c.args.space.now.vars in
    let e = c.in_ok-set_list.ensures.becomes i mine in
    subst
    (λ w. Does {T = Unit {0}} Done (with_value s i w) c.args.space.now (Ok tt) c.set_list.new.self)
    (ap (numbers_in_bytes c.args.to.kind) c.as_slice.ensures ∙ list_of_numbers s i c.args.to c.args.bytes.now vs mine are)
    (e.0, e.1, tt)
