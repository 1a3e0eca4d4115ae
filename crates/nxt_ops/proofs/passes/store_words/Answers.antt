-- The numbers in the bytes are what is stored of the words.
use Rattle.std.proofs.Common.{Ok, Err, ap, ◌∙◌, subst}
use Rattle.nxt_model.specs.Values.{stored}
use Rattle.nxt_space.specs.Outcomes.{Does}
use Rattle.nxt_space.specs.Spots.{numbers_in_bytes}
use Rattle.nxt_space.specs.Variables.{shape_of, with_value}
use Rattle.nxt_space.specs.declared.fault.OpFault.TheVariants.{PoolPassed}
use Rattle.nxt_operands.specs.Operands.{Done}
use Rattle.nxt_operands.proofs.Laws.Refusals.{passed_on}
use Rattle.nxt_ops.specs.Passes.{AreWritten, list_of_words}
use Rattle.nxt_ops.proofs.Written.{written_stored}
use Rattle.nxt_ops.proofs.passes.store_words.Goals as goal

pub returns-in_err-set_list-clause-does : goal.returns-in_err-set_list-clause-does
returns-in_err-set_list-clause-does c i mine =
    let s = c.args.space.now.vars in
    let ws = c.args.words.now in
    let fault = PoolPassed c.in_err-set_list.field-0.0.0 in
    let are = subst (λ k. AreWritten k c.in_ok-bytes.bytes.items ws) c.kind.ensures c.in_ok-bytes.ensures in
    passed_on Done Done (with_value s i (stored (shape_of s i) (list_of_words ws))) c.args.space.now c.set_list.new.self fault c.from_residual-in_err-set_list.result c.from_residual-in_err-set_list.ensures.1
    (subst
    (λ w. Does {T = Unit {0}} Done (with_value s i w) c.args.space.now (Err fault) c.set_list.new.self)
    (ap (numbers_in_bytes c.args.to.kind) c.as_slice.ensures.value ∙ written_stored s i c.args.to c.in_ok-bytes.bytes.items ws mine are)
    (c.in_err-set_list.ensures.becomes i mine))

pub returns-clause-does : goal.returns-clause-does
returns-clause-does c i mine =
    let s = c.args.space.now.vars in
    let ws = c.args.words.now in
    let e = c.in_ok-set_list.ensures.becomes i mine in
    let are = subst (λ k. AreWritten k c.in_ok-bytes.bytes.items ws) c.kind.ensures c.in_ok-bytes.ensures in
    subst
    (λ w. Does {T = Unit {0}} Done (with_value s i w) c.args.space.now (Ok tt) c.set_list.new.self)
    (ap (numbers_in_bytes c.args.to.kind) c.as_slice.ensures.value ∙ written_stored s i c.args.to c.in_ok-bytes.bytes.items ws mine are)
    (e.0, e.1, tt)
