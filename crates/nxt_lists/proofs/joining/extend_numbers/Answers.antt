-- The list's own numbers, and those of the sources.
use Rattle.std.proofs.Common.{Ok, Err, ◌++◌, length, ap, ◌∙◌, subst, arith}
use Rattle.nxt_model.specs.Values.{elements, list_of, stored}
use Rattle.nxt_space.specs.Outcomes.{Does}
use Rattle.nxt_space.specs.Spots.{numbers_in_bytes}
use Rattle.nxt_space.specs.Variables.{shape_of, value_of, with_value}
use Rattle.nxt_space.specs.declared.fault.OpFault.TheVariants.{PoolPassed}
use Rattle.nxt_operands.specs.Operands.{Done}
use Rattle.nxt_operands.proofs.Laws.Refusals.{passed_on}
use Rattle.nxt_lists.specs.Pieces.{pieces_of}
use Rattle.nxt_lists.proofs.JoinedNumbers.{list_extended}
use Rattle.nxt_lists.proofs.NumberLists.{bytes_counted}
use Rattle.nxt_lists.proofs.joining.extend_numbers.Goals as goal

pub extend_list-requires-clause-small : goal.extend_list-requires-clause-small
extend_list-requires-clause-small c =
    let same = ap length c.as_slice.ensures in
    omega (arith, same, bytes_counted c.in_ok-more.ensures, c.requires.few)

pub returns-in_err-extend_list-clause-does : goal.returns-in_err-extend_list-clause-does
returns-in_err-extend_list-clause-does c =
    let s = c.args.space.now.vars in
    let i = c.args.dest in
    let to = c.args.to in
    let v = value_of s i in
    let us = pieces_of s i c.args.sources.now in
    let fault = PoolPassed c.in_err-extend_list.field-0.0.0 in
    let passed = c.from_residual-in_err-extend_list in
    passed_on Done Done (with_value s i (stored (shape_of s i) (list_of (elements v ++ us)))) c.args.space.now c.extend_list.new.self fault passed.result passed.ensures.1
    (subst
    (λ w. Does {T = Unit {0}} Done (with_value s i w) c.args.space.now (Err fault) c.extend_list.new.self)
    (ap (λ bytes. list_of (elements v ++ elements (numbers_in_bytes to.kind bytes))) c.as_slice.ensures
    ∙ list_extended s i to c.in_ok-more.more us c.requires.sound c.requires.dest c.in_ok-more.ensures)
    (c.in_err-extend_list.ensures.becomes i c.requires.dest))

pub returns-clause-does : goal.returns-clause-does
returns-clause-does c =
    let s = c.args.space.now.vars in
    let i = c.args.dest in
    let to = c.args.to in
    let v = value_of s i in
    let us = pieces_of s i c.args.sources.now in
    let e = c.in_ok-extend_list.ensures.becomes i c.requires.dest in
    subst
    (λ w. Does {T = Unit {0}} Done (with_value s i w) c.args.space.now (Ok tt) c.extend_list.new.self)
    (ap (λ bytes. list_of (elements v ++ elements (numbers_in_bytes to.kind bytes))) c.as_slice.ensures
    ∙ list_extended s i to c.in_ok-more.more us c.requires.sound c.requires.dest c.in_ok-more.ensures)
    (e.0, e.1, tt)
