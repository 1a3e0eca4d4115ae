-- The list's own numbers, and one behind them.
use Rattle.std.proofs.Common.{Ok, Err, [], ◌∷◌, ◌++◌, subst}
use Rattle.nxt_model.specs.Values.{elements, list_of, stored}
use Rattle.nxt_space.specs.Outcomes.{Does}
use Rattle.nxt_space.specs.Variables.{shape_of, value_of, with_value}
use Rattle.nxt_space.specs.declared.fault.OpFault.TheVariants.{PoolPassed}
use Rattle.nxt_operands.specs.Operands.{Done}
use Rattle.nxt_operands.proofs.Laws.Refusals.{passed_on}
use Rattle.nxt_lists.proofs.JoinedNumbers.{list_extended}
use Rattle.nxt_lists.proofs.NumberLists.{one_few}
use Rattle.nxt_lists.proofs.NumberSections.{number_stored}
use Rattle.nxt_lists.proofs.joining.append_number.Goals as goal

pub extend_list-requires-clause-whole : goal.extend_list-requires-clause-whole
extend_list-requires-clause-whole c =
    let s = c.args.space.now.vars in
    let j = c.requires.number.0 in
    let w = c.word.result in
    let one = number_stored c.args.to.kind c.kind.result w (value_of s j) c.number_bytes.result.now c.kind.ensures (c.number_bytes.ensures w c.to_le_bytes-word.ensures) (c.word.ensures j c.requires.number.1) in
    one.whole

pub extend_list-requires-clause-small : goal.extend_list-requires-clause-small
extend_list-requires-clause-small c =
    let s = c.args.space.now.vars in
    let j = c.requires.number.0 in
    let w = c.word.result in
    let one = number_stored c.args.to.kind c.kind.result w (value_of s j) c.number_bytes.result.now c.kind.ensures (c.number_bytes.ensures w c.to_le_bytes-word.ensures) (c.word.ensures j c.requires.number.1) in
    one_few c.args.to.kind c.number_bytes.result.now (value_of s j) one

pub returns-in_err-extend_list-clause-does : goal.returns-in_err-extend_list-clause-does
returns-in_err-extend_list-clause-does c j spot =
    let s = c.args.space.now.vars in
    let i = c.args.dest in
    let to = c.args.to in
    let v = value_of s j in
    let w = c.word.result in
    let one = number_stored to.kind c.kind.result w v c.number_bytes.result.now c.kind.ensures (c.number_bytes.ensures w c.to_le_bytes-word.ensures) (c.word.ensures j spot) in
    let fault = PoolPassed c.in_err-extend_list.field-0.0.0 in
    let passed = c.from_residual in
    passed_on Done Done (with_value s i (stored (shape_of s i) (list_of (elements (value_of s i) ++ v ∷ [])))) c.args.space.now c.extend_list.new.self fault passed.result passed.ensures.1
    (subst
    (λ u. Does {T = Unit {0}} Done (with_value s i u) c.args.space.now (Err fault) c.extend_list.new.self)
    (list_extended s i to c.number_bytes.result.now (v ∷ []) c.requires.sound c.requires.dest one)
    (c.in_err-extend_list.ensures.becomes i c.requires.dest))

pub returns-clause-does : goal.returns-clause-does
returns-clause-does c j spot =
    let s = c.args.space.now.vars in
    let i = c.args.dest in
    let to = c.args.to in
    let v = value_of s j in
    let w = c.word.result in
    let one = number_stored to.kind c.kind.result w v c.number_bytes.result.now c.kind.ensures (c.number_bytes.ensures w c.to_le_bytes-word.ensures) (c.word.ensures j spot) in
    let e = c.in_ok-extend_list.ensures.becomes i c.requires.dest in
    subst
    (λ u. Does {T = Unit {0}} Done (with_value s i u) c.args.space.now (Ok tt) c.extend_list.new.self)
    (list_extended s i to c.number_bytes.result.now (v ∷ []) c.requires.sound c.requires.dest one)
    (e.0, e.1, tt)
