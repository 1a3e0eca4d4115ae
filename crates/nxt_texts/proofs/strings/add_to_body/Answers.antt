-- The bytes stand behind the body, with the zero of the text or without.
use Rattle.std.proofs.Common.{◌∙◌, ◌∷◌, ◌++◌, Ok, ◌-◌, take, drop, get_or, length, sym, ap, subst}
use Rattle.nxt_model.specs.Means.Text.{body}
use Rattle.nxt_space.specs.Spots.{IsListSpot, numbers_in_bytes}
use Rattle.nxt_space.specs.Variables.{value_of}
use Rattle.nxt_operands.proofs.Laws.Leaving.{then_table}
use Rattle.nxt_texts.specs.Texts.{StoresBytes}
use Rattle.nxt_texts.proofs.Grown.{added, added_refused, first_and_rest, over_refused, put_over}
use Rattle.nxt_texts.proofs.InPlace.{spot_text, text_lent}
use Rattle.nxt_texts.proofs.Overwritten.{value_there, element_long}
use Rattle.nxt_texts.proofs.strings.add_to_body.Goals as goal

-- ---- no zero

pub returns-in_err-extend_list-clause-stores : goal.returns-in_err-extend_list-clause-stores
returns-in_err-extend_list-clause-stores c i is =
    let s = c.args.space.now.vars in
    let list = c.args.list in
    let text = spot_text s i list is c.requires.text in
    let bs = c.lent.result.now in
    let e = c.bytes.ensures.value i is ∙ ap (numbers_in_bytes list.kind) (sym c.lent.ensures.same) in
    let own = c.lent.ensures.same ∙ text_lent s i list c.bytes.result.now is text (c.bytes.ensures.value i is) c.lent.ensures.list in
    subst
    (λ xs. StoresBytes c.args.space.now i (xs ++ c.args.more.now) c.from_residual.result c.extend_list.new.self)
    (c.in_default.ensures ∙ ap body own)
    (added_refused c.args.space.now c.extend_list.new.self i list bs c.args.more.now c.from_residual.result is text e c.from_residual.ensures.1 (c.in_err-extend_list.ensures.becomes i is))

pub returns-in_default-clause-stores : goal.returns-in_default-clause-stores
returns-in_default-clause-stores c i is =
    let s = c.args.space.now.vars in
    let list = c.args.list in
    let text = spot_text s i list is c.requires.text in
    let bs = c.lent.result.now in
    let e = c.bytes.ensures.value i is ∙ ap (numbers_in_bytes list.kind) (sym c.lent.ensures.same) in
    let own = c.lent.ensures.same ∙ text_lent s i list c.bytes.result.now is text (c.bytes.ensures.value i is) c.lent.ensures.list in
    subst
    (λ xs. StoresBytes c.args.space.now i (xs ++ c.args.more.now) (Ok tt) c.extend_list.new.self)
    (c.in_default.ensures ∙ ap body own)
    (added c.args.space.now c.extend_list.new.self i list bs c.args.more.now is text e (c.in_ok-extend_list.ensures.becomes i is))

-- ---- a zero

pub returns-in_err-extend_list-2-clause-stores : goal.returns-in_err-extend_list-2-clause-stores
returns-in_err-extend_list-2-clause-stores c i is =
    let s = c.args.space.now.vars in
    let list = c.args.list in
    let text = spot_text s i list is c.requires.text in
    let more = c.args.more.now in
    let front = body c.lent.result.now in
    let e = c.bytes.ensures.value i is ∙ ap (numbers_in_bytes list.kind) (sym c.lent.ensures.same ∙ c.in-Some.ensures.1) in
    let own = c.lent.ensures.same ∙ text_lent s i list c.bytes.result.now is text (c.bytes.ensures.value i is) c.lent.ensures.list in
    subst
    (λ xs. StoresBytes c.args.space.now i (xs ++ more) c.from_residual-in_err-extend_list-2.result c.extend_list-2.new.self)
    (ap body own)
    (over_refused c.args.space.now c.extend_list-2.new.self i list front (take (length more - 1) (drop 1 more)) more 0 (get_or more 0 0) c.from_residual-in_err-extend_list-2.result c.requires.sound is text e (first_and_rest more c.requires.some) c.from_residual-in_err-extend_list-2.ensures.1 (c.in_err-extend_list-2.ensures.becomes i is))

pub returns-clause-stores : goal.returns-clause-stores
returns-clause-stores c i is =
    let s = c.args.space.now.vars in
    let list = c.args.list in
    let text = spot_text s i list is c.requires.text in
    let more = c.args.more.now in
    let front = body c.lent.result.now in
    let e = c.bytes.ensures.value i is ∙ ap (numbers_in_bytes list.kind) (sym c.lent.ensures.same ∙ c.in-Some.ensures.1) in
    let own = c.lent.ensures.same ∙ text_lent s i list c.bytes.result.now is text (c.bytes.ensures.value i is) c.lent.ensures.list in
    subst
    (λ xs. StoresBytes c.args.space.now i (xs ++ more) (Ok tt) c.set_element.new.self)
    (ap body own)
    (put_over c.args.space.now c.extend_list-2.new.self c.set_element.new.self i list front (take (length more - 1) (drop 1 more)) more 0 c.from.result c.in-Some.last c.requires.sound is text e c.in-Some.ensures.0
    (first_and_rest more c.requires.some ∙ ap (λ x. x ∷ take (length more - 1) (drop 1 more)) (sym c.from.ensures))
    (c.in_ok-extend_list-2.ensures.becomes i is)
    (c.set_element.ensures.within i))

pub returns-clause-leaves : goal.returns-clause-leaves
returns-clause-leaves c i is =
    let old = c.args.space.now in
    let list = c.args.list in
    let mid = c.extend_list-2.new.self in
    let new = c.set_element.new.self in
    let grown = (c.in_ok-extend_list-2.ensures.becomes i is).1 in
    let spot = subst (λ s. IsListSpot s i list) (sym grown) is in
    let value = ap (λ s. value_of s i) grown ∙ value_there old.vars i _ _ (c.bytes.ensures.value i is) in
    then_table old mid new i (c.in_ok-extend_list-2.ensures.leaves i is) c.set_element.ensures.stays
    (λ numbers. element_long mid new i c.in-Some.last c.from.result list _ value (c.set_element.ensures.within i spot) (c.set_element.ensures.past i spot))
