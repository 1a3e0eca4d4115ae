-- The list with others in place of elements.
use Rattle.std.proofs.Common.{ap, ap₂, ◌∙◌, sym, subst}
use Rattle.std.specs.Prelude.{if◌then◌else◌, slice_set}
use Rattle.nxt_types.specs.Shapes.{convertible}
use Rattle.nxt_model.specs.Means.Arrays.{overwritten, pieces}
use Rattle.nxt_model.specs.Means.Effects.{element, word_or}
use Rattle.nxt_model.specs.Values.{elements, list_of}
use Rattle.nxt_space.specs.Variables.{shape_of, value_of, with_value}
use Rattle.nxt_operands.specs.Operands.{Done, given, given_or_left}
use Rattle.nxt_lists.proofs.Between.{replaced_overwritten}
use Rattle.nxt_lists.proofs.InnerLists.{lists_stored, list_is_element}
use Rattle.nxt_lists.proofs.ListStored.{list_storable}
use Rattle.nxt_operands.proofs.Laws.OneStored.{Gives, given_stored, spelled_given}
use Rattle.nxt_lists.proofs.Replaced.{number_is_element, list_is_no_element}
use Rattle.nxt_lists.specs.Joined.{IsPiece}
use Rattle.nxt_lists.specs.declared.joining.Piece.TheVariants.{Each}
use Rattle.nxt_space.specs.Outcomes.{Does}
use Rattle.nxt_space.specs.Spots.{IsSpot, IsInnerSpot}
use Rattle.nxt_lists.proofs.Sections.{overwritten_for}
use Rattle.nxt_lists.proofs.elements.replace.Goals as goal

pub returns-in-Some-Single-clause-does : goal.returns-in-Some-Single-clause-does
returns-in-Some-Single-clause-does c d =
    let s = c.args.space.now.vars in
    let xs = elements (value_of s c.args.list) in
    let new = value_of s c.args.new in
    let lists = c.in-Some.ensures.found in
    let piece = c.in-Some-Single in
    let number : IsSpot s c.args.new piece.number = subst (IsPiece s c.kind.result c.args.new) piece.field-0-is piece.ensures.found in
    let k = word_or 0 (given_or_left s c.args.at) in
    let one = number_is_element s c.args.list c.args.new c.in-Some.spots.1 piece.number lists.1 number in
    subst
    (λ us. Gives c.args.space.now c.args.dest (list_of us) c.replace_number.result c.replace_number.new.space)
    (ap (λ n. slice_set xs n new) c.word_or-k.ensures
    ∙ sym (ap (λ b. if b then slice_set xs k new else overwritten xs k (elements new)) one))
    (given_stored c.args.space.now c.replace_number.new.space c.args.dest (list_of (slice_set xs c.word_or-k.result new)) c.replace_number.result (c.replace_number.ensures.does c.args.new number))
    d

pub returns-in-Some-Each-clause-does : goal.returns-in-Some-Each-clause-does
returns-in-Some-Each-clause-does c d =
    let s = c.args.space.now.vars in
    let xs = elements (value_of s c.args.list) in
    let new = value_of s c.args.new in
    let lists = c.in-Some.ensures.found in
    let piece = c.in-Some-Each in
    let numbers : IsPiece s c.kind.result c.args.new (Each piece.numbers) = subst (IsPiece s c.kind.result c.args.new) piece.field-0-is piece.ensures.found in
    let k = word_or 0 (given_or_left s c.args.at) in
    let many = list_is_no_element s c.args.list c.args.new c.in-Some.spots.1 piece.numbers lists.1 numbers.0 in
    subst
    (λ us. Gives c.args.space.now c.args.dest (list_of us) c.replace_numbers.result c.replace_numbers.new.space)
    (ap (λ n. overwritten xs n (elements new)) c.word_or-k.ensures
    ∙ sym (ap (λ b. if b then slice_set xs k new else overwritten xs k (elements new)) many))
    (given_stored c.args.space.now c.replace_numbers.new.space c.args.dest (list_of (overwritten xs c.word_or-k.result (elements new))) c.replace_numbers.result (c.replace_numbers.ensures.does c.args.dest c.args.list c.args.new lists.0 lists.1 numbers.0))
    d

-- a list of numbers takes the place of an inner list, in the list itself
pub returns-in-Some-list_and_lists-clause-does : goal.returns-in-Some-list_and_lists-clause-does
returns-in-Some-list_and_lists-clause-does c d =
    let s = c.args.space.now.vars in
    let xs = elements (value_of s c.args.list) in
    let new = value_of s c.args.new in
    let spots = c.in-Some-list_and_lists.ensures.found in
    let k = word_or 0 (given_or_left s c.args.at) in
    let same = c.if-dest-list.true in
    let mine : IsInnerSpot s c.args.dest c.in-Some-list_and_lists.lists = subst (λ n. IsInnerSpot s n c.in-Some-list_and_lists.lists) (sym same) spots.1 in
    let own = lists_stored s c.args.dest c.args.new c.word_or-k.result c.in-Some-list_and_lists.lists c.in-Some-list_and_lists.numbers c.requires.sound mine spots.0 (sym spots.2) in
    let one = list_is_element s c.args.list c.args.new c.in-Some-list_and_lists.lists c.in-Some-list_and_lists.numbers spots.1 spots.0 in
    let v = list_of (slice_set (elements (value_of s c.args.dest)) c.word_or-k.result new) in
    subst
    (λ us. Gives c.args.space.now c.args.dest (list_of us) c.put_element.result c.put_element.new.space)
    (ap₂ (λ i n. slice_set (elements (value_of s i)) n new) same c.word_or-k.ensures
    ∙ sym (ap (λ b. if b then slice_set xs k new else overwritten xs k (elements new)) one))
    (given_stored c.args.space.now c.put_element.new.space c.args.dest v c.put_element.result
    (subst (λ w. Does {T = Unit {0}} Done (with_value s c.args.dest w) c.args.space.now c.put_element.result c.put_element.new.space) (sym own) (c.put_element.ensures.does c.args.dest c.args.new mine spots.0)))
    d

pub store-requires-clause-countable : goal.store-requires-clause-countable
store-requires-clause-countable c =
    let s = c.args.space.now.vars in
    let vs = overwritten (elements (value_of s c.args.list)) c.word_or-k.result (pieces (shape_of s c.args.list) (given s c.args.new)) in
    let are = overwritten_for s c.args.dest c.args.list c.word_or-k.result c.args.new c.requires.sound c.requires.list c.requires.new c.requires.of_list c.requires.fit c.requires.goes in
    (list_storable s c.args.dest vs c.in_ok-flat.flat c.requires.sound c.requires.dest are c.in_ok-flat.ensures).countable

pub returns-clause-does : goal.returns-clause-does
returns-clause-does c d =
    let s = c.args.space.now.vars in
    let xs = elements (value_of s c.args.list) in
    let new = value_of s c.args.new in
    let vs = overwritten xs c.word_or-k.result (pieces (shape_of s c.args.list) (given s c.args.new)) in
    let are = overwritten_for s c.args.dest c.args.list c.word_or-k.result c.args.new c.requires.sound c.requires.list c.requires.new c.requires.of_list c.requires.fit c.requires.goes in
    let e = list_storable s c.args.dest vs c.in_ok-flat.flat c.requires.sound c.requires.dest are c.in_ok-flat.ensures in
    let whole = convertible (element (shape_of s c.args.list)) (shape_of s c.args.new) in
    subst
    (λ us. Gives c.args.space.now c.args.dest (list_of us) c.store.result c.store.new.space)
    (sym (replaced_overwritten whole xs c.word_or-k.result new)
    ∙ ap (λ k. if whole then slice_set xs k new else overwritten xs k (elements new)) c.word_or-k.ensures)
    (spelled_given c.args.space.now c.store.new.space c.args.dest (list_of vs) c.in_ok-flat.flat c.store.result e c.store.ensures.does)
    d
