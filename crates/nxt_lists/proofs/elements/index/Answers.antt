-- The element, or the zero value, is what the numbers spell.
use Rattle.std.proofs.Common.{[], Ok, pos, sym, ap, ap₂, subst}
use Rattle.std.specs.Prelude.{slice_index_or}
use Rattle.nxt_model.specs.Means.Effects.{element}
use Rattle.nxt_model.specs.Values.{Num, elements, list_of, zero_of}
use Rattle.nxt_space.specs.Outcomes.{Does}
use Rattle.nxt_space.specs.Variables.{shape_of, value_of, with_value}
use Rattle.nxt_operands.specs.Operands.{Done}
use Rattle.nxt_operands.proofs.Laws.OneStored.{Gives, given_stored, spelled_given}
use Rattle.nxt_lists.proofs.InnerLists.{element_stored}
use Rattle.nxt_lists.proofs.Storable.{index_storable}
use Rattle.nxt_lists.proofs.elements.index.Goals as goal

pub returns-in-Some-Some-clause-does : goal.returns-in-Some-Some-clause-does
returns-in-Some-Some-clause-does c d =
    let s = c.args.space.now.vars in
    let xs = elements (value_of s c.args.list) in
    let number = c.in-Some-Some.ensures.found in
    let numbers = c.in-Some-Some.ensures'.found in
    subst
    (λ v. Gives c.args.space.now c.args.dest v (Ok tt) c.pick.new.space)
    (ap₂ (λ k z. slice_index_or xs k z) c.word_or-k.ensures (sym (ap (λ l. zero_of (element l)) numbers.shape)))
    (given_stored c.args.space.now c.pick.new.space c.args.dest (slice_index_or xs c.word_or-k.result (Num (pos 0))) (Ok tt) (c.pick.ensures.does c.args.dest c.args.list number numbers))
    d

-- an inner list is stored as it is
pub returns-in-Some-clause-does : goal.returns-in-Some-clause-does
returns-in-Some-clause-does c d =
    let s = c.args.space.now.vars in
    let k = c.word_or-k.result in
    let xs = elements (value_of s c.args.list) in
    let v = slice_index_or xs k (list_of []) in
    let spots = c.in-Some.ensures.found in
    let own = element_stored s c.args.dest c.args.list k c.in-Some.to c.in-Some.lists c.requires.sound spots.0 spots.1 spots.2 in
    subst
    (λ w. Gives c.args.space.now c.args.dest w c.copy_element.result c.copy_element.new.space)
    (ap₂ (λ n z. slice_index_or xs n z) c.word_or-k.ensures (sym (ap (λ l. zero_of (element l)) spots.1.shape)))
    (given_stored c.args.space.now c.copy_element.new.space c.args.dest v c.copy_element.result
    (subst (λ w. Does {T = Unit {0}} Done (with_value s c.args.dest w) c.args.space.now c.copy_element.result c.copy_element.new.space) (sym own) (c.copy_element.ensures.does c.args.dest c.args.list spots.0 spots.1)))
    d

pub store-requires-clause-countable : goal.store-requires-clause-countable
store-requires-clause-countable c =
    let found = c.in_ok-flat in
    (index_storable c.args.space.now.vars c.args.dest c.args.list c.word_or-k.result found.flat c.requires.sound c.requires.dest c.requires.list c.requires.of_list c.requires.fit found.ensures.within found.ensures.past).countable

pub returns-clause-does : goal.returns-clause-does
returns-clause-does c d =
    let s = c.args.space.now.vars in
    let k = c.word_or-k.result in
    let found = c.in_ok-flat in
    let e = index_storable s c.args.dest c.args.list k found.flat c.requires.sound c.requires.dest c.requires.list c.requires.of_list c.requires.fit found.ensures.within found.ensures.past in
    subst
    (λ n. Gives c.args.space.now c.args.dest (slice_index_or (elements (value_of s c.args.list)) n (zero_of (element (shape_of s c.args.list)))) c.store.result c.store.new.space)
    c.word_or-k.ensures
    (spelled_given c.args.space.now c.store.new.space c.args.dest (slice_index_or (elements (value_of s c.args.list)) k (zero_of (element (shape_of s c.args.list)))) found.flat c.store.result e c.store.ensures.does)
    d
