-- The section of the list.
use Rattle.std.proofs.Common.{◌+◌, length, ap, ap₂, ◌∙◌, subst, ◌≡◌}
use Rattle.std.specs.Prelude.{slice_range}
use Rattle.nxt_model.specs.Means.Effects.{word_or}
use Rattle.nxt_model.specs.Means.Text.{section}
use Rattle.nxt_model.specs.Values.{elements, list_of}
use Rattle.nxt_space.specs.Variables.{value_of}
use Rattle.nxt_operands.specs.Operands.{given_or_left}
use Rattle.nxt_lists.proofs.Between.{section_at}
use Rattle.nxt_lists.proofs.ListStored.{list_storable}
use Rattle.nxt_operands.proofs.Laws.OneStored.{Gives, given_stored, spelled_given}
use Rattle.nxt_lists.proofs.Sections.{section_for}
use Rattle.nxt_lists.proofs.elements.subset.Goals as goal

pub returns-in-Some-clause-does : goal.returns-in-Some-clause-does
returns-in-Some-clause-does c d =
    let s = c.args.space.now.vars in
    let from = c.min-from.result in
    let to = from + c.min-count.result in
    let xs = elements (value_of s c.args.list) in
    let vs = slice_range xs from to in
    let lists = c.in-Some.ensures.found in
    let is = section_at xs c.length_of-length.result c.word_or.result c.word_or-2.result from c.min-count.result c.length_of-length.ensures c.min-from.ensures c.min-count.ensures in
    let words : section c.word_or.result c.word_or-2.result xs ≡ section (word_or 0 (given_or_left s c.args.at)) (word_or (length xs) (given_or_left s c.args.count)) xs =
    ap₂ (λ i n. section i n xs) c.word_or.ensures (c.word_or-2.ensures ∙ ap (λ n. word_or n (given_or_left s c.args.count)) c.length_of-length.ensures)
    in
    subst
    (λ us. Gives c.args.space.now c.args.dest (list_of us) c.store_section.result c.store_section.new.space)
    (is ∙ words)
    (given_stored c.args.space.now c.store_section.new.space c.args.dest (list_of vs) c.store_section.result (c.store_section.ensures.does c.args.dest c.args.list lists.0 lists.1))
    d

pub store-requires-clause-countable : goal.store-requires-clause-countable
store-requires-clause-countable c =
    let s = c.args.space.now.vars in
    let from = c.min-from.result in
    let to = from + c.min-count.result in
    let vs = slice_range (elements (value_of s c.args.list)) from to in
    let are = section_for s c.args.dest c.args.list from to c.requires.sound c.requires.list c.requires.of_list c.requires.fit in
    (list_storable s c.args.dest vs c.in_ok-flat.flat c.requires.sound c.requires.dest are c.in_ok-flat.ensures).countable

pub returns-clause-does : goal.returns-clause-does
returns-clause-does c d =
    let s = c.args.space.now.vars in
    let from = c.min-from.result in
    let to = from + c.min-count.result in
    let xs = elements (value_of s c.args.list) in
    let vs = slice_range xs from to in
    let are = section_for s c.args.dest c.args.list from to c.requires.sound c.requires.list c.requires.of_list c.requires.fit in
    let e = list_storable s c.args.dest vs c.in_ok-flat.flat c.requires.sound c.requires.dest are c.in_ok-flat.ensures in
    let is = section_at xs c.length_of-length.result c.word_or.result c.word_or-2.result from c.min-count.result c.length_of-length.ensures c.min-from.ensures c.min-count.ensures in
    let words : section c.word_or.result c.word_or-2.result xs ≡ section (word_or 0 (given_or_left s c.args.at)) (word_or (length xs) (given_or_left s c.args.count)) xs =
    ap₂ (λ i n. section i n xs) c.word_or.ensures (c.word_or-2.ensures ∙ ap (λ n. word_or n (given_or_left s c.args.count)) c.length_of-length.ensures)
    in
    subst
    (λ us. Gives c.args.space.now c.args.dest (list_of us) c.store.result c.store.new.space)
    (is ∙ words)
    (spelled_given c.args.space.now c.store.new.space c.args.dest (list_of vs) c.in_ok-flat.flat c.store.result e c.store.ensures.does)
    d
