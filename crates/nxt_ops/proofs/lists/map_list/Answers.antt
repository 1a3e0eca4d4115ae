-- Each word is cut to the kind of the list's elements.
use Rattle.std.proofs.Common.{ap, ◌∙◌, subst}
use Rattle.nxt_model.specs.Values.{stored}
use Rattle.nxt_space.specs.Outcomes.{Does}
use Rattle.nxt_space.specs.Variables.{shape_of, value_of, with_value}
use Rattle.nxt_operands.specs.Operands.{Done, given}
use Rattle.nxt_operands.proofs.Laws.Sizes.{sound_part}
use Rattle.nxt_operands.proofs.Laws.NumberLists.{are_numbers}
use Rattle.nxt_operands.proofs.Laws.Stored.{spelled_stored}
use Rattle.nxt_ops.specs.Ops.{value_of_one}
use Rattle.nxt_ops.specs.Passes.{list_of_words}
use Rattle.nxt_ops.proofs.ByWords.{one_by_words}
use Rattle.nxt_ops.proofs.Words.{are_lists, one_storable}
use Rattle.nxt_ops.proofs.lists.map_list.Goals as goal

pub mapped-requires-clause-list : goal.mapped-requires-clause-list
mapped-requires-clause-list c =
    let s = c.args.space.now.vars in
    let lists = are_lists (shape_of s c.args.dest) (shape_of s c.args.x) c.requires.list c.requires.fit in
    are_numbers (shape_of s c.args.x) (value_of s c.args.x) lists.source (sound_part s c.args.x c.requires.sound c.requires.x).of

pub store-requires-clause-countable : goal.store-requires-clause-countable
store-requires-clause-countable c =
    (one_storable c.args.space.now.vars c.args.operator c.args.dest c.args.x c.has_signed_elements-signed.result c.in_ok-flat.flat c.requires.sound c.requires.dest c.requires.x c.requires.list c.requires.fit c.has_signed_elements-signed.ensures c.in_ok-flat.ensures).countable

pub returns-clause-does : goal.returns-clause-does
returns-clause-does c =
    let s = c.args.space.now.vars in
    let v = value_of_one c.args.operator (shape_of s c.args.dest) (given s c.args.x) in
    let e = one_storable s c.args.operator c.args.dest c.args.x c.has_signed_elements-signed.result c.in_ok-flat.flat c.requires.sound c.requires.dest c.requires.x c.requires.list c.requires.fit c.has_signed_elements-signed.ensures c.in_ok-flat.ensures in
    spelled_stored c.args.space.now c.store.new.space c.args.dest v c.in_ok-flat.flat c.store.result e c.store.ensures.does

-- where both stand one behind another
pub returns-in-Some-clause-does : goal.returns-in-Some-clause-does
returns-in-Some-clause-does c =
    let s = c.args.space.now.vars in
    let dest = c.args.dest in
    let is = c.in-Some in
    let mine = is.ensures.0 in
    let theirs = is.ensures.1 in
    let ws = c.in_ok-words.words.items in
    let e = one_by_words s c.args.operator dest c.args.x c.has_signed_elements-signed.result is.to is.from ws mine theirs c.has_signed_elements-signed.ensures (c.in_ok-words.ensures.words c.args.x theirs) in
    subst
    (λ v. Does Done (with_value s dest (stored (shape_of s dest) v)) c.args.space.now c.store_words.result c.store_words.new.space)
    (ap list_of_words c.deref.ensures.value ∙ e)
    (c.store_words.ensures.does dest mine)
