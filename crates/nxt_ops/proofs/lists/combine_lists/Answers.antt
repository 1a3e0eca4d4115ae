-- Each word is cut to the kind of the list's elements.
use Rattle.std.proofs.Common.{ap, ◌∙◌, subst}
use Rattle.nxt_model.specs.Values.{stored}
use Rattle.nxt_space.specs.Outcomes.{Does}
use Rattle.nxt_space.specs.Variables.{shape_of, with_value}
use Rattle.nxt_operands.specs.Operands.{Done, given}
use Rattle.nxt_operands.proofs.Laws.Stored.{spelled_stored}
use Rattle.nxt_ops.specs.Ops.{value_of_two}
use Rattle.nxt_ops.specs.Passes.{list_of_words}
use Rattle.nxt_ops.proofs.ByWords.{two_by_words}
use Rattle.nxt_ops.proofs.Words.{are_listed, two_storable}
use Rattle.nxt_ops.proofs.lists.combine_lists.Goals as goal

pub words_of-requires-clause-plain_x : goal.words_of-requires-clause-plain_x
words_of-requires-clause-plain_x c =
    let s = c.args.space.now.vars in
    (are_listed c.args.operator (shape_of s c.args.dest) (shape_of s c.args.x) (shape_of s c.args.y) c.requires.list c.requires.fit).first

pub words_of-requires-clause-plain_y : goal.words_of-requires-clause-plain_y
words_of-requires-clause-plain_y c =
    let s = c.args.space.now.vars in
    (are_listed c.args.operator (shape_of s c.args.dest) (shape_of s c.args.x) (shape_of s c.args.y) c.requires.list c.requires.fit).second

pub store-requires-clause-countable : goal.store-requires-clause-countable
store-requires-clause-countable c =
    (two_storable c.args.space.now.vars c.args.operator c.args.dest c.args.x c.args.y c.either_has_signed_elements-signed.result c.in_ok-flat.flat c.requires.sound c.requires.dest c.requires.x c.requires.y c.requires.list c.requires.fit c.either_has_signed_elements-signed.ensures c.in_ok-flat.ensures).countable

pub returns-clause-does : goal.returns-clause-does
returns-clause-does c =
    let s = c.args.space.now.vars in
    let v = value_of_two c.args.operator (shape_of s c.args.dest) (given s c.args.x) (given s c.args.y) in
    let e = two_storable s c.args.operator c.args.dest c.args.x c.args.y c.either_has_signed_elements-signed.result c.in_ok-flat.flat c.requires.sound c.requires.dest c.requires.x c.requires.y c.requires.list c.requires.fit c.either_has_signed_elements-signed.ensures c.in_ok-flat.ensures in
    spelled_stored c.args.space.now c.store.new.space c.args.dest v c.in_ok-flat.flat c.store.result e c.store.ensures.does

-- where the list stands in place, and the values do
pub returns-in-Some-Some-Some-clause-does : goal.returns-in-Some-Some-Some-clause-does
returns-in-Some-Some-Some-clause-does c =
    let s = c.args.space.now.vars in
    let dest = c.args.dest in
    let is = c.in-Some-Some-Some in
    let mine = is.ensures.found in
    let ws = c.in_ok-words.words.items in
    let e = two_by_words s c.args.operator dest c.args.x c.args.y c.either_has_signed_elements-signed.result is.to ws mine c.either_has_signed_elements-signed.ensures (c.in_ok-words.ensures.words c.args.x c.args.y is.ensures' is.ensures'') in
    subst
    (λ v. Does Done (with_value s dest (stored (shape_of s dest) v)) c.args.space.now c.store_words.result c.store_words.new.space)
    (ap list_of_words c.deref.ensures.value ∙ e)
    (c.store_words.ensures.does dest mine)
