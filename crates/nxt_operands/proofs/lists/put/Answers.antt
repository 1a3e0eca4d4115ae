-- The element gets the number's word.
use Rattle.std.proofs.Common.{◌∙◌, ap, pos, refl}
use Rattle.nxt_types.specs.Shapes.{Number}
use Rattle.nxt_model.specs.Values.{Num, number, stored}
use Rattle.nxt_space.specs.Variables.{value_of}
use Rattle.nxt_space.proofs.Laws.Words.{stored_word}
use Rattle.nxt_operands.proofs.Laws.InPlace.{element_put}
use Rattle.nxt_operands.proofs.lists.put.Goals as goal

pub returns-clause-does : goal.returns-clause-does
returns-clause-does c i j list spot =
    let old = c.args.space.now in
    let v = value_of old.vars j in
    let k = c.args.list.kind in
    let same = ap (λ w. stored (Number k) (Num (pos w))) (c.word-word.ensures j spot) ∙ stored_word (Number k) (number v) refl in
    element_put old c.set_element.new.self i c.args.list c.args.k v (Num (pos c.word-word.result)) c.requires.sound list same
    (c.set_element.ensures.within i list)
    (c.set_element.ensures.past i list)
