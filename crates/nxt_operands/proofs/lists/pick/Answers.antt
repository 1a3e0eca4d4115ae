-- The number gets the element's word.
use Rattle.std.proofs.Common.{◌∙◌, ap, pos, refl}
use Rattle.std.specs.Prelude.{slice_index_or}
use Rattle.nxt_types.specs.Shapes.{is_number}
use Rattle.nxt_model.specs.Values.{Num, number, elements, stored}
use Rattle.nxt_space.specs.Variables.{shape_of, value_of, with_value}
use Rattle.nxt_space.proofs.Laws.Words.{stored_word}
use Rattle.nxt_operands.proofs.Laws.Stored.{number_set}
use Rattle.nxt_operands.proofs.lists.pick.Goals as goal

pub returns-clause-does : goal.returns-clause-does
returns-clause-does c i j spot list =
    let old = c.args.space.now in
    let v = slice_index_or (elements (value_of old.vars j)) c.args.k (Num (pos 0)) in
    let here = ap is_number spot.shape in
    number_set old c.set_word.new.self i v (number v) c.requires.sound here refl
    (c.set_word.ensures.value i spot
    ∙ ap (λ w. record old.vars { values = with_value old.vars i (stored (shape_of old.vars i) (Num (pos w))) }) (c.element-word.ensures j list)
    ∙ ap (λ u. record old.vars { values = with_value old.vars i u }) (stored_word (shape_of old.vars i) (number v) here))
