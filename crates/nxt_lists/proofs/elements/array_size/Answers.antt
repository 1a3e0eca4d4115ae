-- A number is stored.
use Rattle.std.proofs.Common.{rules, Ok, w64, to_z, of_z, length, ap, ◌∙◌}
use Rattle.std.specs.Prelude.{pos}
use Rattle.std.proofs.Math.Facts.{to_z-of_z}
use mir.Val.{SFits}
use Rattle.nxt_model.specs.Values.{Num, elements}
use Rattle.nxt_space.specs.Variables.{value_of}
use Rattle.nxt_operands.proofs.Laws.Stored.{number_set}
use Rattle.nxt_operands.proofs.Laws.OneStored.{given_stored}
use Rattle.nxt_lists.proofs.elements.array_size.Goals as goal

pub returns-clause-does : goal.returns-clause-does
returns-clause-does c d =
    let s = c.args.space.now.vars in
    let v = value_of s c.args.list in
    let fits : SFits w64 c.from.result = search rules in
    let x = to_z w64 (of_z w64 c.from.result) in
    given_stored
    c.args.space.now
    c.set.new.self
    c.args.dest
    (Num (pos (length (elements v))))
    (Ok tt)
    (number_set c.args.space.now c.set.new.self c.args.dest (Num (pos (length (elements v)))) x c.requires.sound c.requires.number (to_z-of_z fits ∙ c.from.ensures ∙ ap pos c.length_of.ensures) c.set.ensures.value)
    d
