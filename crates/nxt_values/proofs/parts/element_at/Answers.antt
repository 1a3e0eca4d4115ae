-- The element's place, and what it holds.
use Rattle.std.proofs.Common.{◌<◌, refl, arith}
use Rattle.nxt_types.specs.Shapes.{tree}
use Rattle.nxt_values.proofs.Laws.Elements.{elements_counted, element_there, element_value}
use Rattle.nxt_values.proofs.parts.element_at.Goals as goal

pub overflow_cast-k : goal.overflow_cast-k
overflow_cast-k c =
    omega (arith, elements_counted {s = tree c.args.element.now} c.elements_at.ensures refl, c.requires.within)

pub place-requires-clause-k : goal.place-requires-clause-k
place-requires-clause-k c =
    omega (arith, elements_counted {s = tree c.args.element.now} c.elements_at.ensures refl, c.requires.within)

pub returns-clause-holds : goal.returns-clause-holds
returns-clause-holds c =
    let counted = elements_counted {s = tree c.args.element.now} c.elements_at.ensures refl in
    let less : c.args.k < c.elements_at.result.count = omega (arith, counted, c.requires.within) in
    (element_there {s = tree c.args.element.now} c.elements_at.ensures refl c.requires.holds less c.place.ensures).holds

pub returns-clause-value : goal.returns-clause-value
returns-clause-value c =
    let counted = elements_counted {s = tree c.args.element.now} c.elements_at.ensures refl in
    let less : c.args.k < c.elements_at.result.count = omega (arith, counted, c.requires.within) in
    element_value {s = tree c.args.element.now} c.elements_at.ensures refl less c.place.ensures
