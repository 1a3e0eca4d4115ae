-- A word of the statements lies inside one where none begins at it.
use Rattle.std.proofs.Common.{◌<◌, ◌≤◌, not, refl, sym, ap, ◌∙◌, length, arith, w64}
use Rattle.std.specs.Prelude.{pos}
use Rattle.std.proofs.lemmas.Bool.{le-ltb}
use Rattle.std.proofs.Math.Facts.{to_z-of_z}
use Rattle.nxt_types.specs.Statements.{statements}
use Rattle.nxt_code.specs.CodeRules.{begins_at}
use Rattle.nxt_code.proofs.Sequence.Marks.{begun_or_inside, none_inside, begins_pos}
use Rattle.nxt_code.proofs.clumps.is_inside.Goals as goal

pub returns-then-from-len : goal.returns-then-from-len
returns-then-from-len c =
    let words = c.args.words.now in
    let l : c.args.word < length c.args.code.now.numbers.items = omega (arith, c.from.ensures) in
    let word = to_z-of_z {w = w64} {z = c.from-then-from-len.result} (record { sfits = c.from-then-from-len.type_inv }) ∙ c.from-then-from-len.ensures in
    ap not (c.begins_at.ensures words c.requires ∙ ap (begins_at (statements words)) word ∙ begins_pos (statements words) (pos c.args.word) c.args.word refl)
    ∙ begun_or_inside words c.args.code.now c.requires c.args.word l

pub returns-else-from-len : goal.returns-else-from-len
returns-else-from-len c =
    let l : length c.args.code.now.numbers.items ≤ c.args.word = omega (arith, c.from.ensures) in
    le-ltb c.from.result c.len.result (omega arith) ∙ sym (none_inside c.args.words.now c.args.code.now c.requires c.args.word l)
