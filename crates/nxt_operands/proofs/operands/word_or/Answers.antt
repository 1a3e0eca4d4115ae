-- An operand that isn't left out is a number.
use Rattle.std.proofs.Common.{sym, ap, ◌∙◌, w64, to_z-of_z}
use Rattle.std.specs.Prelude.{if◌then◌else◌}
use Rattle.std.proofs.lemmas.Bool.{ne_eqb}
use Rattle.nxt_types.specs.Arithmetic.{word}
use Rattle.nxt_model.specs.Means.Effects.{Left, word_or}
use Rattle.nxt_operands.specs.Operands.{given}
use Rattle.nxt_operands.proofs.operands.word_or.Goals as goal

pub returns-else-i-eq-LEFT_OUT : goal.returns-else-i-eq-LEFT_OUT
returns-else-i-eq-LEFT_OUT c =
    c.wrap.ensures
    ∙ ap word (to_z-of_z {w = w64} {z = c.get.result} (record { sfits = c.get.type_inv }) ∙ c.get.ensures)
    ∙ sym (ap (λ b. word_or c.args.other (if b then Left else given c.args.space.now.vars c.args.i)) (ne_eqb c.args.i 0xFFFF c.if-i-eq-LEFT_OUT.false))
