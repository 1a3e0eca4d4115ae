-- 1 or 0 is stored in a number.
use Rattle.std.proofs.Common.{◌∙◌, ap, pos, w64, to_z-of_z}
use Rattle.nxt_model.specs.Means.Numbers.{holds, truth}
use Rattle.nxt_model.specs.Values.{Num}
use Rattle.nxt_operands.specs.Operands.{given}
use Rattle.nxt_operands.proofs.Laws.Stored.{number_set}
use Rattle.nxt_ops.proofs.Words.{bit_truth}
use Rattle.nxt_ops.proofs.run.store_comparison.Goals as goal

pub returns-clause-does : goal.returns-clause-does
returns-clause-does c =
    let s = c.args.space.now.vars in
    let word =
    to_z-of_z {w = w64} {z = c.from.result} (record { sfits = c.from.type_inv }) ∙ c.from.ensures
    ∙ ap pos (bit_truth c.in_ok-held.held ∙ ap truth c.in_ok-held.ensures)
    in
    number_set c.args.space.now c.set.new.self c.args.dest (Num (pos (truth (holds c.args.cmp (given s c.args.x) (given s c.args.y))))) _ c.requires.sound c.requires.dest word c.set.ensures.value
