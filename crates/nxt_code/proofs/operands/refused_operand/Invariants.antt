-- The operands before k fit, and what is kept is right.
use Rattle.std.proofs.Common.{◌≡◌, ◌<◌, ℕ, true}
use Rattle.nxt_types.specs.OperandRules.{operand_fits}
use Rattle.nxt_code.specs.Inside.KnownShapes.{IsKnown}
use Rattle.nxt_code.specs.OperandsSeen.{operands}
use Rattle.nxt_code.proofs.operands.refused_operand.Given as goal

abbrev pub invariant-loop-k : goal.invariant-loop-k
invariant-loop-k l = record {
  known : IsKnown l.toc.shapes l.known;
  fit : (j : ℕ) → j < l.k → operand_fits l.clumps l.instr.op (operands l.toc.shapes l.instr l.words) j ≡ true;
}
