-- Statements whose long forms can be written.
use Rattle.std.specs.Prelude.{◌≡◌, ◌≤◌, false, length, All, IsTrue}
use Rattle.nxt_types.specs.Opcodes.{arity, takes, has_comparison}
use Rattle.nxt_types.specs.declared.kind.Cmp.TheVariants.{Lt}
use Rattle.nxt_model.specs.declared.nbc.NbcStatement.{NbcStatement}
use Rattle.nxt_model.specs.declared.nbc.NbcBlock.{NbcBlock}
use Rattle.nxt_model.specs.Assembled.{code_op}

-- it has as many operands as its code's operation takes, no more than a size word counts, and compares only where the operation does
pub record IsCodable (s : NbcStatement) : Type 0 where
  pub number : IsTrue (takes (arity (code_op s.op s.args)) (length s.args))
  pub few : length s.args ≤ 32765
  pub plain : has_comparison (code_op s.op s.args) ≡ false → s.cmp ≡ Lt

abbrev pub IsCodableBlock : NbcBlock → Type 0
IsCodableBlock b = All IsCodable b.body
