-- What the table of the operations keeps.
use Rattle.std.proofs.Common.{◌≡◌, ◌≤◌, ℕ, refl, ap, arith, Some}
use Rattle.nxt_types.specs.Opcodes.{opcode, op_of, op_name, op_named, arity, Arity, exactly, several, pairs}
use Rattle.nxt_types.specs.declared.instr.Op.{Op}
use Rattle.nxt_types.specs.declared.instr.Op.TheVariants as ops

-- each code names its operation
pub op_of_opcode : (op : Op) → op_of (opcode op) ≡ Some op
op_of_opcode ops.Add = refl
op_of_opcode _ = refl

-- each name names its operation
pub op_named_name : (op : Op) → op_named (op_name op) ≡ Some op
op_named_name ops.Add = refl
op_named_name _ = refl

-- no operation has more than five fixed operands
abbrev count : Arity → ℕ
count (exactly n) = n
count several = 0
count pairs = 0

counted : (op : Op) → count (arity op) ≤ 5
counted ops.Add = omega arith
counted _ = omega arith

pub few_operands : (op : Op) (n : ℕ) → arity op ≡ exactly n → n ≤ 5
few_operands op n e = let m : count (arity op) ≡ n = ap count e in let l = counted op in omega arith
