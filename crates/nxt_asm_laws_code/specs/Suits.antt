-- Operands of the classes that their words are read by.
use Rattle.std.specs.Prelude.{◌≡◌, ℕ, ◌+◌, Bool, true, false, List, [], ◌∷◌, length, ⊤}
use Rattle.nxt_types.specs.Opcodes.{classes}
use Rattle.nxt_types.specs.OperandRules.{is_destination}
use Rattle.nxt_types.specs.declared.instr.Op.{Op}
use Rattle.nxt_types.specs.declared.opcodes.Class.{Class}
use Rattle.nxt_types.specs.declared.opcodes.Class.TheVariants.{Immediate, Clump, Offset}
use Rattle.nxt_model.specs.declared.nbc.NbcArg.{NbcArg}
use Rattle.nxt_model.specs.declared.nbc.NbcArg.TheVariants as args
use Rattle.nxt_model.specs.declared.nbc.NbcStatement.{NbcStatement}
use Rattle.nxt_model.specs.Assembled.{code_op}

-- a class of parts of variables
abbrev pub is_part_class : Class → Bool
is_part_class Immediate = false
is_part_class Clump = false
is_part_class Offset = false
is_part_class c = true

-- an operand of a class, in which something is stored or not; a constant is no destination
abbrev pub Suits : Class → Bool → NbcArg → Type 0
Suits c stored args.Left = is_part_class c ≡ true
Suits c stored (args.Var i path) = is_part_class c ≡ true
Suits c stored (args.Number z) = (is_part_class c ≡ true) × (stored ≡ false)
Suits c stored (args.Text bytes) = (is_part_class c ≡ true) × (stored ≡ false)
Suits c stored (args.Imm n) = c ≡ Immediate
Suits c stored (args.Block b) = c ≡ Clump
Suits c stored (args.Back b) = is_part_class c ≡ true
Suits c stored (args.Jump place) = c ≡ Offset

-- operands from operand k on, side by side with their classes
abbrev pub SuitFrom : Op → ℕ → List Class → List NbcArg → Type 0
SuitFrom op k [] [] = ⊤
SuitFrom op k (c ∷ cs) (a ∷ xs) = Suits c (is_destination op k) a × SuitFrom op (k + 1) cs xs
SuitFrom op k _ _ = ⊥

-- those of a statement, by the classes of the operation that stands in its code
abbrev pub IsSuited : NbcStatement → Type 0
IsSuited s = SuitFrom s.op 0 (classes (code_op s.op s.args) (length s.args)) s.args
