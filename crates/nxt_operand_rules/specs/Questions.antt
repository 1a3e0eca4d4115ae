-- What the questions about operands mean.
use Rattle.std.specs.Prelude.{ℕ, Bool, true, false, ◌&&◌, not}
use Rattle.nxt_types.specs.Shapes.{Shape, convertible, has_list}
use Rattle.nxt_types.specs.declared.instr.Op.{Op}
use Rattle.nxt_types.specs.declared.instr.Op.TheVariants as ops
use Rattle.nxt_types.specs.Calls.{is_cluster_of}
use Rattle.nxt_types.specs.OperandRules.{element_of, goes_into}
use Rattle.nxt_operand_rules.specs.declared.beside.Question.{Question}
use Rattle.nxt_operand_rules.specs.declared.beside.Question.TheVariants.{Answered, ConvertsTo, ElementConvertsTo, IsElementOf, GoesInto, HasNoList, ConvertsWithNoList, IsClusterOf}

-- the answer of operand k, by the shapes of the operands
abbrev pub answer : Question → (ℕ → Shape) → ℕ → Bool
answer (Answered b) s k = b
answer (ConvertsTo i) s k = convertible (s i) (s k)
answer (ElementConvertsTo i) s k = convertible (s i) (element_of (s k))
answer (IsElementOf i) s k = convertible (element_of (s i)) (s k)
answer (GoesInto i) s k = goes_into (s i) (s k)
answer HasNoList s k = not (has_list (s k))
answer (ConvertsWithNoList i) s k = not (has_list (s k)) && convertible (s i) (s k)
answer (IsClusterOf c) s k = is_cluster_of c (s k)

-- something is asked that may need all that stands in a shape
abbrev pub asks_all : Op → Bool
asks_all ops.Index = true
asks_all ops.Replace = true
asks_all ops.Arrbuild = true
asks_all ops.Arrsubset = true
asks_all ops.Arrinit = true
asks_all ops.Mov = true
asks_all ops.Flatten = true
asks_all ops.Unflatten = true
asks_all ops.Syscall = true
asks_all _ = false
