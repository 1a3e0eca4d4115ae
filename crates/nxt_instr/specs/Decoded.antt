-- The instruction that a statement decodes to.
use Rattle.std.specs.Prelude.{ℕ, ◌+◌, ◌-◌, if◌then◌else◌, ◌==◌, List, length, slice_index_or, Option, Some, None}
use Rattle.nxt_types.specs.declared.kind.Cmp.{Cmp}
use Rattle.nxt_types.specs.declared.instr.Op.{Op}
use Rattle.nxt_types.specs.declared.instr.Instr.{Instr}
use Rattle.nxt_types.specs.Opcodes.{Arity, exactly, several, pairs, arity}
use Rattle.nxt_types.specs.Statements.{Statement, Spelled, fixed_form, sized_form}
use Rattle.nxt_types.specs.Words.{left_out}

-- the k-th operand; the word that leaves it out where there is none
abbrev pub operand : ℕ → List ℕ → ℕ
operand k args = slice_index_or args k left_out

-- the fixed operands in order
abbrev pub closed : Statement → Instr
closed s = record {
  op = s.op;
  cmp = s.cmp;
  a = operand 0 s.args;
  b = operand 1 s.args;
  c = operand 2 s.args;
  d = operand 3 s.args;
  e = operand 4 s.args;
  rest_at = 0;
  rest = 0;
}

-- the first operand; the others are the words behind it, from the statement's fourth word on
abbrev pub open_ended : ℕ → Statement → Instr
open_ended at s = record {
  op = s.op;
  cmp = s.cmp;
  a = operand 0 s.args;
  b = left_out;
  c = left_out;
  d = left_out;
  e = left_out;
  rest_at = at + 3;
  rest = length s.args - 1;
}

abbrev pub instr_by : Arity → ℕ → Statement → Instr
instr_by (exactly n) at s = closed s
instr_by several at s = open_ended at s
instr_by pairs at s = open_ended at s

-- the instruction of the statement whose first word stands at `at`
abbrev pub instr_of : ℕ → Statement → Instr
instr_of at s = instr_by (arity s.op) at s

-- instructions with their lengths, by an arity and by the operation's own
abbrev pub placed : Arity → ℕ → Option Spelled → Option (Instr × ℕ)
placed a at None = None
placed a at (Some s) = Some (instr_by a at s.0, s.1)

abbrev pub decoded : ℕ → Option Spelled → Option (Instr × ℕ)
decoded at None = None
decoded at (Some s) = Some (instr_of at s.0, s.1)

-- the long form of an operation that isn't wait
abbrev pub form_by : Op → Arity → Cmp → ℕ → List ℕ → Option Spelled
form_by op (exactly n) cmp bytes rest = fixed_form op cmp n bytes rest
form_by op several cmp bytes rest = if bytes == 14 then sized_form op rest else None
form_by op pairs cmp bytes rest = if bytes == 14 then sized_form op rest else None
