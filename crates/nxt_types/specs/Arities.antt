-- The program's table of operations, as the definitions see it.
use Rattle.nxt_types.specs.declared.opcodes.Arity.{Arity as ProgramArity}
use Rattle.nxt_types.specs.declared.opcodes.Arity.TheVariants as arities
use Rattle.nxt_types.specs.declared.opcodes.Operands.{Operands as ProgramOperands}
use Rattle.nxt_types.specs.declared.opcodes.Operands.TheVariants as programs
use Rattle.nxt_types.specs.declared.opcodes.OpcodeRow.{OpcodeRow as ProgramRow}
use Rattle.nxt_types.specs.Opcodes.{OpcodeRow, Operands, fixed, first_and_more, first_and_pairs, Arity, exactly, several, pairs}

abbrev pub as_arity : ProgramArity → Arity
as_arity (arities.Exactly n) = exactly n
as_arity arities.Several = several
as_arity arities.Pairs = pairs

abbrev pub operands_seen : ProgramOperands → Operands
operands_seen (programs.Fixed cs) = fixed cs.now
operands_seen (programs.FirstAndMore c d) = first_and_more c d
operands_seen (programs.FirstAndPairs c d e) = first_and_pairs c d e

abbrev pub row_seen : ProgramRow → OpcodeRow
row_seen r = record { code = r.code; name = r.name.now; compares = r.compares; operands = operands_seen r.operands }
