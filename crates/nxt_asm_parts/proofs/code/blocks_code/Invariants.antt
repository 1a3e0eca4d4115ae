-- The blocks before this one are written.
use Rattle.std.proofs.Common.{◌≡◌, take}
use Rattle.nxt_model.specs.Assembled.{code_from}
use Rattle.nxt_model.specs.TextProgram.{text_of}
use Rattle.nxt_asm_parts.proofs.code.blocks_code.Given as goal

abbrev pub invariant-loop-i : goal.invariant-loop-i
invariant-loop-i l = l.code ≡ code_from (text_of l.numbers) 0 (take l.i l.blocks)
