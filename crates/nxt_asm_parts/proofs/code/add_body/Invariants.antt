-- The statements before this one are written.
use Rattle.std.proofs.Common.{◌≡◌, ◌++◌, take}
use Rattle.nxt_model.specs.Assembled.{body_words}
use Rattle.nxt_model.specs.TextProgram.{text_of}
use Rattle.nxt_asm_parts.proofs.code.add_body.Given as goal

abbrev pub invariant-loop-j : goal.invariant-loop-j
invariant-loop-j l = l.code ≡ l.fn.code ++ body_words (text_of l.numbers) l.at l.here (take l.j l.body)
