-- The operands before this one are written.
use Rattle.std.proofs.Common.{◌≡◌, map, take}
use Rattle.nxt_model.specs.Assembled.{arg_word}
use Rattle.nxt_model.specs.TextProgram.{text_of}
use Rattle.nxt_asm_parts.proofs.code.arg_words.Given as goal

abbrev pub invariant-loop-arg : goal.invariant-loop-arg
invariant-loop-arg l = l.words ≡ map (arg_word (text_of l.numbers) l.at l.here) (take l.arg-index l.args)
