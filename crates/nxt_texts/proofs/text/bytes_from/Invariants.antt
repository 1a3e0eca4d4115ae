-- The words of so many numbers.
use Rattle.std.proofs.Common.{◌≡◌, map, take}
use Rattle.nxt_types.specs.Arithmetic.{word}
use Rattle.nxt_texts.proofs.text.bytes_from.Given as goal

abbrev pub invariant-loop-number : goal.invariant-loop-number
invariant-loop-number l = l.bytes ≡ map word (take l.number-index l.numbers)
