use Rattle.std.proofs.Common.{◌≡◌, ◌++◌, flat_map, take}
use Rattle.std.specs.Int.{to_le_bytes}
use Rattle.nxt_types.specs.Arithmetic.{width_of, word}
use Rattle.nxt_asm_parts.proofs.lists.push_numbers.Given as goal

abbrev pub invariant-loop-number : goal.invariant-loop-number
invariant-loop-number l = l.bytes ≡ l.fn.bytes ++ flat_map (λ z. to_le_bytes (width_of l.kind) (word z)) (take l.number-index l.numbers)
