use Rattle.std.proofs.Common.{◌≡◌, ◌++◌, flat_map, pos, take}
use Rattle.std.specs.Int.{to_le_bytes, w8}
use Rattle.nxt_types.specs.Arithmetic.{word}
use Rattle.nxt_asm_parts.proofs.lists.push_text.Given as goal

abbrev pub invariant-loop-byte : goal.invariant-loop-byte
invariant-loop-byte l = l.bytes ≡ l.fn.bytes ++ flat_map (λ b. to_le_bytes w8 (word (pos b))) (take l.byte-index l.text)
