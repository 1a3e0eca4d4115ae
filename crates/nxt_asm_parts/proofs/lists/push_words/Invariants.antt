use Rattle.std.proofs.Common.{◌≡◌, ◌++◌, flat_map, take}
use Rattle.std.specs.Int.{to_le_bytes, w16}
use Rattle.nxt_asm_parts.proofs.lists.push_words.Given as goal

abbrev pub invariant-loop-word : goal.invariant-loop-word
invariant-loop-word l = l.bytes ≡ l.fn.bytes ++ flat_map (to_le_bytes w16) (take l.word-index l.words)
