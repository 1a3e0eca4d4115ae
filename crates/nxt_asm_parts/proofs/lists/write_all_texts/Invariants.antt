use Rattle.std.proofs.Common.{◌≡◌, flat_map, take}
use Rattle.nxt_asm_parts.specs.Defaults.{text_leaves}
use Rattle.nxt_asm_parts.specs.Lists.{with_arrays}
use Rattle.nxt_asm_parts.proofs.lists.write_all_texts.Given as goal

abbrev pub invariant-loop-place : goal.invariant-loop-place
invariant-loop-place l = l.lists ≡ with_arrays l.fn.lists (flat_map text_leaves (take l.place l.constants.texts))
