use Rattle.std.proofs.Common.{◌≡◌, flat_map, take}
use Rattle.nxt_asm_parts.specs.Defaults.{text_leaves, with_leaves}
use Rattle.nxt_asm_parts.proofs.defaults.write_texts.Given as goal

abbrev pub invariant-loop : goal.invariant-loop
invariant-loop l = l.defaults ≡ with_leaves l.fn.defaults (flat_map text_leaves (take l.counter l.constants.texts))
