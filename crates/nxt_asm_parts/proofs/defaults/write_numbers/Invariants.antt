use Rattle.std.proofs.Common.{◌≡◌, flat_map, take}
use Rattle.nxt_asm_parts.specs.Defaults.{constant_leaves, with_leaves}
use Rattle.nxt_asm_parts.proofs.defaults.write_numbers.Given as goal

abbrev pub invariant-loop-place : goal.invariant-loop-place
invariant-loop-place l = l.defaults ≡ with_leaves l.fn.defaults (flat_map constant_leaves (take l.place l.constants.numbers))
