use Rattle.std.proofs.Common.{◌≡◌, flat_map, take}
use Rattle.nxt_asm_parts.specs.Defaults.{return_leaves, with_leaves}
use Rattle.nxt_asm_parts.proofs.defaults.write_returns.Given as goal

abbrev pub invariant-loop-block : goal.invariant-loop-block
invariant-loop-block l = l.defaults ≡ with_leaves l.fn.defaults (flat_map return_leaves (take l.block-index l.blocks))
