use Rattle.std.proofs.Common.{◌≡◌, flat_map, take}
use Rattle.nxt_asm_parts.proofs.clumps.clump_dependents.Given as goal

abbrev pub invariant-loop-block : goal.invariant-loop-block
invariant-loop-block l = l.all ≡ flat_map (λ b. b.dependents) (take l.block-index l.blocks)
