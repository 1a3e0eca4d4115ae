use Rattle.std.proofs.Common.{◌≡◌, flat_map, take}
use Rattle.nxt_asm_parts.specs.Constants.{no_constants, with_args}
use Rattle.nxt_asm_parts.proofs.constants.Constants.of.Given as goal

abbrev pub invariant-loop-block : goal.invariant-loop-block
invariant-loop-block l = l.found ≡ with_args no_constants (flat_map (λ b. flat_map (λ s. s.args) b.body) (take l.block-index l.blocks))
