use Rattle.std.proofs.Common.{◌≡◌, flat_map, take}
use Rattle.nxt_asm_parts.specs.Constants.{with_args}
use Rattle.nxt_asm_parts.proofs.constants.Constants.add_block.Given as goal

abbrev pub invariant-loop-statement : goal.invariant-loop-statement
invariant-loop-statement l = l.self ≡ with_args l.fn.self (flat_map (λ s. s.args) (take l.statement-index l.body))
