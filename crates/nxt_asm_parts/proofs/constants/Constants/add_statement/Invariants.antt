use Rattle.std.proofs.Common.{◌≡◌, take}
use Rattle.nxt_asm_parts.specs.Constants.{with_args}
use Rattle.nxt_asm_parts.proofs.constants.Constants.add_statement.Given as goal

abbrev pub invariant-loop-arg : goal.invariant-loop-arg
invariant-loop-arg l = l.self ≡ with_args l.fn.self (take l.arg-index l.args)
