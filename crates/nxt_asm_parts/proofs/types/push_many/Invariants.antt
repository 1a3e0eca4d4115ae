use Rattle.std.proofs.Common.{◌≡◌, ◌++◌, replicate}
use Rattle.nxt_asm_parts.proofs.types.push_many.Given as goal

abbrev pub invariant-loop : goal.invariant-loop
invariant-loop l = l.types ≡ l.fn.types ++ replicate l.counter l.of
