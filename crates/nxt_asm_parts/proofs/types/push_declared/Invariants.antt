use Rattle.std.proofs.Common.{◌≡◌, ◌++◌, map, take}
use Rattle.nxt_asm_parts.proofs.types.push_declared.Given as goal

abbrev pub invariant-loop-var : goal.invariant-loop-var
invariant-loop-var l = l.types ≡ l.fn.types ++ map (λ v. v.shape) (take l.var-index l.vars)
