use Rattle.std.proofs.Common.{◌≡◌, flat_map, take}
use Rattle.nxt_asm_parts.specs.Defaults.{var_leaves, variable_of, with_leaves}
use Rattle.nxt_asm_parts.proofs.defaults.write_vars.Given as goal

abbrev pub invariant-loop-var : goal.invariant-loop-var
invariant-loop-var l = l.defaults ≡ with_leaves l.fn.defaults (flat_map (λ v. var_leaves (variable_of l.structs v)) (take l.var-index l.vars))
