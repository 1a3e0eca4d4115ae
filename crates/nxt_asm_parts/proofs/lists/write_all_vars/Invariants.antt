use Rattle.std.proofs.Common.{◌≡◌, flat_map, take}
use Rattle.nxt_asm_parts.specs.Defaults.{variable_of}
use Rattle.nxt_asm_parts.specs.Lists.{var_arrays, with_arrays}
use Rattle.nxt_asm_parts.proofs.lists.write_all_vars.Given as goal

abbrev pub invariant-loop-var : goal.invariant-loop-var
invariant-loop-var l = l.lists ≡ with_arrays l.fn.lists (flat_map (λ v. var_arrays (variable_of l.structs v)) (take l.var-index l.vars))
