use Rattle.std.proofs.Common.{◌≡◌, map, take}
use Rattle.nxt_model.specs.TextProgram.{shape_by, struct_shapes}
use Rattle.nxt_asm_parts.specs.Firsts.{firsts_of}
use Rattle.nxt_asm_parts.proofs.numbers.variable_firsts.Given as goal

abbrev pub invariant-loop-var : goal.invariant-loop-var
invariant-loop-var l = l.firsts ≡ firsts_of (map (λ v. shape_by (struct_shapes l.measures) v.shape) (take l.var-index l.vars))
