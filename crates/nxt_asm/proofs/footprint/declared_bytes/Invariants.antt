use Rattle.std.proofs.Common.{◌≡◌, sum_by, take}
use Rattle.nxt_asm_parts.specs.Defaults.{variable_of}
use Rattle.nxt_asm_rules.specs.StartBytes.{start_bytes}
use Rattle.nxt_asm.proofs.footprint.declared_bytes.Given as goal

abbrev pub invariant-loop-var : goal.invariant-loop-var
invariant-loop-var l = l.bytes ≡ sum_by (λ v. start_bytes (variable_of l.structs v)) (take l.var-index l.vars)
