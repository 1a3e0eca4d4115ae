use Rattle.std.proofs.Common.{List}
use Rattle.nxt_model.specs.declared.nbc.NbcVar.{NbcVar}
use Rattle.nxt_asm_parts.specs.AssembledParts.{Valued}
use Rattle.nxt_asm_parts.specs.Defaults.{var_leaves, variable_of}
use Rattle.nxt_asm_parts.proofs.DefaultLeaves.{leaves_next, next_row_fits}
use Rattle.nxt_asm_parts.proofs.defaults.write_vars.Goals as goal

pub write_var-requires-clause-rows : goal.write_var-requires-clause-rows
write_var-requires-clause-rows c =
    let leaves : NbcVar → List Valued = λ v. var_leaves (variable_of c.args.structs.now v) in
    next_row_fits leaves c.args.vars.now c.loop-var.var-index c.var-item.result c.args.defaults.now c.loop-var.defaults c.loop-var-test.true c.var-item.is
    c.requires.rows c.loop-var.invariant

pub loop-var-preserved : goal.loop-var-preserved
loop-var-preserved c =
    let leaves : NbcVar → List Valued = λ v. var_leaves (variable_of c.args.structs.now v) in
    leaves_next leaves c.args.vars.now c.loop-var.var-index c.var-item.result c.args.defaults.now c.loop-var.defaults c.write_var.new.defaults
    c.loop-var-test.true c.var-item.is c.loop-var.invariant c.in_ok-write_var.ensures
