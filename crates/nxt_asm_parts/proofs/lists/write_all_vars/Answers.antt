use Rattle.std.proofs.Common.{List}
use Rattle.nxt_model.specs.declared.nbc.NbcVar.{NbcVar}
use Rattle.nxt_asm_parts.specs.AssembledParts.{Valued}
use Rattle.nxt_asm_parts.specs.Defaults.{variable_of}
use Rattle.nxt_asm_parts.specs.Lists.{var_arrays}
use Rattle.nxt_asm_parts.proofs.ListRows.{arrays_next, next_lists_fit}
use Rattle.nxt_asm_parts.proofs.lists.write_all_vars.Goals as goal

pub write_var_lists-requires-clause-fits : goal.write_var_lists-requires-clause-fits
write_var_lists-requires-clause-fits c =
    let arrays : NbcVar → List Valued = λ v. var_arrays (variable_of c.args.structs.now v) in
    next_lists_fit arrays c.args.vars.now c.loop-var.var-index c.var-item.result c.args.lists.now c.loop-var.lists c.loop-var-test.true c.var-item.is
    c.requires.fits c.loop-var.invariant

pub loop-var-preserved : goal.loop-var-preserved
loop-var-preserved c =
    let arrays : NbcVar → List Valued = λ v. var_arrays (variable_of c.args.structs.now v) in
    arrays_next arrays c.args.vars.now c.loop-var.var-index c.var-item.result c.args.lists.now c.loop-var.lists c.write_var_lists.new.lists
    c.loop-var-test.true c.var-item.is c.loop-var.invariant c.in_ok-write_var_lists.ensures
