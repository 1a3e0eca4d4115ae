use Rattle.std.proofs.Common.{ap, subst, sym, ◌∙◌}
use Rattle.nxt_types.specs.Arithmetic.{leaf_size}
use Rattle.nxt_model.specs.TextProgram.{struct_shapes}
use Rattle.nxt_model.specs.declared.nbc.NbcStart.TheVariants as starts
use Rattle.nxt_asm_parts.specs.Defaults.{StartFits}
use Rattle.nxt_asm_parts.specs.Lists.{ListsFit, with_arrays}
use Rattle.nxt_asm_parts.proofs.Entries.{on_ok}
use Rattle.nxt_asm_parts.proofs.ListRows.{list_arrays, no_arrays, number_arrays, zero_var}
use Rattle.nxt_asm_parts.proofs.lists.write_var_lists.Goals as goal

pub write_empty-requires-clause-fits : goal.write_empty-requires-clause-fits
write_empty-requires-clause-fits c =
    subst (ListsFit c.args.lists.now) (zero_var c.args.structs.now c.args.var.now.shape c.args.var.now.start c.in-Zero.is) c.requires.fits

pub returns-in-Zero : goal.returns-in-Zero
returns-in-Zero c =
    let whole = zero_var c.args.structs.now c.args.var.now.shape c.args.var.now.start c.in-Zero.is in
    on_ok c.write_empty.result (λ written. written ∙ ap (with_arrays c.args.lists.now) (sym whole)) c.write_empty.ensures

pub returns-in-Num : goal.returns-in-Num
returns-in-Num c =
    let of = c.args.var.now.shape in
    let start = subst (StartFits of) c.in-Num.is c.requires.start in
    let none = number_arrays (struct_shapes c.args.structs.now) of c.args.var.now.start c.in-Num.field-0 start.0 start.1 c.in-Num.is in
    no_arrays c.args.lists.now ∙ ap (with_arrays c.args.lists.now) (sym none)

pub returns-in-List : goal.returns-in-List
returns-in-List c =
    let of = c.args.var.now.shape in
    let start = subst (StartFits of) c.in-List.is c.requires.start in
    let list = c.in-List.is ∙ ap starts.List (sym c.as_slice.ensures) in
    let whole =
    list_arrays (struct_shapes c.args.structs.now) of c.kind_of.result c.args.var.now.start c.as_slice.result.now start.0 c.kind_of.ensures list in
    on_ok c.write_list.result (λ written. written ∙ ap (with_arrays c.args.lists.now) (sym whole)) (c.write_list.ensures (leaf_size c.kind_of.result))
