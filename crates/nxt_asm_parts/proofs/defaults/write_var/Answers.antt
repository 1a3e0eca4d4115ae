use Rattle.std.proofs.Common.{sym, ap, subst, ◌∙◌}
use Rattle.nxt_types.specs.Shapes.{Shape}
use Rattle.nxt_model.specs.TextProgram.{base_shape, shape_by, starts_as, struct_shapes}
use Rattle.nxt_asm_parts.specs.AssembledParts.{leaves_in}
use Rattle.nxt_asm_parts.specs.Defaults.{RowsFit, StartFits, with_leaves, zero_leaves}
use Rattle.nxt_asm_parts.proofs.DefaultLeaves.{list_leaf}
use Rattle.nxt_asm_parts.proofs.Entries.{on_ok}
use Rattle.nxt_asm_parts.proofs.StructShapes.{all_first}
use Rattle.nxt_asm_parts.proofs.defaults.write_var.Goals as goal

pub write_type-requires : goal.write_type-requires
write_type-requires c =
    let structs = c.args.structs.now in
    let of = c.args.var.now.shape in
    let shape : Shape = shape_by (struct_shapes structs) of in
    let whole =
    ap (λ b. leaves_in shape (starts_as shape b)) c.in-Zero.is
    ∙ sym (ap (λ ss. zero_leaves (shape_by ss of)) (all_first structs)) in
    subst (RowsFit c.args.defaults.now) whole c.requires.rows

pub returns-in-Zero : goal.returns-in-Zero
returns-in-Zero c =
    let structs = c.args.structs.now in
    let of = c.args.var.now.shape in
    let shape : Shape = shape_by (struct_shapes structs) of in
    let whole =
    ap (λ b. leaves_in shape (starts_as shape b)) c.in-Zero.is
    ∙ sym (ap (λ ss. zero_leaves (shape_by ss of)) (all_first structs)) in
    on_ok c.write_type.result (λ written. written ∙ ap (with_leaves c.args.defaults.now) (sym whole)) c.write_type.ensures

pub returns-in-List : goal.returns-in-List
returns-in-List c =
    let structs = c.args.structs.now in
    let of = c.args.var.now.shape in
    let one = (subst (StartFits of) c.in-List.is c.requires.fits).0 in
    list_leaf of.arrays (base_shape (struct_shapes structs) of.base) (λ s. starts_as s c.args.var.now.start) c.args.defaults.now c.write_row.new.defaults
    c.write_row.result one c.write_row.ensures

pub returns-in-Text : goal.returns-in-Text
returns-in-Text c =
    let structs = c.args.structs.now in
    let of = c.args.var.now.shape in
    let one = (subst (StartFits of) c.in-Text.is c.requires.fits).0 in
    list_leaf of.arrays (base_shape (struct_shapes structs) of.base) (λ s. starts_as s c.args.var.now.start) c.args.defaults.now c.write_row-in-Text.new.defaults
    c.write_row-in-Text.result one c.write_row-in-Text.ensures
