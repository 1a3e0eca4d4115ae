-- A struct's members are types among the structs before it.
use Rattle.std.proofs.Common.{◌<◌, List, flat_map, sym, ap, subst, ◌∙◌, arith}
use Rattle.std.proofs.lemmas.Bool.Decides.{nat_tests}
use Rattle.nxt_types.specs.Shapes.{Shape}
use Rattle.nxt_model.specs.TextProgram.{base_shape, shape_by}
use Rattle.nxt_model.specs.declared.nbc.NbcType.{NbcType}
use Rattle.nxt_asm_parts.specs.AssembledParts.{Valued}
use Rattle.nxt_asm_parts.specs.Defaults.{RowsFit, with_leaves, zero_leaves}
use Rattle.nxt_asm_parts.specs.Places.{first_shapes}
use Rattle.nxt_asm_parts.proofs.DefaultLeaves.{array_leaf, leaves_more, next_fits, zeros_are}
use Rattle.nxt_asm_parts.proofs.Entries.{on_ok}
use Rattle.nxt_asm_parts.proofs.defaults.+defaults.Goals as goal

-- ---- structs

pub write_base-write_members-requires : goal.write_base-write_members-requires
write_base-write_members-requires t c =
    let structs = c.args.structs.now in
    let shape : NbcType → Shape = shape_by (first_shapes c.in-Struct.position structs) in
    let leaves : NbcType → List Valued = λ u. zero_leaves (shape u) in
    let before = c.in-Some.ensures.0 in
    let whole =
    ap (λ b. zero_leaves (base_shape (first_shapes c.args.first structs) b)) c.in-Struct.is
    ∙ ap zero_leaves c.in-Some.ensures.1
    ∙ zeros_are shape c.in-Some.found.now.members
    ∙ ap (flat_map leaves) (sym c.as_slice.ensures) in (
      omega (arith, before),
      subst (RowsFit c.args.defaults.now) whole c.requires,
    )

pub write_base-returns-in-Some : goal.write_base-returns-in-Some
write_base-returns-in-Some t c =
    let structs = c.args.structs.now in
    let shape : NbcType → Shape = shape_by (first_shapes c.in-Struct.position structs) in
    let leaves : NbcType → List Valued = λ u. zero_leaves (shape u) in
    let whole =
    ap (λ b. zero_leaves (base_shape (first_shapes c.args.first structs) b)) c.in-Struct.is
    ∙ ap zero_leaves c.in-Some.ensures.1
    ∙ zeros_are shape c.in-Some.found.now.members
    ∙ ap (flat_map leaves) (sym c.as_slice.ensures) in
    on_ok c.write_members.result (λ written. written ∙ ap (with_leaves c.args.defaults.now) (sym whole)) c.write_members.ensures

-- ---- members

pub write_members-write_type-requires : goal.write_members-write_type-requires
write_members-write_type-requires t c =
    let leaves : NbcType → List Valued = λ u. zero_leaves (shape_by (first_shapes c.args.first c.args.structs.now) u) in (
      omega arith,
      next_fits leaves c.args.types.now c.loop-of.of-index _ c.args.defaults.now c.loop-of.defaults c.loop-of-test.true c.requires c.loop-of.invariant,
    )

pub write_members-loop-of-preserved : goal.write_members-loop-of-preserved
write_members-loop-of-preserved t c =
    let leaves : NbcType → List Valued = λ u. zero_leaves (shape_by (first_shapes c.args.first c.args.structs.now) u) in
    leaves_more leaves c.args.types.now c.loop-of.of-index _ c.args.defaults.now c.loop-of.defaults c.write_type.new.defaults c.loop-of-test.true
    c.loop-of.invariant c.in_ok-write_type.ensures

-- ---- arrays

pub write_type-returns-else-of-eq0 : goal.write_type-returns-else-of-eq0
write_type-returns-else-of-eq0 t c =
    let some : 0 < c.args.of.arrays = grind (arith, nat_tests) in
    array_leaf c.args.of.arrays (base_shape (first_shapes c.args.first c.args.structs.now) c.args.of.base) c.args.defaults.now c.write_row.new.defaults
    c.write_row.result some c.write_row.ensures
