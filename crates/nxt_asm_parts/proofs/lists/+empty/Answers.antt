use Rattle.std.proofs.Common.{List, ap, subst, sym, ◌∙◌, arith}
use Rattle.nxt_model.specs.TextProgram.{shape_by}
use Rattle.nxt_model.specs.declared.nbc.NbcType.{NbcType}
use Rattle.nxt_asm_parts.specs.AssembledParts.{Valued}
use Rattle.nxt_asm_parts.specs.Lists.{ListsFit, with_arrays, zero_arrays}
use Rattle.nxt_asm_parts.specs.Places.{first_shapes}
use Rattle.nxt_asm_parts.proofs.Entries.{on_ok}
use Rattle.nxt_asm_parts.proofs.ListRows.{arrays_more, more_lists_fit, struct_arrays}
use Rattle.nxt_asm_parts.proofs.lists.+empty.Goals as goal

pub write_empty_base-write_empty_members-requires : goal.write_empty_base-write_empty_members-requires
write_empty_base-write_empty_members-requires t c =
    let structs = c.args.structs.now in
    let before = c.in-Some.ensures.0 in
    let whole =
    struct_arrays (first_shapes c.args.first structs) (first_shapes c.in-Struct.position structs) c.args.base c.in-Struct.position c.in-Some.found.now.members
    c.as_slice.result.now c.in-Struct.is c.in-Some.ensures.1 c.as_slice.ensures in (
      omega (arith, before),
      (c.requires.measures, subst (ListsFit c.args.lists.now) whole c.requires.fits),
    )

pub write_empty_base-returns-in-Some : goal.write_empty_base-returns-in-Some
write_empty_base-returns-in-Some t c =
    let structs = c.args.structs.now in
    let whole =
    struct_arrays (first_shapes c.args.first structs) (first_shapes c.in-Struct.position structs) c.args.base c.in-Struct.position c.in-Some.found.now.members
    c.as_slice.result.now c.in-Struct.is c.in-Some.ensures.1 c.as_slice.ensures in
    on_ok c.write_empty_members.result (λ written. written ∙ ap (with_arrays c.args.lists.now) (sym whole)) c.write_empty_members.ensures

pub write_empty_members-write_empty-requires : goal.write_empty_members-write_empty-requires
write_empty_members-write_empty-requires t c =
    let arrays : NbcType → List Valued = λ u. zero_arrays (shape_by (first_shapes c.args.first c.args.structs.now) u) in (
      omega arith,
      (
        c.requires.measures,
        more_lists_fit arrays c.args.types.now c.loop-of.of-index _ c.args.lists.now c.loop-of.lists c.loop-of-test.true c.requires.fits c.loop-of.invariant,
      ),
    )

pub write_empty_members-loop-of-preserved : goal.write_empty_members-loop-of-preserved
write_empty_members-loop-of-preserved t c =
    let arrays : NbcType → List Valued = λ u. zero_arrays (shape_by (first_shapes c.args.first c.args.structs.now) u) in
    arrays_more arrays c.args.types.now c.loop-of.of-index _ c.args.lists.now c.loop-of.lists c.write_empty.new.lists c.loop-of-test.true
    c.loop-of.invariant c.in_ok-write_empty.ensures
