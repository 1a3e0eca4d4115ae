-- A struct's members are types among the structs before it.
use Rattle.std.proofs.Common.{◌≡◌, ◌<◌, ◌++◌, length, map, sym, ap, ◌∙◌, arith}
use Rattle.std.proofs.lemmas.Bool.Decides.{nat_tests}
use Rattle.std.proofs.lemmas.List.{length-map}
use Rattle.nxt_types.specs.Shapes.{cluster_of}
use Rattle.nxt_model.specs.TextProgram.{base_shape, shape_by, struct_shapes}
use Rattle.nxt_model.specs.declared.nbc.NbcStruct.{NbcStruct}
use Rattle.std.specs.Prelude.{List}
use Rattle.nxt_asm_parts.specs.Measures.{measure_of}
use Rattle.nxt_asm_parts.specs.Places.{array_entries, first_places, first_shapes}
use Rattle.nxt_asm_parts.specs.declared.table.TableSoFar.{TableSoFar}
use Rattle.nxt_asm_parts.proofs.Entries.{array_written, base_element, element_fits, first_fits, many_fit, on_ok, others_fit, rest_more, struct_written}
use Rattle.nxt_asm_parts.proofs.table.+table.Goals as goal

-- ---- structs

pub write_base-write_entry-requires : goal.write_base-write_entry-requires
write_base-write_entry-requires t c =
    let structs = c.args.structs.now in
    let found = c.in-Some.found.now in
    let shape = shape_by (first_shapes c.in-Struct.position structs) in
    let is = ap (base_shape (first_shapes c.args.first structs)) c.in-Struct.is ∙ c.in-Some.ensures.1 in
    many_fit (map shape found.members) _ c.args.table.now.next c.len.result is (c.len.ensures ∙ sym (length-map found.members shape)) c.requires.fits

pub write_base-returns-in_ok-write_entry-in-Some : goal.write_base-returns-in_ok-write_entry-in-Some
write_base-returns-in_ok-write_entry-in-Some t c =
    let structs = c.args.structs.now in
    let types = c.as_slice.result.now in
    let shape = shape_by (first_shapes c.in-Struct.position structs) in
    let is =
    ap (base_shape (first_shapes c.args.first structs)) c.in-Struct.is ∙ c.in-Some.ensures.1
    ∙ ap (λ ts. cluster_of (map shape ts)) (sym c.as_slice.ensures) in
    let many : c.len.result ≡ length (map shape types) = c.len.ensures ∙ ap length (sym c.as_slice.ensures) ∙ sym (length-map types shape) in
    on_ok c.write_members.result
    (λ written. struct_written (map shape types) _ c.args.table.now c.write_entry.new.table c.write_members.new.table c.len.result is many c.in_ok-write_entry-in-Some.ensures written)
    c.write_members.ensures

-- ---- members

pub write_members-write_type-requires : goal.write_members-write_type-requires
write_members-write_type-requires t c =
    let shape = shape_by (first_shapes c.args.first c.args.structs.now) in (
      omega arith,
      (c.requires.measures, first_fits shape c.args.types.now c.loop-of.of-index _ c.loop-of.table.next c.loop-of-test.true c.loop-of.invariant.fits),
    )

pub write_members-loop-of-preserved : goal.write_members-loop-of-preserved
write_members-loop-of-preserved t c =
    let shape = shape_by (first_shapes c.args.first c.args.structs.now) in
    let types = c.args.types.now in
    let i = c.loop-of.of-index in
    record {
      rest =
          rest_more shape types i _ c.loop-of.table c.write_type.new.table _ c.loop-of-test.true c.in_ok-write_type.ensures c.loop-of.invariant.rest;
      fits =
          others_fit shape types i _ c.loop-of.table c.write_type.new.table c.loop-of-test.true c.in_ok-write_type.ensures c.loop-of.invariant.fits;
    }

-- ---- arrays

pub write_type-write_base-requires-else-of-eq0 : goal.write_type-write_base-requires-else-of-eq0
write_type-write_base-requires-else-of-eq0 t c =
    let ss = struct_shapes c.args.structs.now in
    let first = c.args.first in
    let base = c.args.of.base in
    let some : 0 < c.args.of.arrays = grind (arith, nat_tests) in
    let is =
    ap (λ (w : TableSoFar). w.next) c.in_ok-outside.ensures.written
    ∙ ap (λ (m : List NbcStruct). first_places (measure_of (base_shape (struct_shapes m) base))) c.requires.measures in (
      omega arith,
      (
        c.requires.measures,
        element_fits c.args.of.arrays (base_shape (first_shapes first c.args.structs.now) base) (base_shape ss base) c.args.table.now.next c.write_arrays.new.table.next some is
            (base_element ss first base) c.requires.fits,
      ),
    )

pub write_type-returns-in_ok-write_base : goal.write_type-returns-in_ok-write_base
write_type-returns-in_ok-write_base t c =
    let ss = struct_shapes c.args.structs.now in
    let first = c.args.first in
    let base = c.args.of.base in
    let begun = c.args.table.now in
    let some : 0 < c.args.of.arrays = grind (arith, nat_tests) in
    let opened : List NbcStruct → TableSoFar = λ m. record {
      entries = begun.entries ++ array_entries c.args.of.arrays begun.next;
      next = first_places (measure_of (base_shape (struct_shapes m) base));
    } in
    array_written c.args.of.arrays (base_shape (first_shapes first c.args.structs.now) base) (base_shape ss base) begun c.write_arrays.new.table
    c.write_base-else-of-eq0.new.table c.in_ok-outside.outside some c.in_ok-outside.ensures.outside
    (c.in_ok-outside.ensures.written ∙ ap opened c.requires.measures) (base_element ss first base) c.in_ok-write_base.ensures
