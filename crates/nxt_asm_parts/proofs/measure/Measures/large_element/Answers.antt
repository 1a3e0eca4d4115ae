use Rattle.std.proofs.Common.{slice_index_or}
use Rattle.nxt_types.specs.declared.kind.Kind.TheVariants.{Ubyte}
use Rattle.nxt_model.specs.TextProgram.{struct_shapes}
use Rattle.nxt_model.specs.declared.nbc.NbcBase.TheVariants as bases
use Rattle.nxt_model.specs.declared.nbc.NbcType.{NbcType}
use Rattle.nxt_asm_parts.proofs.Laws.LargeElements.{large_more, large_seen}
use Rattle.nxt_asm_parts.proofs.measure.Measures.large_element.Goals as goal

pub loop-of-preserved : goal.loop-of-preserved
loop-of-preserved c =
    let structs = c.args.self.now in
    let none : NbcType = record { base = bases.Number Ubyte; arrays = 0 } in
    let of : NbcType = slice_index_or c.args.types.now c.loop-of.of-index none in
    large_more (struct_shapes structs) c.args.types.now c.loop-of.of-index none c.loop-of.large _ _ c.loop-of-test.true c.loop-of.invariant
    (large_seen structs c.self.inside.structs.items c.as_slice.result.now of _ c.as_slice.ensures.value c.self.view_is c.large_among.ensures)
    c.or-large.ensures
