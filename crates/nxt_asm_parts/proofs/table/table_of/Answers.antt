use Rattle.std.proofs.Common.{◌++◌, length, map, sym, ap, subst, ◌∙◌}
use Rattle.std.specs.Prelude.{List}
use Rattle.nxt_types.specs.Shapes.{Shape, Members, Cluster, members}
use Rattle.nxt_model.specs.TextProgram.{shape_by, struct_shapes}
use Rattle.nxt_model.specs.declared.nbc.NbcStruct.{NbcStruct}
use Rattle.nxt_asm_parts.specs.Measures.{measure_of}
use Rattle.nxt_asm_parts.specs.Places.{EntriesFit, entries_among, first_places, first_shapes}
use Rattle.nxt_asm_parts.proofs.Entries.{fit_all}
use Rattle.nxt_asm_parts.proofs.LeafPlaces.{table_entries}
use Rattle.nxt_asm_parts.proofs.StructShapes.{all_first}
use Rattle.nxt_asm_parts.proofs.table.table_of.Goals as goal

pub write_members-requires-clause-fits : goal.write_members-requires-clause-fits
write_members-requires-clause-fits c =
    let structs = c.args.structs.now in
    let all : List Shape → Members = λ ss. members (map (shape_by ss) c.args.types.now) in
    let ss = all (struct_shapes structs) in
    let next =
    c.of.ensures ∙ ap first_places c.measure_together.ensures
    ∙ ap (λ (m : List NbcStruct). first_places (measure_of (Cluster (all (struct_shapes m))))) c.requires.measures in
    subst EntriesFit
    (table_entries ss c.requires.few
    ∙ sym (ap (λ l. entries_among (all l) c.of.result) (all_first structs) ∙ ap (entries_among ss) next))
    (fit_all _ c.requires.fits)

pub returns : goal.returns
returns c =
    let structs = c.args.structs.now in
    let all : List Shape → Members = λ ss. members (map (shape_by ss) c.args.types.now) in
    let ss = all (struct_shapes structs) in
    let next =
    c.of.ensures ∙ ap first_places c.measure_together.ensures
    ∙ ap (λ (m : List NbcStruct). first_places (measure_of (Cluster (all (struct_shapes m))))) c.requires.measures in
    ap (λ t. t.entries) c.in_ok-write_members.ensures
    ∙ ap (λ es. es ++ entries_among (all (first_shapes (length structs) structs)) c.of.result) c.new.ensures
    ∙ ap (λ l. entries_among (all l) c.of.result) (all_first structs)
    ∙ ap (entries_among ss) next
    ∙ sym (table_entries ss c.requires.few)
