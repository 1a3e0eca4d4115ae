-- The list of shapes is that of the table's variables with these strides.
use Rattle.std.proofs.Common.{◌≡◌, sym, ap, ◌∙◌}
use Rattle.std.specs.Prelude.{slice_index}
use Rattle.std.proofs.lemmas.Result.{IfOk-weaker}
use Rattle.nxt_types.specs.Tables.{trees_of, outside_among, variables_behind}
use Rattle.nxt_types.proofs.Laws.Tables.{variables_back}
use Rattle.nxt_table.specs.Inside.Shaping.{outside_shapes}
use Rattle.nxt_table.specs.Strides.{all_with_strides}
use Rattle.nxt_table.proofs.Laws.Shapes.{table_shapes}
use Rattle.nxt_layout.proofs.layout.shapes_of.Goals as goal

pub returns-clause-outside : goal.returns-clause-outside
returns-clause-outside c =
    let p = c.args.parts.now in
    let f = slice_index c.args.strides.now in
    let h = c.requires.kept in
    let ts = all_with_strides f 0 h.shapes in
    IfOk-weaker c.outside_shapes.result _ _
    (λ shapes e.
    let same : trees_of shapes.items ≡ outside_among ts = e ∙ ap (outside_shapes f 0) c.requires.placed ∙ table_shapes p.toc f h.shapes h.spelled in
    same ∙ ap outside_among (sym (ap (variables_behind 0) same ∙ variables_back ts)))
    c.outside_shapes.ensures

pub returns-clause-shapes : goal.returns-clause-shapes
returns-clause-shapes c =
    let p = c.args.parts.now in
    let f = slice_index c.args.strides.now in
    IfOk-weaker c.outside_shapes.result _ _
    (λ shapes e ss spelled.
    let ts = all_with_strides f 0 ss in
    let same : trees_of shapes.items ≡ outside_among ts = e ∙ ap (outside_shapes f 0) c.requires.placed ∙ table_shapes p.toc f ss spelled in
    ap (variables_behind 0) same ∙ variables_back ts)
    c.outside_shapes.ensures
