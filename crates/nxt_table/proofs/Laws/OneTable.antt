-- A table has one list of shapes.
use Rattle.std.proofs.Common.{◌≡◌, List, sym, ◌∙◌}
use Rattle.nxt_types.specs.declared.shape.TocEntry.{TocEntry}
use Rattle.nxt_types.specs.Shapes.{Members}
use Rattle.nxt_types.proofs.Laws.Shapes.{one_spelling}
use Rattle.nxt_table.specs.Leaves.{AreShapes}

pub one_table : (table : List TocEntry) (ss ts : Members) → AreShapes table ss → AreShapes table ts → ss ≡ ts
one_table table ss ts a b = sym a.strides ∙ one_spelling table ss ts a.spelled b.spelled ∙ b.strides
