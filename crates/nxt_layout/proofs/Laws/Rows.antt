-- How many rows a file's table has, whatever the strides.
use Rattle.std.proofs.Common.{◌≡◌, ℕ}
use Rattle.nxt_types.specs.Shapes.{Members}
use Rattle.nxt_rxe.specs.declared.parts.Parts.{Parts}
use Rattle.nxt_table.specs.Leaves.{AreShapes}
use Rattle.nxt_table.specs.Strides.{all_with_strides}
use Rattle.nxt_layout.specs.Start.{file_rows}
use Rattle.nxt_layout.proofs.Start.Size.{rows_with_strides}

pub same_rows : (p : Parts) (f : ℕ → ℕ) (plain : Members) → AreShapes p.toc plain → file_rows p (all_with_strides f 0 plain) ≡ file_rows p plain
same_rows p f plain shapes = rows_with_strides p f plain shapes
