-- The variables of an accepted file at the start, with the strides of their lists.
use Rattle.std.specs.Prelude.{◌≡◌, ℕ, List, find, if◌then◌else◌, Option, Some, None}
use Rattle.nxt_types.specs.Shapes.{Members, some_list}
use Rattle.nxt_rxe.specs.declared.parts.Parts.{Parts}
use Rattle.nxt_model.specs.Image.{Image}
use Rattle.nxt_model.specs.Values.{Value, lists_in}
use Rattle.nxt_model.specs.Footprint.{footprint, rows_for}
use Rattle.nxt_model.specs.Reading.{Memory, HeldList, ReadsAs, row_count}
use Rattle.nxt_table.specs.Leaves.{Leaf, leaves, leaf_of, extent, AreShapes}
use Rattle.nxt_table.specs.Dataspace.{dataspace}
use Rattle.nxt_table.specs.Strides.{all_with_strides}
use Rattle.nxt_layout.specs.Rows.{Ground, has_elements, stride_or, reached_through}

-- the bytes of the variables, with the table of rows in them
abbrev pub memory : Parts → Members → Memory
memory p ss = record { entries = p.toc; bytes = dataspace p ss; table = p.header.dope_at }

abbrev pub ground : Parts → Members → Ground
ground p ss = record { memory = memory p ss; static_size = p.header.static_size; leaves = leaves p.toc ss }

-- ---- strides

-- the stride of the rows with elements that are reached through the entry, or else the extent of its element
abbrev pub stride_through : Ground → Option Leaf → ℕ
stride_through g None = 0
stride_through g (Some l) = stride_or g (extent g.leaves l.entry) (find (has_elements g) (reached_through g l))

abbrev pub stride_of : Ground → ℕ → ℕ
stride_of g a = stride_through g (leaf_of g.leaves a)

-- ---- the start

-- the rows of the file's table, or 1 where it has no arrays
abbrev pub file_rows : Parts → Members → ℕ
file_rows p ss = if some_list ss then row_count (memory p ss) else 1

-- the variables' shapes, each list with its stride
pub record HasShapes (p : Parts) (ss : Members) : Type 0 where
  pub plain : Members
  pub shapes : AreShapes p.toc plain
  pub strides : ss ≡ all_with_strides (stride_of (ground p plain)) 0 plain

-- and the values as which the dataspace reads
pub record StartsAs (p : Parts) (ss : Members) (vars : Value) : Type 0 where
  pub shapes : HasShapes p ss
  pub lists : List HeldList
  pub reads : ReadsAs (memory p ss) ss vars lists

abbrev pub rows_at_start : Parts → Members → Value → ℕ
rows_at_start p ss vars = rows_for (file_rows p ss) (lists_in vars)

-- the footprint at the start
abbrev pub start_footprint : Parts → Members → Value → ℕ
start_footprint p ss vars = footprint p.header.static_size (rows_at_start p ss vars) ss vars

-- the image of a file's parts, whose variables have these shapes and start with these values
abbrev pub image_of : Parts → Members → Value → Image
image_of p ss vars =
    record {
      entries = p.toc;
      shapes = ss;
      values = vars;
      rows = rows_at_start p ss vars;
      static_size = p.header.static_size;
      clumps = p.clumps;
      dependents = p.dependents;
      words = p.code;
    }
