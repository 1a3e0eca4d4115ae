-- A file's layout, and the passes over its rows that find the first fault.
use Rattle.std.specs.Prelude.{◌≡◌, ℕ, List}
use Rattle.nxt_types.specs.declared.shape.TocEntry.{TocEntry}
use Rattle.nxt_types.specs.Refusals.{IsAccepted}
use Rattle.nxt_types.specs.Shapes.{Members}
use Rattle.nxt_rxe.specs.declared.parts.Parts.{Parts}
use Rattle.nxt_model.specs.Values.{Value}
use Rattle.nxt_table.specs.Dataspace.{dataspace}
use Rattle.nxt_layout.specs.Start.{StartsAs, file_rows, start_footprint}
use Rattle.nxt_layout.specs.LayoutRules.{Broken}

-- ---- layouts

-- a table with its variables' shapes, the dataspace, the static bytes, where the table of rows stands, its rows, and the
-- pool's bytes that the start needs
pub record FileLayout : Type 0 where
  pub entries : List TocEntry
  pub shapes : Members
  pub dataspace : List ℕ
  pub static_size : ℕ
  pub dope_at : ℕ
  pub rows : ℕ
  pub footprint : ℕ

-- that of the parts whose variables have these shapes and start with these values
abbrev pub layout_of : Parts → Members → Value → FileLayout
layout_of p ss vars =
    record {
      entries = p.toc;
      shapes = ss;
      dataspace = dataspace p ss;
      static_size = p.header.static_size;
      dope_at = p.header.dope_at;
      rows = file_rows p ss;
      footprint = start_footprint p ss vars;
    }

-- no rule is broken, and this is the layout
pub record IsLayout (p : Parts) (l : FileLayout) : Type 0 where
  pub accepted : IsAccepted (Broken p)
  pub shapes : Members
  pub vars : Value
  pub starts : StartsAs p shapes vars
  pub layout : l ≡ layout_of p shapes vars
