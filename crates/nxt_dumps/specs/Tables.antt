-- What is asked of an image's table and variables, so that its programs run with right dumps.
use Rattle.std.specs.Prelude.{◌≡◌, ◌^◌, ◌<◌, ◌≤◌, true, length}
use Rattle.nxt_types.specs.Pool.{pool_size}
use Rattle.nxt_types.specs.Shapes.{Cluster, SpellsAll}
use Rattle.nxt_model.specs.Values.{lists_in, is_of}
use Rattle.nxt_model.specs.Footprint.{footprint, rows_for}
use Rattle.nxt_model.specs.Image.{Image}
use Rattle.nxt_model.specs.Spans.{HasSpans}

-- the entries spell the shapes, the leaves have spans, the values at the start have their shapes, and the pool holds them
pub record HasTable (image : Image) : Type 0 where
  pub few : length image.entries < 2 ^ 16
  pub spelled : SpellsAll image.entries image.shapes
  pub spans : HasSpans image.entries image.shapes image.static_size
  pub values : is_of (Cluster image.shapes) image.values ≡ true
  pub fits : footprint image.static_size (rows_for image.rows (lists_in image.values)) image.shapes image.values ≤ pool_size
