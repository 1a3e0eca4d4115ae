-- What a pool can hold.
use Rattle.std.specs.Prelude.{◌≡◌, ℕ, ◌+◌, ◌*◌, ◌^◌, ◌<◌, ◌≤◌, true, List, ◌∷◌, length}
use Rattle.nxt_types.specs.Pool.{round4, pool_size}
use Rattle.nxt_types.specs.Shapes.{Cluster, SpellsAll}
use Rattle.nxt_model.specs.Values.{lists_in, is_of}
use Rattle.nxt_model.specs.Footprint.{footprint}
use Rattle.nxt_model.specs.Spans.{HasSpans}
use Rattle.nxt_model.specs.Dump.{Content}
use Rattle.nxt_dumps.specs.Lengths.{lengths_in}

-- the values have their shapes, the leaves have spans, each list has a row, and the pool holds the bytes
pub record IsHoldable (c : Content) : Type 0 where
  pub few : length c.entries < 2 ^ 16
  pub spelled : SpellsAll c.entries c.shapes
  pub spans : HasSpans c.entries c.shapes c.static_size
  pub are : is_of (Cluster c.shapes) c.values ≡ true
  pub rows : lists_in c.values + 1 ≤ c.rows
  pub fits : footprint c.static_size c.rows c.shapes c.values ≤ pool_size

-- the bytes of the table and of the lists
abbrev pub lengths_for : Content → List ℕ
lengths_for c = round4 (10 * c.rows) ∷ lengths_in (Cluster c.shapes) c.values

-- the first byte that blocks may take
abbrev pub base_for : Content → ℕ
base_for c = round4 c.static_size
