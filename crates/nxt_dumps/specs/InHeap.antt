-- A heap that holds what a pool is to hold.
use Rattle.std.specs.Prelude.{◌≡◌, length}
use Rattle.nxt_types.specs.Tables.{Table}
use Rattle.nxt_model.specs.Dump.{Content}
use Rattle.nxt_heap.specs.Lists.{Lists}
use Rattle.nxt_space.specs.Inside.Kept.{Stand, values_of}

abbrev pub table_for : Content → Table
table_for c = record { entries = c.entries; shapes = c.shapes }

-- the values stand in its lists, behind so many static bytes, and the table has so many rows
pub record IsInHeap (c : Content) (h : Lists) : Type 0 where
  pub stand : Stand (table_for c) h
  pub long : length h.static_bytes ≡ c.static_size
  pub values : values_of (table_for c) h ≡ c.values
  pub rows : length h.by_row ≡ c.rows
