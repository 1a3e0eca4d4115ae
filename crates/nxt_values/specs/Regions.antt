-- Where values stand in the heap.
use Rattle.std.specs.Prelude.{ℕ, List}
use Rattle.nxt_types.specs.Shapes.{Shape, Members}
use Rattle.nxt_types.specs.declared.shape.TocEntry.{TocEntry}
use Rattle.nxt_model.specs.Values.{Value}
use Rattle.nxt_heap.specs.Lists.{Lists, bytes_at, IsAlive}
use Rattle.nxt_values.specs.Held.{value_at, values_among, Holds, HoldAll}
use Rattle.nxt_values.specs.declared.reading.Region.{Region}
use Rattle.nxt_values.specs.declared.reading.Region.TheVariants.{Static, Row}
use Rattle.nxt_values.specs.declared.reading.Place.{Place}

-- the static bytes, or those of a row's list
abbrev pub bytes_in : Lists → Region → List ℕ
bytes_in h Static = h.static_bytes
bytes_in h (Row row) = bytes_at h row

-- the row has a list
abbrev pub IsRegion : Lists → Region → Type 0
IsRegion h Static = Unit {0}
IsRegion h (Row row) = IsAlive h row

-- ---- what stands at a place

abbrev pub value_there : List TocEntry → Lists → Shape → Place → Value
value_there table h s p = value_at table h s p.entry (bytes_in h p.region) p.base

abbrev pub values_there : List TocEntry → Lists → Members → Place → List Value
values_there table h ss p = values_among table h ss p.entry (bytes_in h p.region) p.base

abbrev pub HoldsThere : List TocEntry → Lists → Shape → Place → Type 0
HoldsThere table h s p = Holds table h s p.entry (bytes_in h p.region) p.base

abbrev pub HoldAllThere : List TocEntry → Lists → Members → Place → Type 0
HoldAllThere table h ss p = HoldAll table h ss p.entry (bytes_in h p.region) p.base
