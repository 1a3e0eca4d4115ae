-- How many lists stand in values, and how many bytes they take.
use Rattle.std.specs.Prelude.{◌^◌, ◌*◌, ◌<◌, List, ℤ}
use Rattle.nxt_types.specs.Shapes.{Shape, Members}
use Rattle.nxt_types.specs.declared.shape.TocEntry.{TocEntry}
use Rattle.nxt_model.specs.Values.{Value, Values, values, items, lists_in, lists_among}
use Rattle.nxt_model.specs.Footprint.{list_bytes, member_bytes}
use Rattle.nxt_heap.specs.Lists.{Lists}
use Rattle.nxt_values.specs.Regions.{value_there, values_there}
use Rattle.nxt_values.specs.Fills.{filled, all_filled}
use Rattle.nxt_values.specs.declared.reading.Place.{Place}
use Rattle.nxt_values.specs.declared.sizing.Size.{Size}

abbrev pub size_in : Shape → Value → Size
size_in s v = record { lists = lists_in v; bytes = list_bytes s v }

abbrev pub size_among : Members → Values → Size
size_among ss vs = record { lists = lists_among vs; bytes = member_bytes ss (items vs) }

-- far more than any memory holds
pub record IsCountable (size : Size) : Type 0 where
  pub lists : size.lists < 2 ^ 56
  pub bytes : size.bytes < 3 * 2 ^ 62

-- of the value that numbers begin with
abbrev pub size_of_filled : Shape → List ℤ → Size
size_of_filled s zs = size_in s (filled s zs).0

abbrev pub size_of_all_filled : Members → List ℤ → Size
size_of_all_filled ss zs = size_among ss (all_filled ss zs).0

-- of the value that stands at a place
abbrev pub size_there : List TocEntry → Lists → Shape → Place → Size
size_there table h s p = size_in s (value_there table h s p)

abbrev pub sizes_there : List TocEntry → Lists → Members → Place → Size
sizes_there table h ss p = size_among ss (values (values_there table h ss p))
