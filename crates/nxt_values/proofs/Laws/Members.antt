-- The members of a cluster that are ahead, one by one.
use Rattle.std.proofs.Common.{ℕ, ◌≤◌, List, arith}
use Rattle.nxt_types.specs.Shapes.{Shape, Members, member}
use Rattle.nxt_types.specs.Names.{size, sizes}
use Rattle.nxt_types.specs.declared.shape.TocEntry.{TocEntry}
use Rattle.nxt_heap.specs.Lists.{Lists}
use Rattle.nxt_values.specs.Regions.{IsRegion, HoldAllThere}
use Rattle.nxt_values.specs.Ahead.{behind}
use Rattle.nxt_values.specs.declared.reading.Place.{Place}

-- they take no more than so many entries, and stand in the heap
pub record AreThere (table : List TocEntry) (h : Lists) (all : ℕ) (ss : Members) (p : Place) : Type 0 where
  pub less : sizes ss ≤ all
  pub region : IsRegion h p.region
  pub holds : HoldAllThere table h ss p

pub all_there : {table : List TocEntry} {h : Lists} {ss : Members} {p : Place} → IsRegion h p.region → HoldAllThere table h ss p → AreThere table h (sizes ss) ss p
all_there region holds = record { less = omega arith; region = region; holds = holds }

pub others_there : {table : List TocEntry} {h : Lists} {all : ℕ} {s : Shape} {ss : Members} {at : Place} → AreThere table h all (member s ss) at → AreThere table h all ss (behind at (size s))
others_there e = record { less = omega (arith, e.less); region = e.region; holds = e.holds.1 }
