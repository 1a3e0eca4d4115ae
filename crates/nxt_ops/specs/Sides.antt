-- Values that operators read in place.
use Rattle.std.specs.Prelude.{ℕ}
use Rattle.nxt_space.specs.Spots.{IsSpot, IsListSpot}
use Rattle.nxt_space.specs.Variables.{Variables}
use Rattle.nxt_ops.specs.declared.in_place.Side.{Side}
use Rattle.nxt_ops.specs.declared.in_place.Side.TheVariants as sides

-- what begins at the entry is a number, or a list of numbers that stand one behind another
abbrev pub IsSide : Variables → ℕ → Side → Type 0
IsSide s i (sides.Number spot) = IsSpot s i spot
IsSide s i (sides.List list) = IsListSpot s i list
