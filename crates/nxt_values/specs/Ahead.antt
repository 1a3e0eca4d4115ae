-- The members of a cluster that are still ahead.
use Rattle.std.specs.Prelude.{◌≡◌, ℕ, ◌+◌, ◌<◌, ◌^◌, map}
use Rattle.nxt_types.specs.Shapes.{Shape, Members, member, members, tree}
use Rattle.nxt_types.specs.Names.{size}
use Rattle.nxt_values.specs.declared.reading.Place.{Place}
use Rattle.nxt_values.specs.declared.members.Members as cursor

-- their shapes
abbrev pub ahead : cursor.Members → Members
ahead m = members (map tree m.shapes.now)

-- the place so many entries behind
abbrev pub behind : Place → ℕ → Place
behind p n = record { region = p.region; entry = p.entry + n; base = p.base }

-- the first has this shape and stands there, the numbers of its entries have 16 bits, and the others are these
pub record IsNext (old : cursor.Members) (s : Shape) (at : Place) (new : cursor.Members) : Type 0 where
  pub shapes : ahead old ≡ member s (ahead new)
  pub here : at ≡ old.first
  pub others : new.first ≡ behind at (size s)
  pub entries : at.entry + size s < 2 ^ 16
