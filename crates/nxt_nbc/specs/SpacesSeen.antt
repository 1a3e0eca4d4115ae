-- What the program tells of names.
use Rattle.std.specs.Prelude.{◌≡◌, ℕ, ◌^◌, ◌-◌, min, Option}
use Rattle.nxt_nbc.specs.declared.spaces.Declarations.{Declarations}

-- the line, and the count as far as it goes
pub record Tells (d : Declarations) (twice : Option ℕ) (count : ℕ) : Type 0 where
  pub line : d.twice ≡ twice
  pub held : d.count ≡ min count (2 ^ 64 - 1)
