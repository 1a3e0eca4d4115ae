-- A table of entries with the shapes of its variables.
use Rattle.std.specs.Prelude.{ℕ, zero, suc, ◌-◌, List, [], ◌∷◌, ◌++◌, map, replicate, Option, Some, None, option_map}
use Rattle.nxt_types.specs.Shapes.{Shape, Void, Number, Array, Cluster, Mutex, Members, no_members, member, tree}
use Rattle.nxt_types.specs.Names.{size}
use Rattle.nxt_types.specs.declared.shape.TocEntry.{TocEntry}
use Rattle.nxt_types.specs.declared.shape.Shape as seen

-- its entries, and its variables
pub record Table : Type 0 where
  pub entries : List TocEntry
  pub shapes : Members

-- the shape at each entry that spells one, and nothing at those in an array's element
abbrev mutual
  pub outside_of : Shape → List (Option Shape)
  outside_of Void = Some Void ∷ []
  outside_of (Number k) = Some (Number k) ∷ []
  outside_of (Array stride s) = Some (Array stride s) ∷ replicate (size s) None
  outside_of (Cluster ss) = Some (Cluster ss) ∷ outside_among ss
  outside_of Mutex = Some Mutex ∷ []

  pub outside_among : Members → List (Option Shape)
  outside_among no_members = []
  outside_among (member s ss) = outside_of s ++ outside_among ss

abbrev pub trees_of : List (Option seen.Shape) → List (Option Shape)
trees_of shapes = map (option_map tree) shapes

-- the variables among the shapes at all entries, of which the first n belong to the variable before
abbrev pub variables_behind : ℕ → List (Option Shape) → Members
variables_behind n [] = no_members
variables_behind zero (None ∷ more) = no_members
variables_behind zero (Some s ∷ more) = member s (variables_behind (size s - 1) more)
variables_behind (suc n) (s ∷ more) = variables_behind n more

abbrev pub variables_of : List (Option seen.Shape) → Members
variables_of shapes = variables_behind 0 (trees_of shapes)
