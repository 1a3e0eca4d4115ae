-- Clusters of numbers.
use Rattle.std.specs.Prelude.{◌≡◌, ℕ, true, length}
use Rattle.std.specs.List.{list_all}
use Rattle.nxt_types.specs.Shapes.{Shape, Cluster, Members, is_number, shapes_of}

-- a cluster's shape with so many members, all of which are numbers
pub record HasNumbers (s : Shape) (n : ℕ) : Type 0 where
  pub members : Members
  pub shape : s ≡ Cluster members
  pub numbers : list_all is_number (shapes_of members) ≡ true
  pub many : n ≡ length (shapes_of members)
