-- The bytes of the lists in a value, in reading order.
use Rattle.std.specs.Prelude.{ℕ, ◌*◌, List, [], ◌∷◌, ◌++◌, flat_map, length}
use Rattle.nxt_types.specs.Pool.{round4}
use Rattle.nxt_types.specs.Shapes.{Shape, Void, Number, Array, Cluster, Mutex, Members, no_members, member}
use Rattle.nxt_model.specs.Values.{Value, elements}

-- each rounded up; a list stands before those in its elements
abbrev mutual
  pub lengths_in : Shape → Value → List ℕ
  lengths_in Void v = []
  lengths_in (Number k) v = []
  lengths_in (Array stride s) v = round4 (length (elements v) * stride) ∷ flat_map (lengths_in s) (elements v)
  lengths_in (Cluster ss) v = lengths_among ss (elements v)
  lengths_in Mutex v = []

  pub lengths_among : Members → List Value → List ℕ
  lengths_among no_members vs = []
  lengths_among (member s ss) [] = []
  lengths_among (member s ss) (v ∷ vs) = lengths_in s v ++ lengths_among ss vs
