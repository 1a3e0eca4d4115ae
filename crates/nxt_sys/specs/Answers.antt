-- What a call stores in the members of its cluster.
use Rattle.std.specs.Prelude.{ℕ, List, [], ◌∷◌}
use Rattle.nxt_model.specs.SystemCalls.{field_shape, fields}
use Rattle.nxt_model.specs.Values.{Value, stored}
use Rattle.nxt_model.specs.Variables.{Absent, put, put_all}
use Rattle.nxt_space.specs.Variables.{Variables, shape_of}
use Rattle.nxt_operands.specs.Operands.{place_of}

-- the values of the variables with others for members of the cluster
abbrev pub with_members : Variables → ℕ → List (ℕ × Value) → Value
with_members s cluster vs = put_all (Absent ∷ place_of s cluster ∷ []) (fields (shape_of s cluster) vs) s.values

-- the variables with another value for member k
abbrev pub with_member : Variables → ℕ → ℕ → Value → Variables
with_member s cluster k v = record s { values = put (place_of s cluster) (k ∷ []) (stored (field_shape k (shape_of s cluster)) v) s.values }
