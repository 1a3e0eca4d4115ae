-- Where the members of a call's cluster stand.
use Rattle.std.specs.Prelude.{◌≡◌, ℕ, true, ◌∷◌, [], ◌++◌, slice_get, Some, option_map, IsSome}
use Rattle.nxt_types.specs.Calls.{cluster_fields, is_cluster_of, is_field}
use Rattle.nxt_types.specs.Names.{Name}
use Rattle.nxt_types.specs.declared.calls.Call.{Call}
use Rattle.nxt_types.specs.declared.calls.Field.{Field}
use Rattle.nxt_types.specs.declared.calls.Field.TheVariants.{Number, Text, Place}
use Rattle.nxt_model.specs.SystemCalls.{field_shape}
use Rattle.nxt_space.specs.Variables.{Variables, AreSound, name_of, shape_of}

-- how many entries a member takes
abbrev pub width : Field → ℕ
width Number = 1
width Text = 2
width Place = 3

-- the variables are sound, and at the entry begins the cluster of a call
pub record HasCluster (s : Variables) (call : Call) (cluster : ℕ) : Type 0 where
  pub sound : AreSound s
  pub named : IsSome (name_of s cluster)
  pub shape : is_cluster_of call (shape_of s cluster) ≡ true

-- and member k of that cluster is such a field
pub record HasField (s : Variables) (call : Call) (cluster k : ℕ) (f : Field) : Type 0 where
  pub group : HasCluster s call cluster
  pub field : slice_get (cluster_fields call) k ≡ Some f

-- the name of member k of a cluster
abbrev pub member_name : ℕ → Name → Name
member_name k n = record { path = n.path ++ k ∷ []; shape = field_shape k n.shape }

-- that member begins at the entry
pub record IsMember (s : Variables) (cluster k : ℕ) (f : Field) (i : ℕ) : Type 0 where
  pub name : name_of s i ≡ option_map (member_name k) (name_of s cluster)
  pub shape : is_field f (shape_of s i) ≡ true
