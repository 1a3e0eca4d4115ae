-- What is stored in a list of numbers that stand one behind another.
use Rattle.std.specs.Prelude.{◌≡◌, ℕ, ◌%◌, List, map, length}
use Rattle.nxt_types.specs.Arithmetic.{leaf_size}
use Rattle.nxt_types.specs.Shapes.{Number}
use Rattle.nxt_types.specs.declared.kind.Kind.{Kind}
use Rattle.nxt_model.specs.Values.{Value, elements, stored}
use Rattle.nxt_space.specs.Spots.{numbers_in_bytes}

-- the numbers of a kind that stand in bytes are what is left of these values in a list of that kind
pub record AreStored (k : Kind) (bytes : List ℕ) (vs : List Value) : Type 0 where
  pub whole : length bytes % leaf_size k ≡ 0
  pub are : elements (numbers_in_bytes k bytes) ≡ map (stored (Number k)) vs
