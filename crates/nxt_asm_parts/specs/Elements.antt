-- The elements of arrays, and those that are too large.
use Rattle.std.specs.Prelude.{ℕ, nat_lt, List, [], ◌∷◌, ◌++◌, find, Option, option_map}
use Rattle.nxt_types.specs.Shapes.{Shape, Void, Number, Array, Cluster, Mutex, Members, no_members, member, leaf_bytes}
use Rattle.nxt_asm_parts.specs.Measures.{held}

-- the bytes of arrays' elements, in the table's order
abbrev mutual
  pub elements_in : Shape → List ℕ
  elements_in Void = []
  elements_in (Number k) = []
  elements_in (Array n s) = leaf_bytes s ∷ elements_in s
  elements_in (Cluster ss) = elements_among ss
  elements_in Mutex = []

  pub elements_among : Members → List ℕ
  elements_among no_members = []
  elements_among (member s ss) = elements_in s ++ elements_among ss

-- the most bytes that an element may take
abbrev pub most_element : ℕ
most_element = 32768

-- the first of some elements that takes more
abbrev pub first_large : List ℕ → Option ℕ
first_large ns = find (λ n. nat_lt most_element n) ns

-- the first of a shape's elements that does
abbrev pub large_in : Shape → Option ℕ
large_in s = option_map held (first_large (elements_in s))
