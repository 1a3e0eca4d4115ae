-- Shapes with strides that are given.
use Rattle.std.specs.Prelude.{ℕ, ◌+◌}
use Rattle.nxt_types.specs.Shapes.{Shape, Void, Number, Array, Cluster, Mutex, Members, no_members, member}
use Rattle.nxt_types.specs.Names.{size}

-- a shape, of which the first entry is entry i, with the strides that f gives for its entries
abbrev mutual
  pub with_strides : (ℕ → ℕ) → ℕ → Shape → Shape
  with_strides f i Void = Void
  with_strides f i (Number k) = Number k
  with_strides f i (Array n s) = Array (f i) (with_strides f (i + 1) s)
  with_strides f i (Cluster ss) = Cluster (all_with_strides f (i + 1) ss)
  with_strides f i Mutex = Mutex

  pub all_with_strides : (ℕ → ℕ) → ℕ → Members → Members
  all_with_strides f i no_members = no_members
  all_with_strides f i (member s ss) = member (with_strides f i s) (all_with_strides f (i + size s) ss)
