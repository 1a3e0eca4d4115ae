-- The leaves of a shape by recursion, and what the rules say of each.
use Rattle.std.proofs.Common.{◌≡◌, ℕ, ◌+◌, ◌≤◌, ◌<◌, ◌%◌, Bool, true, false, ◌&&◌, ◌==◌, List, [], ◌∷◌, ◌++◌, length, slice_get, Option, Some, None}
use Rattle.nxt_types.specs.Shapes.{Shape, Void, Number, Array, Cluster, Mutex, Members, no_members, member}
use Rattle.nxt_types.specs.Names.{size}
use Rattle.nxt_types.specs.declared.shape.TocEntry.{TocEntry}
use Rattle.nxt_model.specs.Reading.{desc_of, row_count}
use Rattle.nxt_table.specs.Leaves.{Leaf, is_outside, end_of, extent}
use Rattle.nxt_layout.specs.Rows.{Ground, is_placed, is_strided, is_array, element_places, numbers_of, reached_through}
use Rattle.nxt_facts.proofs.Each.{Each}

-- ---- leaves

abbrev pub takes_default : Option TocEntry → Bool
takes_default None = false
takes_default (Some e) = e.flags % 2 == 0

abbrev pub leaf_in : List TocEntry → Shape → ℕ → List ℕ → Leaf
leaf_in table s i arrays =
    record {
      entry = i;
      place = desc_of (slice_get table i);
      shape = s;
      arrays = arrays;
      has_default = is_outside arrays && takes_default (slice_get table i);
    }

abbrev mutual
  pub leaves_in : List TocEntry → Shape → ℕ → List ℕ → List Leaf
  leaves_in table Void i arrays = []
  leaves_in table (Number k) i arrays = leaf_in table (Number k) i arrays ∷ []
  leaves_in table (Array n s) i arrays = leaf_in table (Array n s) i arrays ∷ leaves_in table s (i + 1) (i ∷ arrays)
  leaves_in table (Cluster ss) i arrays = leaves_among table ss (i + 1) arrays
  leaves_in table Mutex i arrays = leaf_in table Mutex i arrays ∷ []

  pub leaves_among : List TocEntry → Members → ℕ → List ℕ → List Leaf
  leaves_among table no_members i arrays = []
  leaves_among table (member s ss) i arrays =
      leaves_in table s i arrays ++ leaves_among table ss (i + size s) arrays

-- ---- fair leaves

-- where leaves end at most: outside, or in the element of the next array around
abbrev pub room : Ground → List ℕ → ℕ
room g [] = g.static_size
room g (a ∷ around) = extent g.leaves a

-- the rows that are reached through the leaf are in the table, are placed, and have strides that hold an element
pub record HasFairRows (g : Ground) (l : Leaf) : Type 0 where
  pub named : Each (λ r. r < row_count g.memory) (numbers_of g l)
  pub placed : Each (λ r. is_placed g r ≡ true) (reached_through g l)
  pub strided : Each (λ r. is_strided g l.entry (reached_through g l) r ≡ true) (reached_through g l)

pub record IsFair (g : Ground) (l : Leaf) : Type 0 where
  pub ends : end_of l ≤ room g l.arrays
  pub rows : is_array l.shape ≡ true → HasFairRows g l

abbrev pub AreFair : Ground → List Leaf → Type 0
AreFair g ls = Each (IsFair g) ls

-- each element ends in the bytes
abbrev pub HasRoom : Ground → List ℕ → Type 0
HasRoom g arrays = Each (λ base. base + room g arrays ≤ length g.memory.bytes) (element_places g arrays)
