-- The first leaf on each byte.
use Rattle.std.specs.Prelude.{◌≡◌, ℕ, ◌<◌, ◌≤◌, Bool, ◌&&◌, nat_lt, nat_le, min, ◌+◌, List, [], ◌∷◌, Option, Some, None}
use Rattle.std.specs.declared.cmp.Ordering.{Ordering}
use Rattle.std.specs.Ordering.{nat_cmp, ordering_then}
use Rattle.std.specs.Option.{option_cmp}
use Rattle.nxt_table.specs.declared.leaves.PlacedLeaf.{PlacedLeaf}
use Rattle.nxt_table.specs.Inside.LeafPasses.{leaf_end, same_array}

-- a byte outside of all elements, or of an array's element
abbrev pub Byte : Type 0
Byte = Option ℕ × ℕ

abbrev pub byte_cmp : Byte → Byte → Ordering
byte_cmp x y = ordering_then (option_cmp nat_cmp x.0 y.0) (nat_cmp x.1 y.1)

abbrev pub covers : Byte → PlacedLeaf → Bool
covers b l = same_array b.0 l.array && nat_le l.place b.1 && nat_lt b.1 (leaf_end l)

-- the byte is one of the first that the leaf covers, those before `end`
abbrev pub is_on : Byte → PlacedLeaf → ℕ → Bool
is_on b l end = same_array b.0 l.array && nat_le l.place b.1 && nat_lt b.1 end

-- the least of the owners of the bytes before `end` that the leaf covers
pub record LeastOwner (owner : Byte → Option ℕ) (l : PlacedLeaf) (end e : ℕ) : Type 0 where
  pub at : ℕ
  pub from : l.place ≤ at
  pub before : at < end
  pub owns : owner (l.array, at) ≡ Some e
  pub least : (x d : ℕ) → l.place ≤ x → x < end → owner (l.array, x) ≡ Some d → e ≤ d

abbrev pub IsLeastOwner : (Byte → Option ℕ) → PlacedLeaf → ℕ → Option ℕ → Type 0
IsLeastOwner owner l end None = (x : ℕ) → l.place ≤ x → x < end → owner (l.array, x) ≡ None
IsLeastOwner owner l end (Some e) = LeastOwner owner l end e

abbrev pub least_of : Option ℕ → Option ℕ → Option ℕ
least_of None b = b
least_of (Some a) None = Some a
least_of (Some a) (Some b) = Some (min a b)

-- the entries rise from leaf to leaf, the first is at least i
abbrev pub RisesFrom : ℕ → List PlacedLeaf → Type 0
RisesFrom i [] = Unit {0}
RisesFrom i (l ∷ ls) = (i ≤ l.entry) × RisesFrom (l.entry + 1) ls

abbrev pub AreRising : List PlacedLeaf → Type 0
AreRising ls = RisesFrom 0 ls
