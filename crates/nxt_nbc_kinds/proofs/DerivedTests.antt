-- The derived tests of kinds are those of the definitions.
use Rattle.std.proofs.Common.{◌≡◌, ℕ, Bool, cond, not, ◌+◌, ◌&&◌, ◌||◌, List, [], ◌∷◌, map, refl, ap₂}
use Rattle.std.specs.Cmp.Lexicographic.{pointwise}
use Rattle.std.specs.List.{list_any, position_or_len}
use Rattle.nxt_nbc_kinds.specs.contracts.conversions.TypeKindPartialEq.TheImpl.{ghosts}
use Rattle.nxt_nbc_kinds.specs.declared.conversions.BaseKind.{BaseKind}
use Rattle.nxt_nbc_kinds.specs.declared.conversions.BaseKind.TheVariants.{Number, Struct}
use Rattle.nxt_nbc_kinds.specs.declared.conversions.TypeKind.{TypeKind}
use Rattle.nxt_nbc_kinds.specs.Kinds.{same_kind, same_members}

-- ---- kinds

abbrev of : BaseKind → ℕ → TypeKind
of b n = record { base = b; arrays = n }

pub kinds_tested : (k l : TypeKind) → ghosts.eq k l ≡ same_kind k l
kinds_tested k l = by k.base l.base
  where
    by : (a b : BaseKind) → ghosts.eq (of a k.arrays) (of b l.arrays) ≡ same_kind (of a k.arrays) (of b l.arrays)
    by Number Number = refl
    by Number (Struct b) = refl
    by (Struct a) Number = refl
    by (Struct a) (Struct b) = refl

pub members_tested : (ks ls : List TypeKind) → pointwise ghosts.eq ks ls ≡ same_members ks ls
members_tested [] [] = refl
members_tested [] (l ∷ ls) = refl
members_tested (k ∷ ks) [] = refl
members_tested (k ∷ ks) (l ∷ ls) = ap₂ (λ a b. a && b) (kinds_tested k l) (members_tested ks ls)

-- a test of items by what is seen of them
module _ {X Y : Type 0} (f : X → Y) (p : X → Bool) (q : Y → Bool) (same : (x : X) → p x ≡ q (f x)) where
  pub position_seen : (xs : List X) → position_or_len p xs ≡ position_or_len q (map f xs)
  position_seen [] = refl
  position_seen (x ∷ xs) = ap₂ (λ b n. cond (not b) (1 + n) 0) (same x) (position_seen xs)

  pub any_seen : (xs : List X) → list_any p xs ≡ list_any q (map f xs)
  any_seen [] = refl
  any_seen (x ∷ xs) = ap₂ (λ a b. a || b) (same x) (any_seen xs)
