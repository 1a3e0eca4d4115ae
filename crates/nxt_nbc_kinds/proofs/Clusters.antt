-- The clusters of system calls by their members.
use Rattle.std.proofs.Common.{◌≡◌, ◌≢◌, suc, ◌<◌, ◌≤◌, Bool, true, false, ◌&&◌, List, [], ◌∷◌, map, length, refl, ap, arith}
use Rattle.nxt_types.specs.Shapes.{Shape, members, cluster_of}
use Rattle.nxt_types.specs.Calls.{is_place, is_field, are_fields}
use Rattle.nxt_types.specs.declared.calls.Field.{Field}

-- ---- places

module _ {X : Type 0} (shape : X → Shape) where
  pub few_no_place : (xs : List X) → length xs < 2 → false ≡ is_place (cluster_of (map shape xs))
  few_no_place [] below = refl
  few_no_place (x ∷ []) below = refl
  few_no_place (x ∷ y ∷ xs) below = absurd (omega arith)

  pub many_no_place : (xs : List X) → 3 ≤ length xs → false ≡ is_place (cluster_of (map shape xs))
  many_no_place [] least = absurd (omega arith)
  many_no_place (x ∷ []) least = absurd (omega arith)
  many_no_place (x ∷ y ∷ []) least = absurd (omega arith)
  many_no_place (x ∷ y ∷ z ∷ xs) least = refl

  -- ---- clusters

  pub other_count : (fs : List Field) (xs : List X) → length fs ≢ length xs → false ≡ are_fields fs (members (map shape xs))
  other_count [] [] h = absurd (h refl)
  other_count [] (x ∷ xs) h = refl
  other_count (f ∷ fs) [] h = refl
  other_count (f ∷ fs) (x ∷ xs) h = both_false (is_field f (shape x)) (are_fields fs (members (map shape xs))) (other_count fs xs (λ e. h (ap suc e)))
    where
      both_false : (b c : Bool) → false ≡ c → false ≡ (b && c)
      both_false true c e = e
      both_false false c e = refl
