-- Tests of shapes by their parts.
use Rattle.std.proofs.Common.{◌≡◌, ◌≢◌, suc, ◌<◌, ◌≤◌, Bool, true, false, ◌&&◌, List, [], ◌∷◌, length, refl, ap, arith}
use Rattle.nxt_types.specs.Shapes.{Shape, members, cluster_of}
use Rattle.nxt_types.specs.Calls.{is_place, is_field, are_fields}
use Rattle.nxt_types.specs.declared.calls.Field.{Field}

both_false : (b c : Bool) → false ≡ c → false ≡ (b && c)
both_false true c e = e
both_false false c e = refl

pub other_count : (fs : List Field) (ss : List Shape) → length fs ≢ length ss → false ≡ are_fields fs (members ss)
other_count [] [] h = absurd (h refl)
other_count [] (s ∷ ss) h = refl
other_count (f ∷ fs) [] h = refl
other_count (f ∷ fs) (s ∷ ss) h = both_false (is_field f s) (are_fields fs (members ss)) (other_count fs ss (λ e. h (ap suc e)))

pub few_no_place : (ss : List Shape) → length ss < 2 → false ≡ is_place (cluster_of ss)
few_no_place [] h = refl
few_no_place (s ∷ []) h = refl
few_no_place (s ∷ t ∷ ss) h = absurd (omega (arith, h))

pub many_no_place : (ss : List Shape) → 3 ≤ length ss → false ≡ is_place (cluster_of ss)
many_no_place [] h = refl
many_no_place (s ∷ []) h = refl
many_no_place (s ∷ t ∷ []) h = absurd (omega (arith, h))
many_no_place (s ∷ t ∷ u ∷ ss) h = refl
