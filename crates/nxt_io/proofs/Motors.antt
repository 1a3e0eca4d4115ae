-- One property of a port after another.
use Rattle.std.proofs.Common.{◌≡◌, ℕ, ◌<◌, List, [], ◌∷◌, length, ℤ, slice_set, slice_index_or, ap, ◌∙◌}
use Rattle.std.proofs.lemmas.List.{get_or-set_same, set-set}
use Rattle.nxt_model.specs.Devices.{with_property, with_properties}
use Rattle.nxt_io.specs.Taken.{counted}

again : (table : List (List ℤ)) (port : ℕ) (motor : List ℤ) (prop : ℕ) (z : ℤ) → port < length table
    → with_property (slice_set table port motor) port prop z ≡ slice_set table port (slice_set motor prop z)
again table port motor prop z h =
    ap (λ (m : List ℤ). slice_set (slice_set table port motor) port (slice_set m prop z)) (get_or-set_same table port motor [] h)
    ∙ set-set table port motor (slice_set motor prop z)

pub tacho_at : (table : List (List ℤ)) (port : ℕ) (speed count block rotation : ℤ) → port < length table
    → with_properties (with_properties table port 3 (speed ∷ count ∷ [])) port 13 (block ∷ rotation ∷ [])
    ≡ slice_set table port (counted speed count block rotation (slice_index_or table port []))
tacho_at table port speed count block rotation h =
    let motor = slice_index_or table port [] in
    ap (λ (t : List (List ℤ)). with_property (with_property t port 13 block) port 14 rotation) (again table port (slice_set motor 3 speed) 4 count h)
    ∙ ap (λ (t : List (List ℤ)). with_property t port 14 rotation) (again table port (slice_set (slice_set motor 3 speed) 4 count) 13 block h)
    ∙ again table port (slice_set (slice_set (slice_set motor 3 speed) 4 count) 13 block) 14 rotation h
