-- Sums over shapes, of their members one after another.
use Rattle.std.proofs.Common.{◌≡◌, ◌+◌, List, [], ◌∷◌, refl, sym, ap, ◌∙◌}
use Rattle.std.specs.Prelude.{sum_by}
use Rattle.std.proofs.lemmas.List.Sums.{sum_by-cons}
use Rattle.nxt_types.specs.Shapes.{Shape, members, leaf_bytes, leaves_bytes}
use Rattle.nxt_types.specs.Names.{size, sizes}
use Rattle.nxt_model.specs.Assembled.{arrays_among, arrays_in}

pub sizes-members : (ss : List Shape) → sizes (members ss) ≡ sum_by size ss
sizes-members [] = refl
sizes-members (s ∷ ss) = ap (λ n. size s + n) (sizes-members ss) ∙ sym (sum_by-cons size s ss)

pub leaves_bytes-members : (ss : List Shape) → leaves_bytes (members ss) ≡ sum_by leaf_bytes ss
leaves_bytes-members [] = refl
leaves_bytes-members (s ∷ ss) = ap (λ n. leaf_bytes s + n) (leaves_bytes-members ss) ∙ sym (sum_by-cons leaf_bytes s ss)

pub arrays_among-members : (ss : List Shape) → arrays_among (members ss) ≡ sum_by arrays_in ss
arrays_among-members [] = refl
arrays_among-members (s ∷ ss) = ap (λ n. arrays_in s + n) (arrays_among-members ss) ∙ sym (sum_by-cons arrays_in s ss)
