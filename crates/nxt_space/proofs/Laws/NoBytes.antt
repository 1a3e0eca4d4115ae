-- A number takes no bytes of a list.
use Rattle.std.proofs.Common.{◌≡◌, ◌+◌, ◌*◌, refl, ap, arith}
use Rattle.std.specs.Prelude.{pos}
use Rattle.nxt_types.specs.Shapes.{Shape, Void, Number, Array, Cluster, Mutex, no_members, member}
use Rattle.nxt_model.specs.Values.{Num}
use Rattle.nxt_model.specs.Footprint.{list_bytes}
use Rattle.nxt_types.specs.Pool.{round4}

pub no_bytes : (s : Shape) → list_bytes s (Num (pos 0)) ≡ 0
no_bytes Void = refl
no_bytes (Number k) = refl
no_bytes (Array stride s) =
    let none : 0 * stride ≡ 0 = omega arith in
    ap (λ n. round4 n + 0) none
no_bytes (Cluster no_members) = refl
no_bytes (Cluster (member s ss)) = refl
no_bytes Mutex = refl
