-- What the table tells of the shape that begins at an entry.
use Rattle.std.proofs.Common.{◌≡◌, false, Option, Some, None, refl}
use Rattle.std.specs.Prelude.{option_map}
use Rattle.nxt_types.specs.Names.{Name}
use Rattle.nxt_types.specs.Shapes.{Shape, Void, Number, Array, Cluster, Mutex, convertible}
use Rattle.nxt_space.specs.Variables.{shape_by}

pub told : (o : Option Name) (s : Shape) → Some s ≡ option_map (λ n. n.shape) o → shape_by o ≡ s
told None s e = let f : ⊥ = cc in absurd f
told (Some n) s e = cc

pub untold : (o : Option Name) → None ≡ option_map {U = Shape} (λ n. n.shape) o → shape_by o ≡ Void
untold None e = refl
untold (Some n) e = let f : ⊥ = cc in absurd f

-- nothing converts to a void
pub no_void : (s : Shape) → false ≡ convertible s Void
no_void Void = refl
no_void (Number k) = refl
no_void (Array n s) = refl
no_void (Cluster ss) = refl
no_void Mutex = refl
