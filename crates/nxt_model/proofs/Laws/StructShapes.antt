-- The shapes of structs, with one struct more and at a position.
use Rattle.std.proofs.Common.{◌≡◌, ℕ, zero, suc, ◌<◌, ◌≤◌, List, [], ◌∷◌, ◌++◌, map, take, length, get_or, refl, sym, ap, subst, ◌∙◌, arith, inl, inr}
use Rattle.std.specs.Prelude.{slice_index_or}
use Rattle.std.proofs.lemmas.Bool.{cases_lt}
use Rattle.std.proofs.lemmas.List.{append-nil, append_assoc, map-append}
use Rattle.nxt_types.specs.Shapes.{Shape, Void, Cluster, Members}
use Rattle.nxt_model.specs.declared.nbc.NbcStruct.{NbcStruct}
use Rattle.nxt_model.specs.TextProgram.{shapes_from, struct_shape, struct_shapes}
use Rattle.nxt_model.specs.Nbc.Types.{Struct, plain_struct, type_shapes}

-- ---- one struct more

pub shapes_push : (ss : List Shape) (structs : List NbcStruct) (s : NbcStruct)
    → shapes_from ss (structs ++ s ∷ []) ≡ shapes_from ss structs ++ struct_shape (shapes_from ss structs) s ∷ []
shapes_push ss [] s = refl
shapes_push ss (t ∷ more) s = shapes_push (ss ++ struct_shape ss t ∷ []) more s

pub type_shapes_push : (types : List Struct) (s : Struct) → type_shapes (types ++ s ∷ []) ≡ type_shapes types ++ struct_shape (type_shapes types) (plain_struct s) ∷ []
type_shapes_push types s = ap struct_shapes (map-append plain_struct types (s ∷ [])) ∙ shapes_push [] (map plain_struct types) (plain_struct s)

-- ---- at a position

-- the shapes of structs behind those that have these shapes
abbrev pub shapes_behind : List Shape → List Struct → List Shape
shapes_behind ss [] = []
shapes_behind ss (s ∷ more) = let here = struct_shape ss (plain_struct s) in here ∷ shapes_behind (ss ++ here ∷ []) more

pub shapes_split : (ss : List Shape) (types : List Struct) → shapes_from ss (map plain_struct types) ≡ ss ++ shapes_behind ss types
shapes_split ss [] = sym (append-nil ss)
shapes_split ss (s ∷ more) =
    let here = struct_shape ss (plain_struct s) in
    shapes_split (ss ++ here ∷ []) more ∙ append_assoc ss (here ∷ []) (shapes_behind (ss ++ here ∷ []) more)

behind_at : (ss : List Shape) (types : List Struct) (i : ℕ) (d : Struct) → i < length types
    → slice_index_or (shapes_behind ss types) i Void ≡ struct_shape (shapes_from ss (map plain_struct (take i types))) (plain_struct (get_or types i d))
behind_at ss [] i d under = absurd (omega (arith, under))
behind_at ss (s ∷ more) zero d under = refl
behind_at ss (s ∷ more) (suc i) d under = behind_at (ss ++ struct_shape ss (plain_struct s) ∷ []) more i d (omega (arith, under))

behind_past : (ss : List Shape) (types : List Struct) (i : ℕ) → length types ≤ i → slice_index_or (shapes_behind ss types) i Void ≡ Void
behind_past ss [] i over = refl
behind_past ss (s ∷ more) zero over = absurd (omega (arith, over))
behind_past ss (s ∷ more) (suc i) over = behind_past (ss ++ struct_shape ss (plain_struct s) ∷ []) more i (omega (arith, over))

-- a struct has its members' shapes by those of the structs before it
pub struct_shape_at : (types : List Struct) (i : ℕ) (d : Struct) → i < length types
    → slice_index_or (type_shapes types) i Void ≡ struct_shape (type_shapes (take i types)) (plain_struct (get_or types i d))
struct_shape_at types i d under = ap (λ ss. slice_index_or ss i Void) (shapes_split [] types) ∙ behind_at [] types i d under

-- where there is no struct, there is no shape
pub struct_shape_past : (types : List Struct) (i : ℕ) → length types ≤ i → slice_index_or (type_shapes types) i Void ≡ Void
struct_shape_past types i over = ap (λ ss. slice_index_or ss i Void) (shapes_split [] types) ∙ behind_past [] types i over

-- what holds of clusters and of the void holds at each position
pub at_struct : (P : Shape → Type 0) → P Void → ((ms : Members) → P (Cluster ms)) → (types : List Struct) (i : ℕ) → P (slice_index_or (type_shapes types) i Void)
at_struct P void cluster types i =
    elim (cases_lt i (length types)) [
      | inl under ↦ subst P (sym (struct_shape_at types i (record { name = []; members = []; line = 0 }) under)) (cluster _)
      | inr over ↦ subst P (sym (struct_shape_past types i over)) void
    ]
