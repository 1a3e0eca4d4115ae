-- The struct at a position behind those before it.
use Rattle.std.proofs.Common.{◌≡◌, ℕ, zero, suc, ◌<◌, ◌≤◌, List, [], ◌∷◌, map, take, length, get_or, slice_index_or, refl, sym, ap, ◌∙◌, arith}
use Rattle.std.proofs.lemmas.List.{length-map}
use Rattle.std.proofs.lemmas.Simd.{map-map}
use Rattle.nxt_types.specs.Shapes.{Void, cluster_of}
use Rattle.nxt_operand_rules.specs.SeenOf.{seen_by}
use Rattle.nxt_operand_rules.specs.declared.seen.Seen.TheVariants as look
use Rattle.nxt_model.specs.Nbc.Types.{Struct, StructMember, type_shapes}
use Rattle.nxt_model.specs.TextProgram.{shape_by}
use Rattle.nxt_model.proofs.Laws.StructShapes.{struct_shape_at, struct_shape_past}
use Rattle.nxt_nbc_names.specs.MembersSeen.{member_seen}
use Rattle.nxt_nbc_names.specs.StructsSeen.{struct_seen, structs_seen}
use Rattle.nxt_nbc_names.specs.declared.members.Member.{Member as ProgramMember}
use Rattle.nxt_nbc_names.specs.declared.structs.Struct.{Struct as ProgramStruct}

-- a struct has its members' shapes by those of the structs before it
shape_at : (types : List Struct) (i : ℕ) (d : Struct) → i < length types
    → slice_index_or (type_shapes types) i Void ≡ cluster_of (map (λ m. shape_by (type_shapes (take i types)) m.type) (get_or types i d).members)
shape_at types i d under =
    struct_shape_at types i d under
    ∙ ap cluster_of (map-map (shape_by (type_shapes (take i types))) (λ (m : StructMember). m.type) (get_or types i d).members)

take_seen : (ss : List ProgramStruct) (i : ℕ) → take i (structs_seen ss) ≡ structs_seen (take i ss)
take_seen ss zero = refl
take_seen [] (suc i) = refl
take_seen (s ∷ ss) (suc i) = ap (λ more. struct_seen s ∷ more) (take_seen ss i)

get_seen : (ss : List ProgramStruct) (i : ℕ) (s : ProgramStruct) → get_or (structs_seen ss) i (struct_seen s) ≡ struct_seen (get_or ss i s)
get_seen [] i s = refl
get_seen (t ∷ ss) zero s = refl
get_seen (t ∷ ss) (suc i) s = get_seen ss i s

-- the same by what the program has
pub struct_at : (ss : List ProgramStruct) (i : ℕ) (s : ProgramStruct) (before : List ProgramStruct) (items : List ProgramMember) → i < length ss → s ≡ slice_index_or ss i s
    → before ≡ take i ss → map member_seen items ≡ s.members
    → slice_index_or (type_shapes (structs_seen ss)) i Void ≡ cluster_of (map (λ m. shape_by (type_shapes (structs_seen before)) m.shape) items)
struct_at ss i s before items under there is members =
    let shape = λ (m : StructMember). shape_by (type_shapes (structs_seen before)) m.type in
    let same = length-map ss struct_seen in
    let inside : i < length (structs_seen ss) = omega arith in
    shape_at (structs_seen ss) i (struct_seen s) inside
    ∙ ap (λ ds. cluster_of (map (λ (m : StructMember). shape_by (type_shapes ds) m.type) (get_or (structs_seen ss) i (struct_seen s)).members)) (take_seen ss i ∙ ap structs_seen (sym is))
    ∙ ap (λ (d : Struct). cluster_of (map shape d.members)) (get_seen ss i s ∙ ap struct_seen (sym there))
    ∙ ap (λ ms. cluster_of (map shape ms)) (sym members)
    ∙ ap cluster_of (map-map shape member_seen items)

-- where there is no struct, there is no shape
pub shape_past : (types : List Struct) (i : ℕ) → length types ≤ i → slice_index_or (type_shapes types) i Void ≡ Void
shape_past types i over = struct_shape_past types i over

-- ---- what is seen of a struct

pub seen_there : (ss : List ProgramStruct) (i : ℕ) → i < length ss → look.Cluster ≡ seen_by (slice_index_or (type_shapes (structs_seen ss)) i Void)
seen_there ss i under =
    let same = length-map ss struct_seen in
    let inside : i < length (structs_seen ss) = omega arith in
    sym (ap seen_by (shape_at (structs_seen ss) i (record { name = []; members = []; line = 0 }) inside))

pub seen_past : (ss : List ProgramStruct) (i : ℕ) → length ss ≤ i → look.Nothing ≡ seen_by (slice_index_or (type_shapes (structs_seen ss)) i Void)
seen_past ss i over =
    let same = length-map ss struct_seen in
    let outside : length (structs_seen ss) ≤ i = omega arith in
    sym (ap seen_by (struct_shape_past (structs_seen ss) i outside))
