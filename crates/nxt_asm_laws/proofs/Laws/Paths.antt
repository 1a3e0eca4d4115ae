-- The parts that names of members lead to have entries among those of the whole.
use Rattle.std.proofs.Common.{◌≡◌, ℕ, zero, suc, ◌+◌, ◌<◌, ◌≤◌, ◌==◌, Bool, true, false, List, [], ◌∷◌, map, take, length, get_or, position, bytes_eq, Option, Some, None, refl, sym, ap, subst, ◌∙◌, arith, eqb-true}
use Rattle.std.specs.Prelude.{if◌then◌else◌, ⊤, option_map, option_and_then, slice_get, slice_index_or, sum_by}
use Rattle.std.proofs.lemmas.List.{get_or-take, length-take-le}
use Rattle.std.proofs.lemmas.List.Sums.{sum_by-cons}
use Rattle.std.proofs.lemmas.Option.{get_or_from_slice_get, none-some, same_Some, slice_get-map, slice_get_within}
use Rattle.nxt_types.specs.Names.{size, sizes}
use Rattle.nxt_types.specs.Shapes.{Shape, Void, Cluster, members, shapes_of}
use Rattle.nxt_types.proofs.Laws.Shapes.{size_positive}
use Rattle.nxt_model.specs.Assembled.{entries_before}
use Rattle.nxt_model.specs.declared.nbc.NbcBase.{NbcBase}
use Rattle.nxt_model.specs.declared.nbc.NbcBase.TheVariants as bases
use Rattle.nxt_model.specs.declared.nbc.NbcType.{NbcType}
use Rattle.nxt_model.specs.Nbc.Types.{Struct, StructMember, Found, below, member_in, member_of_type, member_path, plain_struct, shape_in, struct_of_base, type_shapes}
use Rattle.nxt_model.specs.TextProgram.{arrays_of, base_shape, shape_by, struct_shape}
use Rattle.nxt_model.proofs.Laws.StructShapes.{struct_shape_at}
use Rattle.nxt_asm_laws.proofs.Laws.Lists.{Each, each_got}
use Rattle.nxt_asm_laws.proofs.Laws.Types.{AreOrdered, IsAmong, IsBaseAmong}

-- ---- members of clusters

-- a member's entries stand behind those of the members before it, among the cluster's
member_within : (ss : List Shape) (k : ℕ) (x : Shape) → slice_get ss k ≡ Some x → sum_by size (take k (shapes_of (members ss))) + size x ≤ sizes (members ss)
member_within [] k x e = absurd (none-some x e)
member_within (s ∷ ss) zero x e = let same : size s ≡ size x = ap size (same_Some s x e) in omega (arith, same)
member_within (s ∷ ss) (suc k) x e =
    let more = member_within ss k x e in
    let first = sum_by-cons size s (take k (shapes_of (members ss))) in
    omega (arith, more, first)

-- its shape is the part's
member_shape : (ss : List Shape) (k : ℕ) (x : Shape) → slice_get ss k ≡ Some x → slice_index_or (shapes_of (members ss)) k Void ≡ x
member_shape [] k x e = absurd (none-some x e)
member_shape (s ∷ ss) zero x e = same_Some s x e
member_shape (s ∷ ss) (suc k) x e = member_shape ss k x e

-- a part of a member is a part of the cluster
part_within : (ss : List Shape) (k : ℕ) (ks : List ℕ) (x : Shape) → slice_get ss k ≡ Some x → entries_before ks x < size x
    → entries_before (k ∷ ks) (Cluster (members ss)) < size (Cluster (members ss))
part_within ss k ks x e h =
    let at = ap (entries_before ks) (member_shape ss k x e) in
    let within = member_within ss k x e in
    omega (arith, at, within, h)

-- ---- structs

-- among the structs before a struct its members' types have the shapes that they have among all
take_take : (types : List Struct) (i j : ℕ) → i ≤ j → take i (take j types) ≡ take i types
take_take types zero j le = refl
take_take types (suc i) zero le = absurd (omega (arith, le))
take_take [] (suc i) (suc j) le = refl
take_take (s ∷ types) (suc i) (suc j) le = ap (λ more. s ∷ more) (take_take types i j (omega (arith, le)))

shape_before : (types : List Struct) (i j : ℕ) → i < j → j < length types → slice_index_or (type_shapes (take j types)) i Void ≡ slice_index_or (type_shapes types) i Void
shape_before types i j lt under =
    let d : Struct = record { name = []; members = []; line = 0 } in
    let count = length-take-le j types (omega (arith, under)) in
    struct_shape_at (take j types) i d (omega (arith, lt, count))
    ∙ ap (λ ss. struct_shape (type_shapes ss) (plain_struct (get_or (take j types) i d))) (take_take types i j (omega (arith, lt)))
    ∙ ap (λ s. struct_shape (type_shapes (take i types)) (plain_struct s)) (get_or-take j types i d lt)
    ∙ sym (struct_shape_at types i d (omega (arith, lt, under)))

base_before : (types : List Struct) (j : ℕ) (b : NbcBase) → j < length types → IsBaseAmong j b → base_shape (type_shapes (take j types)) b ≡ base_shape (type_shapes types) b
base_before types j (bases.Number k) under h = refl
base_before types j bases.Mutex under h = refl
base_before types j (bases.Struct i) under h = shape_before types i j h under

ordered_at : (n : ℕ) (types : List Struct) (j : ℕ) (s : Struct) → AreOrdered n types → slice_get types j ≡ Some s → Each (IsAmong (n + j)) s.members
ordered_at n [] j s h e = absurd (none-some s e)
ordered_at n (t ∷ types) zero s h e =
    let same : n ≡ n + 0 = omega arith in
    subst (λ (x : Struct). Each (IsAmong (n + 0)) x.members) (same_Some t s e) (subst (λ m. Each (IsAmong m) t.members) same h.0)
ordered_at n (t ∷ types) (suc j) s h e =
    let same : (n + 1) + j ≡ n + suc j = omega arith in
    subst (λ m. Each (IsAmong m) s.members) same (ordered_at (n + 1) types j s h.1 e)

-- a member that a type has: the struct's position, the struct and the member
pub record IsMember (types : List Struct) (t : NbcType) (m : ℕ × NbcType) : Type 0 where
  pub at : ℕ
  pub struct : Struct
  pub member : StructMember
  pub single : t.arrays ≡ 0
  pub base : t.base ≡ bases.Struct at
  pub there : slice_get types at ≡ Some struct
  pub held : slice_get struct.members m.0 ≡ Some member
  pub type : member.type ≡ m.1

-- a struct's member of a name, which has this position and type
abbrev MemberAt : Struct → ℕ × NbcType → Type 0
MemberAt s m = (x : StructMember) × (slice_get s.members m.0 ≡ Some x) × (x.type ≡ m.1)

in_struct : (s : Struct) (name : List ℕ) (m : ℕ × NbcType) → member_in name s ≡ Some m → MemberAt s m
in_struct s name m e = at (position (λ x. bytes_eq x.name name) s.members) e
  where
    there : (k : ℕ) (o : Option StructMember) → slice_get s.members k ≡ o → option_map (λ x. (k, x.type)) o ≡ Some m → MemberAt s m
    there k None is e = absurd (none-some m e)
    there k (Some x) is e = let same = same_Some (k, x.type) m e in subst (MemberAt s) same (x, is, refl)

    at : (o : Option ℕ) → option_and_then (λ k. option_map (λ x. (k, x.type)) (slice_get s.members k)) o ≡ Some m → MemberAt s m
    at None e = absurd (none-some m e)
    at (Some k) e = there k (slice_get s.members k) refl e

pub is_member : (types : List Struct) (t : NbcType) (name : List ℕ) (m : ℕ × NbcType) → member_of_type types t name ≡ Some m → IsMember types t m
is_member types t name m e = by (t.arrays == 0) refl e
  where
    found : (i : ℕ) (o : Option Struct) → t.arrays ≡ 0 → t.base ≡ bases.Struct i → slice_get types i ≡ o → option_and_then (member_in name) o ≡ Some m → IsMember types t m
    found i None single base there e = absurd (none-some m e)
    found i (Some s) single base there e =
        let held = in_struct s name m e in
        record { at = i; struct = s; member = held.0; single = single; base = base; there = there; held = held.1; type = held.2 }

    of : (b : NbcBase) → t.arrays ≡ 0 → t.base ≡ b → option_and_then (member_in name) (struct_of_base types b) ≡ Some m → IsMember types t m
    of (bases.Number k) single base e = absurd (none-some m e)
    of bases.Mutex single base e = absurd (none-some m e)
    of (bases.Struct i) single base e = found i (slice_get types i) single base refl e

    by : (c : Bool) → (t.arrays == 0) ≡ c → option_and_then (member_in name) (if c then struct_of_base types t.base else None) ≡ Some m → IsMember types t m
    by false is e = absurd (none-some m e)
    by true is e = of t.base (eqb-true t.arrays 0 is) refl e

-- the shapes of the members of a type that has one, of which it is the cluster
abbrev pub member_shapes : (types : List Struct) (t : NbcType) (m : ℕ × NbcType) → IsMember types t m → List Shape
member_shapes types t m h = map (shape_by (type_shapes (take h.at types))) (map (λ x. x.type) h.struct.members)

pub whole_shape : (types : List Struct) (t : NbcType) (m : ℕ × NbcType) (h : IsMember types t m) → Cluster (members (member_shapes types t m h)) ≡ shape_in types t
whole_shape types t m h =
    let under = slice_get_within types h.at h.struct h.there in
    sym
    (ap (λ n. arrays_of n (base_shape (type_shapes types) t.base)) h.single
    ∙ ap (base_shape (type_shapes types)) h.base
    ∙ struct_shape_at types h.at h.struct under
    ∙ ap (λ s. struct_shape (type_shapes (take h.at types)) (plain_struct s)) (get_or_from_slice_get types h.at h.struct h.struct h.there))

pub member_has : (types : List Struct) (t : NbcType) (m : ℕ × NbcType) (h : IsMember types t m) → AreOrdered 0 types
    → slice_get (member_shapes types t m h) m.0 ≡ Some (shape_in types m.1)
member_has types t m h ordered =
    let under = slice_get_within types h.at h.struct h.there in
    let shapes = type_shapes (take h.at types) in
    let among : IsBaseAmong h.at h.member.type.base =
    let zero_more : 0 + h.at ≡ h.at = omega arith in
    subst (λ n. IsBaseAmong n h.member.type.base) zero_more (each_got (IsAmong (0 + h.at)) h.struct.members m.0 h.member (ordered_at 0 types h.at h.struct ordered h.there) h.held) in
    slice_get-map (shape_by shapes) (map (λ x. x.type) h.struct.members) m.0
    ∙ ap (option_map (shape_by shapes)) (slice_get-map (λ (x : StructMember). x.type) h.struct.members m.0 ∙ ap (option_map (λ (x : StructMember). x.type)) h.held)
    ∙ ap (λ s. Some (arrays_of h.member.type.arrays s)) (base_before types h.at h.member.type.base under among)
    ∙ ap (λ x. Some (shape_in types x)) h.type

-- ---- paths

abbrev pub IsWithin : Shape → Option Found → Type 0
IsWithin s None = ⊤
IsWithin s (Some f) = entries_before f.0 s < size s

-- one step of a path after another
then_within : {A : Type 0} (s : Shape) (g : A → Option Found) (o : Option A) → ((x : A) → o ≡ Some x → IsWithin s (g x)) → IsWithin s (option_and_then g o)
then_within s g None h = tt
then_within s g (Some x) h = h x refl

below_within : (ss : List Shape) (k : ℕ) (x : Shape) (o : Option Found) → slice_get ss k ≡ Some x → IsWithin x o → IsWithin (Cluster (members ss)) (option_map (below k) o)
below_within ss k x None e h = tt
below_within ss k x (Some f) e h = part_within ss k f.0 x e h

-- where names of members lead from a type, its shape has a part
pub path_within : (types : List Struct) → AreOrdered 0 types → (t : NbcType) (ns : List (List ℕ)) → IsWithin (shape_in types t) (member_path types t ns)
path_within types ordered t [] = let some = size_positive (shape_in types t) in omega (arith, some)
path_within types ordered t (n ∷ ns) =
    then_within (shape_in types t) (λ m. option_map (below m.0) (member_path types m.1 ns)) (member_of_type types t n)
    (λ m e.
    let h = is_member types t n m e in
    subst (λ s. IsWithin s (option_map (below m.0) (member_path types m.1 ns))) (whole_shape types t m h)
    (below_within (member_shapes types t m h) m.0 (shape_in types m.1) (member_path types m.1 ns) (member_has types t m h ordered) (path_within types ordered m.1 ns)))
