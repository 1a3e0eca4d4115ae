-- The shapes of structs behind one another, and their measures.
use Rattle.std.proofs.Common.{◌≡◌, ℕ, zero, suc, ◌+◌, ◌<◌, ◌≤◌, List, [], ◌∷◌, ◌++◌, map, length, take, slice_index_or, refl, sym, ap, subst, ◌∙◌, append_assoc, append-nil, take_all, get_or-take, Bor, Option, Some, None, MatchOption, arith}
use Rattle.std.specs.Slice.{IsItemAt}
use Rattle.std.proofs.lemmas.Bool.Decides.{nat_tests}
use Rattle.std.proofs.lemmas.List.{get_or_past, length-map, map_more, map_push, take_more}
use Rattle.nxt_types.specs.Shapes.{Shape, Void, cluster_of, members}
use Rattle.nxt_types.specs.Names.{size, sizes}
use Rattle.nxt_model.specs.TextProgram.{shape_by, shapes_from, struct_shape, struct_shapes}
use Rattle.nxt_model.specs.declared.nbc.NbcStruct.{NbcStruct}
use Rattle.nxt_model.specs.declared.nbc.NbcType.{NbcType}
use Rattle.nxt_asm_parts.specs.Measures.{held, measure_of}
use Rattle.nxt_asm_parts.specs.Places.{first_shapes}
use Rattle.nxt_asm_parts.specs.MeasuresSeen.{AreMeasured, members_from, shapes_seen, struct_measure, struct_seen, structs_seen}
use Rattle.nxt_asm_parts.specs.declared.measure.Measure.{Measure}
use Rattle.nxt_asm_parts.specs.declared.measure.MemberMeasure.{MemberMeasure}
use Rattle.nxt_asm_parts.specs.declared.measure.StructMeasure.{StructMeasure}

-- the shapes of the structs behind those that are there
abbrev pub behind : List Shape → List NbcStruct → List Shape
behind before [] = []
behind before (s ∷ more) = struct_shape before s ∷ behind (before ++ struct_shape before s ∷ []) more

shapes_behind : (before : List Shape) (ss : List NbcStruct) → shapes_from before ss ≡ before ++ behind before ss
shapes_behind before [] = sym (append-nil before)
shapes_behind before (s ∷ more) =
    shapes_behind (before ++ struct_shape before s ∷ []) more
    ∙ append_assoc before (struct_shape before s ∷ []) (behind (before ++ struct_shape before s ∷ []) more)

length_behind : (before : List Shape) (ss : List NbcStruct) → length (behind before ss) ≡ length ss
length_behind before [] = refl
length_behind before (s ∷ more) = ap suc (length_behind (before ++ struct_shape before s ∷ []) more)

length_shapes : (structs : List NbcStruct) → length (struct_shapes structs) ≡ length structs
length_shapes structs = ap length (shapes_behind [] structs) ∙ length_behind [] structs

-- where there is no struct, there is no shape
pub no_struct : (structs : List NbcStruct) (i : ℕ) → length structs ≤ i → slice_index_or (struct_shapes structs) i Void ≡ Void
no_struct structs i over = get_or_past (struct_shapes structs) i Void (omega (arith, length_shapes structs))

pub missing_at : (ms : List StructMeasure) (i : ℕ) → length ms ≤ i → slice_index_or (shapes_seen ms) i Void ≡ Void
missing_at ms i over = no_struct (structs_seen ms) i (omega (arith, length-map ms struct_seen))

-- the first structs are all of them
pub all_first : (structs : List NbcStruct) → first_shapes (length structs) structs ≡ struct_shapes structs
all_first structs = take_all (length structs) (struct_shapes structs) (omega (arith, length_shapes structs))

struct_behind : (before : List Shape) (structs : List NbcStruct) (i : ℕ) (s : NbcStruct) → i < length structs → s ≡ slice_index_or structs i s
    → slice_index_or (behind before structs) i Void ≡ struct_shape (before ++ take i (behind before structs)) s
struct_behind before [] i s under there = absurd (omega arith)
struct_behind before (t ∷ more) zero s under there =
    ap (struct_shape before) (sym there) ∙ ap (λ b. struct_shape b s) (sym (append-nil before))
struct_behind before (t ∷ more) (suc i) s under there =
    let one : Shape = struct_shape before t in
    let rest : List Shape = behind (before ++ one ∷ []) more in
    struct_behind (before ++ one ∷ []) more i s (omega arith) there ∙ ap (λ b. struct_shape b s) (append_assoc before (one ∷ []) (take i rest))

-- the struct at a position, as it stands behind those before it
pub struct_at : (structs : List NbcStruct) (i : ℕ) (s : NbcStruct) → i < length structs → s ≡ slice_index_or structs i s
    → slice_index_or (struct_shapes structs) i Void ≡ struct_shape (first_shapes i structs) s
struct_at structs i s under there =
    subst (λ ss. slice_index_or ss i Void ≡ struct_shape (take i ss) s) (sym (shapes_behind [] structs)) (struct_behind [] structs i s under there)

-- what a look-up among the first structs finds
pub found_among : (structs : List NbcStruct) (first i : ℕ) (r : Option (Bor NbcStruct)) → i < first → IsItemAt structs i r
    → MatchOption r (slice_index_or (first_shapes first structs) i Void ≡ Void)
    (λ s. (i < first) × (slice_index_or (first_shapes first structs) i Void ≡ struct_shape (first_shapes i structs) s.now))
found_among structs first i None before told =
    let outside = told.0 in
    let over : length structs ≤ i = grind (arith, nat_tests) in
    get_or-take first (struct_shapes structs) i Void before ∙ no_struct structs i over
found_among structs first i (Some s) before told =
    let inside = told.0 in
    let under : i < length structs = grind (arith, nat_tests) in
    (before, get_or-take first (struct_shapes structs) i Void before ∙ struct_at structs i s.now under told.1)

-- ---- members

types_seen : (ss : List Shape) (n : ℕ) (ts : List NbcType) → map (λ (k : MemberMeasure). k.shape) (members_from ss n ts) ≡ ts
types_seen ss n [] = refl
types_seen ss n (t ∷ ts) = ap (λ l. t ∷ l) (types_seen ss (n + size (shape_by ss t)) ts)

seen_measure : (ss : List Shape) (s : NbcStruct) → struct_seen (struct_measure ss s) ≡ s
seen_measure ss s = let by : List NbcType → NbcStruct = λ ts. record { members = ts } in ap by (types_seen ss 1 s.members)

-- one member more
members_push : (ss : List Shape) (n : ℕ) (ts : List NbcType) (t : NbcType)
    → members_from ss n (ts ++ t ∷ []) ≡ members_from ss n ts ++ record { shape = t; before = held (n + sizes (members (map (shape_by ss) ts))) } ∷ []
members_push ss n [] t =
    let last : ℕ → List MemberMeasure = λ k. record { shape = t; before = held k } ∷ [] in
    let same : n ≡ n + 0 = omega arith in
    ap last same
members_push ss n (u ∷ ts) t =
    let next : ℕ = n + size (shape_by ss u) in
    let head : MemberMeasure = record { shape = u; before = held n } in
    let last : ℕ → List MemberMeasure = λ k. head ∷ members_from ss next ts ++ record { shape = t; before = held k } ∷ [] in
    let same : next + sizes (members (map (shape_by ss) ts)) ≡ n + sizes (members (map (shape_by ss) (u ∷ ts))) = omega arith in
    ap (λ l. head ∷ l) (members_push ss next ts t) ∙ ap last same

-- the same in a loop over the types
pub members_more : (ss : List Shape) (ts : List NbcType) (i : ℕ) (d : NbcType) (so_far next : List MemberMeasure) (whole : Measure) → i < length ts
    → so_far ≡ members_from ss 1 (take i ts) → whole ≡ measure_of (cluster_of (map (shape_by ss) (take i ts)))
    → next ≡ so_far ++ record { shape = slice_index_or ts i d; before = whole.entries } ∷ [] → next ≡ members_from ss 1 (take (i + 1) ts)
members_more ss ts i d so_far next whole under before measured pushed =
    let t : NbcType = slice_index_or ts i d in
    let inside : ℕ = sizes (members (map (shape_by ss) (take i ts))) in
    let last : ℕ → List MemberMeasure = λ n. members_from ss 1 (take i ts) ++ record { shape = t; before = n } ∷ [] in
    let turned : held (inside + 1) ≡ held (1 + inside) = omega arith in
    pushed
    ∙ ap (λ l. l ++ record { shape = t; before = whole.entries } ∷ []) before
    ∙ ap last (ap (λ m. m.entries) measured ∙ turned)
    ∙ sym (members_push ss 1 (take i ts) t)
    ∙ ap (members_from ss 1) (sym (take_more ts i d under))

-- the shapes of one member more
pub cluster_more : (ss : List Shape) (ts : List NbcType) (i : ℕ) (d : NbcType) (whole : Measure) → i < length ts
    → whole ≡ measure_of (cluster_of (map (shape_by ss) (take i ts) ++ shape_by ss (slice_index_or ts i d) ∷ []))
    → whole ≡ measure_of (cluster_of (map (shape_by ss) (take (i + 1) ts)))
cluster_more ss ts i d whole under is = is ∙ ap (λ l. measure_of (cluster_of l)) (sym (map_more (shape_by ss) ts i d under))

-- ---- measured

measured_push : (before : List Shape) (ms : List StructMeasure) (m : StructMeasure) → AreMeasured before ms
    → m ≡ struct_measure (shapes_from before (structs_seen ms)) (struct_seen m) → AreMeasured before (ms ++ m ∷ [])
measured_push before [] m all e = (e, tt)
measured_push before (t ∷ ms) m all e =
    (all.0, measured_push (before ++ struct_shape before (struct_seen t) ∷ []) ms m all.1 e)

-- one struct more
pub measured_more : (ms : List StructMeasure) (m : StructMeasure) (s : NbcStruct) → AreMeasured [] ms → m ≡ struct_measure (shapes_seen ms) s
    → AreMeasured [] (ms ++ m ∷ [])
measured_more ms m s all e =
    let seen : struct_seen m ≡ s = ap struct_seen e ∙ seen_measure (shapes_seen ms) s in
    measured_push [] ms m all (e ∙ ap (struct_measure (shapes_seen ms)) (sym seen))

-- a struct whose measure is m stands at position i of these shapes, behind some of them
abbrev pub IsBehind : List Shape → List Shape → ℕ → StructMeasure → Type 0
IsBehind first ss i m =
    (m ≡ struct_measure first (struct_seen m)) × (slice_index_or ss i Void ≡ struct_shape first (struct_seen m))

measured_at : (before : List Shape) (ms : List StructMeasure) (i : ℕ) (m : StructMeasure) → AreMeasured before ms → i < length ms → m ≡ slice_index_or ms i m
    → IsBehind (before ++ take i (behind before (structs_seen ms))) (behind before (structs_seen ms)) i m
measured_at before [] i m all under there = absurd (omega arith)
measured_at before (t ∷ ms) zero m all under there =
    let ss : List Shape = behind before (structs_seen (t ∷ ms)) in
    let here : IsBehind before ss 0 t = (all.0, refl) in
    subst (λ (x : StructMeasure). IsBehind (before ++ []) ss 0 x) (sym there) (subst (λ b. IsBehind b ss 0 t) (sym (append-nil before)) here)
measured_at before (t ∷ ms) (suc i) m all under there =
    let one : Shape = struct_shape before (struct_seen t) in
    let rest : List Shape = behind (before ++ one ∷ []) (structs_seen ms) in
    subst (λ b. IsBehind b rest i m) (append_assoc before (one ∷ []) (take i rest)) (measured_at (before ++ one ∷ []) ms i m all.1 (omega arith) there)

pub found_at : (ms : List StructMeasure) (i : ℕ) (m : StructMeasure) → AreMeasured [] ms → i < length ms → m ≡ slice_index_or ms i m
    → IsBehind (take i (shapes_seen ms)) (shapes_seen ms) i m
found_at ms i m all under there =
    subst (λ ss. IsBehind (take i ss) ss i m) (sym (shapes_behind [] (structs_seen ms))) (measured_at [] ms i m all under there)

-- a struct's measure, where the lists that it was made of are these
pub measured_next : (ms view : List StructMeasure) (s : NbcStruct) (types : List NbcType) (next : StructMeasure) → view ≡ ms → types ≡ s.members
    → next ≡ struct_measure (shapes_seen view) (record { members = types }) → next ≡ struct_measure (shapes_seen ms) s
measured_next ms view s types next same items is =
    let by : List NbcType → NbcStruct = λ ts. record { members = ts } in
    is ∙ ap (λ l. struct_measure (shapes_seen l) (by types)) same ∙ ap (λ ts. struct_measure (shapes_seen ms) (by ts)) items

pub seen_more : (structs : List NbcStruct) (i : ℕ) (s : NbcStruct) (ms after : List StructMeasure) (next : StructMeasure) → i < length structs
    → s ≡ slice_index_or structs i s → structs_seen ms ≡ take i structs → next ≡ struct_measure (shapes_seen ms) s → after ≡ ms ++ next ∷ []
    → structs_seen after ≡ take (i + 1) structs
seen_more structs i s ms after next under there before is pushed =
    let seen : struct_seen next ≡ s = ap struct_seen is ∙ seen_measure (shapes_seen ms) s in
    ap structs_seen pushed
    ∙ map_push struct_seen ms next
    ∙ ap (λ l. l ++ struct_seen next ∷ []) before
    ∙ ap (λ t. take i structs ++ t ∷ []) (seen ∙ there)
    ∙ sym (take_more structs i s under)
