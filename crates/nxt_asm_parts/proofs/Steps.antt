-- Steps to members.
use Rattle.std.proofs.Common.{◌≡◌, ℕ, ℤ, zero, suc, ◌+◌, ◌<◌, ◌≤◌, List, [], ◌∷◌, map, length, take, drop, nat_abs, slice_index_or, sum_by, refl, sym, ap, subst, ◌∙◌, length-take, take_all, drop_of_length-le, arith}
use Rattle.std.proofs.lemmas.List.{get_or_past, length-map}
use Rattle.std.proofs.lemmas.List.Sums.{sum_by-cons}
use Rattle.nxt_types.specs.Shapes.{Shape, Void, Mutex, cluster_of, members, shapes_of}
use Rattle.nxt_types.specs.Names.{size, sizes}
use Rattle.nxt_model.specs.Assembled.{entries_before}
use Rattle.nxt_model.specs.TextProgram.{arrays_of, shape_by}
use Rattle.nxt_model.specs.declared.nbc.NbcStruct.{NbcStruct}
use Rattle.nxt_model.specs.declared.nbc.NbcType.{NbcType}
use Rattle.nxt_asm_parts.specs.Measures.{held}
use Rattle.nxt_asm_parts.specs.MeasuresSeen.{IsStep, members_from, struct_measure}
use Rattle.nxt_asm_parts.specs.declared.measure.MemberMeasure.{MemberMeasure}
use Rattle.nxt_asm_parts.specs.declared.measure.StructMeasure.{StructMeasure}

-- ---- nowhere

pub mutex_entries : (ks : List ℕ) → entries_before ks Mutex ≡ entries_before ks Void
mutex_entries [] = refl
mutex_entries (k ∷ ks) = refl

array_entries : (n : ℕ) (ks : List ℕ) → entries_before ks (arrays_of n Void) ≡ entries_before ks Void
array_entries n [] = refl
array_entries zero (k ∷ ks) = refl
array_entries (suc n) (k ∷ ks) = refl

-- a struct behind the first ones is none of them
pub past_first : (ss : List Shape) (first i n : ℕ) (ks : List ℕ) → first ≤ i
    → entries_before ks (arrays_of n (slice_index_or (take first ss) i Void)) ≡ entries_before ks Void
past_first ss first i n ks over =
    let short : length (take first ss) ≤ i = omega (arith, length-take first ss) in
    ap (λ s. entries_before ks (arrays_of n s)) (get_or_past (take first ss) i Void short) ∙ array_entries n ks

one_entry : (k : ℕ) → 1 ≡ held (1 + sum_by size (take k []))
one_entry zero = refl
one_entry (suc k) = refl

pub step_to_nothing : (ss : List Shape) (k : ℕ) (s : Shape) (m : MemberMeasure) → Void ≡ s → m.before ≡ 1
    → ((ks : List ℕ) → entries_before ks (shape_by ss m.shape) ≡ entries_before ks Void) → IsStep ss k s m
step_to_nothing ss k s m none one rest =
    let here : IsStep ss k Void m = record { before = one ∙ one_entry k; rest = rest } in
    subst (λ t. IsStep ss k t m) none here

-- ---- into a struct

listed : (ss : List Shape) → shapes_of (members ss) ≡ ss
listed [] = refl
listed (s ∷ ss) = ap (λ l. s ∷ l) (listed ss)

sizes_sum : (ss : List Shape) → sizes (members ss) ≡ sum_by size ss
sizes_sum [] = refl
sizes_sum (s ∷ ss) = ap (λ n. size s + n) (sizes_sum ss) ∙ sym (sum_by-cons size s ss)

length_members : (ss : List Shape) (n : ℕ) (ts : List NbcType) → length (members_from ss n ts) ≡ length ts
length_members ss n [] = refl
length_members ss n (t ∷ ts) = ap suc (length_members ss (n + size (shape_by ss t)) ts)

member_at : (ss : List Shape) (n : ℕ) (ts : List NbcType) (k : ℕ) (m : MemberMeasure) → k < length (members_from ss n ts) → m ≡ slice_index_or (members_from ss n ts) k m
    → (m.before ≡ held (n + sum_by size (take k (map (shape_by ss) ts)))) × (slice_index_or (map (shape_by ss) ts) k Void ≡ shape_by ss m.shape)
member_at ss n [] k m under there = absurd (omega arith)
member_at ss n (t ∷ ts) zero m under there =
    let same : n ≡ n + 0 = omega arith in
    (ap (λ k. k.before) there ∙ ap held same, sym (ap (λ k. shape_by ss k.shape) there))
member_at ss n (t ∷ ts) (suc k) m under there =
    let one : ℕ = size (shape_by ss t) in
    let rest : List Shape = take k (map (shape_by ss) ts) in
    let told = member_at ss (n + one) ts k m (omega arith) there in
    let same : n + one + sum_by size rest ≡ n + sum_by size (shape_by ss t ∷ rest) = omega (arith, sum_by-cons size (shape_by ss t) rest) in
    (told.0 ∙ ap held same, told.1)

pub step_to_member : (ss first : List Shape) (s : NbcStruct) (k : ℕ) (found : StructMeasure) (ms : List MemberMeasure) (m r : MemberMeasure)
    → found ≡ struct_measure first s → ms ≡ found.members → k < length ms → m ≡ slice_index_or ms k m → r.before ≡ m.before
    → ((ks : List ℕ) → entries_before ks (shape_by ss r.shape) ≡ entries_before ks (shape_by first m.shape))
    → IsStep ss k (cluster_of (map (shape_by first) s.members)) r
step_to_member ss first s k found ms m r is items under there before rest =
    let all : ms ≡ members_from first 1 s.members = items ∙ ap (λ m. m.members) is in
    let shapes : List Shape = map (shape_by first) s.members in
    let told =
    member_at first 1 s.members k m (subst (λ (l : List MemberMeasure). k < length l) all under)
    (subst (λ (l : List MemberMeasure). m ≡ slice_index_or l k m) all there) in
    record {
      before = before ∙ told.0 ∙ ap (λ l. held (1 + sum_by size (take k l))) (sym (listed shapes));
      rest =
          λ ks. rest ks ∙ ap (entries_before ks) (sym told.1 ∙ ap (λ l. slice_index_or l k Void) (sym (listed shapes)));
    }

pub step_past : (ss first : List Shape) (s : NbcStruct) (k : ℕ) (found : StructMeasure) (ms : List MemberMeasure) (r : MemberMeasure)
    → found ≡ struct_measure first s → ms ≡ found.members → length ms ≤ k → r.before ≡ found.whole.entries
    → ((ks : List ℕ) → entries_before ks (shape_by ss r.shape) ≡ entries_before ks Void)
    → IsStep ss k (cluster_of (map (shape_by first) s.members)) r
step_past ss first s k found ms r is items over before rest =
    let shapes : List Shape = map (shape_by first) s.members in
    let all : length ms ≡ length s.members = ap length (items ∙ ap (λ m. m.members) is) ∙ length_members first 1 s.members in
    let same : length shapes ≡ length s.members = length-map s.members (shape_by first) in
    let past : length shapes ≤ k = omega arith in
    let sum : sizes (members shapes) + 1 ≡ 1 + sum_by size shapes = omega (arith, sizes_sum shapes) in
    record {
      before =
          before ∙ ap (λ m. m.whole.entries) is ∙ ap held sum
          ∙ ap (λ l. held (1 + sum_by size l)) (sym (take_all k shapes past) ∙ ap (take k) (sym (listed shapes)));
      rest =
          λ ks. rest ks ∙ ap (entries_before ks) (sym (get_or_past shapes k Void past) ∙ ap (λ l. slice_index_or l k Void) (sym (listed shapes)));
    }

-- ---- along a path

-- where no position is left, the entries so far are all
pub all_along : (ss : List Shape) (path : List ℤ) (i entries total : ℕ) (of : NbcType) → length path ≤ i → entries ≡ held entries
    → held (entries + entries_before (map nat_abs (drop i path)) (shape_by ss of)) ≡ held total → entries ≡ held total
all_along ss path i entries total of over small known =
    let none : entries_before (map nat_abs (drop i path)) (shape_by ss of) ≡ 0 =
    ap (λ (l : List ℤ). entries_before (map nat_abs l) (shape_by ss of)) (drop_of_length-le path over) in
    let all : entries + entries_before (map nat_abs (drop i path)) (shape_by ss of) ≡ entries = omega arith in
    small ∙ sym (ap held all) ∙ known
