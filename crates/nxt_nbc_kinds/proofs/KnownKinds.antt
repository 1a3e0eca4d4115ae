-- Which kinds of structs are known.
use Rattle.std.proofs.Common.{◌≡◌, ℕ, zero, suc, ◌+◌, ◌<◌, ◌++◌, Bool, true, false, not, cond, ◌||◌, ◌==◌, if◌then◌else◌, List, [], ◌∷◌, map, length, slice_index_or, Option, Some, None, refl, sym, ap, ap₂, subst, subst₂, ◌∙◌, arith, ◌⊎◌, inl, inr, take, get_or, le_refl}
use Rattle.std.specs.List.{list_any, position_or_len}
use Rattle.std.proofs.lemmas.Bool.Decides.{nat_tests}
use Rattle.std.proofs.lemmas.List.{get_or_append_left, get_or_push, length_push, map_more}
use Rattle.std.proofs.lemmas.List.Folds.{list_any_at}
use Rattle.std.proofs.lemmas.List.Sums.{passes_at_first, position_or_len_is}
use Rattle.std.proofs.lemmas.Simd.{map-map}
use Rattle.nxt_types.specs.Shapes.{Shape, Void, Cluster, Members, cluster_of, members as members_of, convertible, convertible_members}
use Rattle.nxt_model.specs.TextProgram.{shape_by}
use Rattle.nxt_model.proofs.Laws.StructShapes.{type_shapes_push}
use Rattle.nxt_model.specs.Nbc.Types.{StructMember, Struct, type_shapes}
use Rattle.nxt_model.specs.Nbc.Structs.{Types}
use Rattle.nxt_nbc_names.specs.MembersSeen.{member_seen}
use Rattle.nxt_nbc_names.specs.StructsSeen.{struct_seen, structs_seen}
use Rattle.nxt_nbc_names.specs.declared.members.Member.{Member as ProgramMember}
use Rattle.nxt_nbc_names.specs.declared.structs.Struct.{Struct as ProgramStruct}
use Rattle.nxt_nbc_kinds.specs.ConvertingStructs.{AreConversions, are_of_a_kind}
use Rattle.nxt_nbc_kinds.specs.Kinds.{kinds_of, known_with, number_of, same_members}
use Rattle.nxt_nbc_kinds.specs.declared.conversions.TypeKind.{TypeKind}
use Rattle.nxt_nbc_kinds.proofs.ConvertingShapes.{alike, both_ways, through, void_never}
use Rattle.nxt_nbc_kinds.proofs.KindShapes.{AreApart, AreOfTypes, AreWithin, IsOfStruct, members_apart, struct_like, struct_like_more, type_like, types_of_kinds, within_more}

-- each struct is of the kind that it is held with, and each kind has a shape of its own, by those before it
pub record AreKnown (ss : List Shape) (ks : List (Option ℕ)) (known : List (List TypeKind)) : Type 0 where
  pub like : List Shape
  pub long : length ks ≡ length ss
  pub counted : length like ≡ length known
  pub built : (a : ℕ) → a < length known → slice_index_or like a Void ≡ struct_like like (slice_index_or known a [])
  pub within : (a : ℕ) → a < length known → AreWithin (length known) (slice_index_or known a [])
  pub distinct : (a b : ℕ) → a < length known → b < length known → convertible (slice_index_or like a Void) (slice_index_or like b Void) ≡ (a == b)
  pub kinds : (i : ℕ) → IsOfStruct like (slice_index_or ss i Void) (slice_index_or ks i None)

pub none_known : AreKnown [] [] []
none_known =
    record {
      like = [];
      long = refl;
      counted = refl;
      built = λ a h. absurd (omega arith);
      within = λ a h. absurd (omega arith);
      distinct = λ a b h. absurd (omega arith);
      kinds = λ i. void_never;
    }

-- ---- one struct more

-- what holds of each two of lists, and of two more, holds of each two of the longer lists
pairs_push : (P : Shape → Option ℕ → Type 0) (ss : List Shape) (ks : List (Option ℕ)) (s : Shape) (k : Option ℕ) → length ks ≡ length ss
    → ((i : ℕ) → P (slice_index_or ss i Void) (slice_index_or ks i None)) → P s k
    → (i : ℕ) → P (slice_index_or (ss ++ s ∷ []) i Void) (slice_index_or (ks ++ k ∷ []) i None)
pairs_push P [] [] s k long all here zero = here
pairs_push P [] [] s k long all here (suc i) = all (suc i)
pairs_push P [] (l ∷ ks) s k long all here i = absurd (omega arith)
pairs_push P (t ∷ ss) [] s k long all here i = absurd (omega arith)
pairs_push P (t ∷ ss) (l ∷ ks) s k long all here zero = all zero
pairs_push P (t ∷ ss) (l ∷ ks) s k long all here (suc i) = pairs_push P ss ks s k (omega arith) (λ j. all (suc j)) here i

longer : (ss : List Shape) (ks : List (Option ℕ)) (s : Shape) (k : Option ℕ) → length ks ≡ length ss → length (ks ++ k ∷ []) ≡ length (ss ++ s ∷ [])
longer ss ks s k long = length_push ks k ∙ ap (λ n. n + 1) long ∙ sym (length_push ss s)

-- a struct of a kind that is known, or of none
known_again : (ss : List Shape) (ks : List (Option ℕ)) (known : List (List TypeKind)) (all : AreKnown ss ks known) (s : Shape) (k : Option ℕ)
    → IsOfStruct all.like s k → AreKnown (ss ++ s ∷ []) (ks ++ k ∷ []) known
known_again ss ks known all s k is =
    record {
      like = all.like;
      long = longer ss ks s k all.long;
      counted = all.counted;
      built = all.built;
      within = all.within;
      distinct = all.distinct;
      kinds = pairs_push (IsOfStruct all.like) ss ks s k all.long all.kinds is;
    }

-- the shapes are those of structs, and stand apart
apart : (ss : List Shape) (ks : List (Option ℕ)) (known : List (List TypeKind)) (all : AreKnown ss ks known) → AreApart all.like
apart ss ks known all =
    record {
      clusters = λ a h. (members_of (map (type_like all.like) (slice_index_or known a [])), all.built a (omega (arith, all.counted)));
      distinct = λ a b one other. all.distinct a b (omega (arith, all.counted)) (omega (arith, all.counted));
    }

-- a new kind converts to none that is known
apart_from : (ss : List Shape) (ks : List (Option ℕ)) (known : List (List TypeKind)) (all : AreKnown ss ks known) (ms : List TypeKind)
    → AreWithin (length all.like) ms → (a : ℕ) → a < length known
    → convertible (struct_like all.like ms) (slice_index_or all.like a Void) ≡ same_members ms (slice_index_or known a [])
apart_from ss ks known all ms inside a h =
    ap (convertible (struct_like all.like ms)) (all.built a h)
    ∙ members_apart all.like (apart ss ks known all) ms (slice_index_or known a []) inside
    (subst (λ n. AreWithin n (slice_index_or known a [])) (sym all.counted) (all.within a h))

last_or : (n a : ℕ) → a < n + 1 → (a < n) ⊎ (n ≡ a)
last_or n a h = grind arith

-- a struct of a new kind
module _ (ss : List Shape) (ks : List (Option ℕ)) (known : List (List TypeKind)) (all : AreKnown ss ks known) (s : Shape) (ms : List TypeKind)
    (inside : AreWithin (length all.like) ms) (is : convertible s (struct_like all.like ms) ≡ true)
    (new : (a : ℕ) → a < length known → same_members ms (slice_index_or known a []) ≡ false) where
  abbrev more : List Shape
  more = all.like ++ struct_like all.like ms ∷ []

  old_at : (a : ℕ) → a < length known → slice_index_or more a Void ≡ slice_index_or all.like a Void
  old_at a h = get_or_append_left all.like (struct_like all.like ms ∷ []) Void a (omega (arith, all.counted))

  new_at : slice_index_or more (length known) Void ≡ struct_like all.like ms
  new_at = get_or_push all.like (struct_like all.like ms) Void (length known) all.counted

  known_old : (a : ℕ) → a < length known → slice_index_or (known ++ ms ∷ []) a [] ≡ slice_index_or known a []
  known_old a h = get_or_append_left known (ms ∷ []) [] a h

  known_new : slice_index_or (known ++ ms ∷ []) (length known) [] ≡ ms
  known_new = get_or_push known ms [] (length known) refl

  inside_known : AreWithin (length known) ms
  inside_known = subst (λ n. AreWithin n ms) all.counted inside

  long_more : length more ≡ length known + 1
  long_more = length_push all.like (struct_like all.like ms) ∙ ap (λ n. n + 1) all.counted

  struct_more : (ls : List TypeKind) → AreWithin (length known) ls → struct_like more ls ≡ struct_like all.like ls
  struct_more ls h = struct_like_more all.like (struct_like all.like ms ∷ []) ls (subst (λ n. AreWithin n ls) (sym all.counted) h)

  built_more : (a : ℕ) → a < length known + 1 → slice_index_or more a Void ≡ struct_like more (slice_index_or (known ++ ms ∷ []) a [])
  built_more a h = elim (last_or (length known) a h) [
    | inl old ↦ old_at a old ∙ all.built a old ∙ sym (struct_more (slice_index_or known a []) (all.within a old)) ∙ ap (struct_like more) (sym (known_old a old))
    | inr last ↦
        subst (λ n. slice_index_or more n Void ≡ struct_like more (slice_index_or (known ++ ms ∷ []) n [])) last
        (new_at ∙ sym (struct_more ms inside_known) ∙ ap (struct_like more) (sym known_new))
  ]

  within_all : (a : ℕ) → a < length known + 1 → AreWithin (length known + 1) (slice_index_or (known ++ ms ∷ []) a [])
  within_all a h = elim (last_or (length known) a h) [
    | inl old ↦
        subst (AreWithin (length known + 1)) (sym (known_old a old))
        (within_more (length known) (length known + 1) (slice_index_or known a []) (omega arith) (all.within a old))
    | inr last ↦
        subst (λ n. AreWithin (length known + 1) (slice_index_or (known ++ ms ∷ []) n [])) last
        (subst (AreWithin (length known + 1)) (sym known_new) (within_more (length known) (length known + 1) ms (omega arith) inside_known))
  ]

  new_apart : (a : ℕ) → a < length known → convertible (struct_like all.like ms) (slice_index_or all.like a Void) ≡ false
  new_apart a h = apart_from ss ks known all ms inside a h ∙ new a h

  new_itself : convertible (struct_like all.like ms) (struct_like all.like ms) ≡ true
  new_itself =
      through (struct_like all.like ms) s (struct_like all.like ms) (both_ways (struct_like all.like ms) s ∙ is) is

  distinct_more : (a b : ℕ) → a < length known + 1 → b < length known + 1 → convertible (slice_index_or more a Void) (slice_index_or more b Void) ≡ (a == b)
  distinct_more a b one other = by (last_or (length known) a one) (last_or (length known) b other)
    where
      by : (a < length known) ⊎ (length known ≡ a) → (b < length known) ⊎ (length known ≡ b) → convertible (slice_index_or more a Void) (slice_index_or more b Void) ≡ (a == b)
      by (inl x) (inl y) = ap₂ convertible (old_at a x) (old_at b y) ∙ all.distinct a b x y
      by (inl x) (inr y) =
          let differ : (a == b) ≡ false = grind (arith, nat_tests) in
          let at = ap (λ n. slice_index_or more n Void) (sym y) ∙ new_at in
          ap₂ convertible (old_at a x) at ∙ both_ways (slice_index_or all.like a Void) (struct_like all.like ms) ∙ new_apart a x ∙ sym differ
      by (inr x) (inl y) =
          let differ : (a == b) ≡ false = grind (arith, nat_tests) in
          let at = ap (λ n. slice_index_or more n Void) (sym x) ∙ new_at in
          ap₂ convertible at (old_at b y) ∙ new_apart b y ∙ sym differ
      by (inr x) (inr y) =
          let same : (a == b) ≡ true = grind (arith, nat_tests) in
          let left = ap (λ n. slice_index_or more n Void) (sym x) ∙ new_at in
          let right = ap (λ n. slice_index_or more n Void) (sym y) ∙ new_at in
          ap₂ convertible left right ∙ new_itself ∙ sym same

  still : (t : Shape) (k : Option ℕ) → IsOfStruct all.like t k → IsOfStruct more t k
  still t None h = h
  still t (Some k) h =
      let at = get_or_append_left all.like (struct_like all.like ms ∷ []) Void k h.0 in
      (omega (arith, long_more, all.counted, h.0), ap (convertible t) at ∙ h.1)

  known_first : AreKnown (ss ++ s ∷ []) (ks ++ Some (length known) ∷ []) (known ++ ms ∷ [])
  known_first =
      let long = length_push known ms in
      record {
        like = more;
        long = longer ss ks s (Some (length known)) all.long;
        counted = long_more ∙ sym long;
        built = λ a h. built_more a (subst (λ n. a < n) long h);
        within = λ a h. subst (λ n. AreWithin n (slice_index_or (known ++ ms ∷ []) a [])) (sym long) (within_all a (subst (λ n. a < n) long h));
        distinct = λ a b one other. distinct_more a b (subst (λ n. a < n) long one) (subst (λ n. b < n) long other);
        kinds =
            pairs_push (IsOfStruct more) ss ks s (Some (length known)) all.long
            (λ i. still (slice_index_or ss i Void) (slice_index_or ks i None) (all.kinds i))
            (omega (arith, long_more), ap (convertible s) new_at ∙ is);
      }

-- ---- a struct behind others

found : {X : Type 0} (p : X → Bool) (xs : List X) → list_any p xs ≡ true → position_or_len p xs < length xs
found p [] e = let f : ⊥ = cc in absurd f
found p (x ∷ xs) e = by (p x) e (found p xs)
  where
    by : (b : Bool) → (b || list_any p xs) ≡ true → (list_any p xs ≡ true → position_or_len p xs < length xs)
        → cond (not b) (1 + position_or_len p xs) 0 < length (x ∷ xs)
    by true e rest = omega arith
    by false e rest = omega (arith, rest e)

missing : {X : Type 0} (p : X → Bool) (xs : List X) (d : X) → list_any p xs ≡ false → (a : ℕ) → a < length xs → p (slice_index_or xs a d) ≡ false
missing p xs d none a h = by (p (slice_index_or xs a d)) refl
  where
    by : (b : Bool) → p (slice_index_or xs a d) ≡ b → b ≡ false
    by true e = sym (list_any_at p xs a d h e) ∙ none
    by false e = refl

cluster_never : (ss : List Shape) → ((x : Members) → convertible_members (members_of ss) x ≡ false) → (x : Shape) → convertible (cluster_of ss) x ≡ false
cluster_never ss never (Cluster xs) = never xs
cluster_never ss never x = refl

pub struct_known : (ds : List Struct) (d : Struct) (ks : List (Option ℕ)) (known : List (List TypeKind)) (o : Option (List TypeKind))
    → o ≡ kinds_of ks (map (λ m. m.type) d.members) → AreKnown (type_shapes ds) ks known
    → AreKnown (type_shapes (ds ++ d ∷ [])) (ks ++ number_of known o ∷ []) (known_with known o)
struct_known ds d ks known o e all =
    subst (λ ss. AreKnown ss (ks ++ number_of known o ∷ []) (known_with known o)) (sym (type_shapes_push ds d))
    (by o (subst (AreOfTypes all.like shapes) (sym e) (types_of_kinds all.like (type_shapes ds) ks all.kinds (map (λ (m : StructMember). m.type) d.members))))
  where
    shapes : List Shape
    shapes = map (shape_by (type_shapes ds)) (map (λ (m : StructMember). m.type) d.members)

    by : (p : Option (List TypeKind)) → AreOfTypes all.like shapes p → AreKnown (type_shapes ds ++ cluster_of shapes ∷ []) (ks ++ number_of known p ∷ []) (known_with known p)
    by None never = known_again (type_shapes ds) ks known all (cluster_of shapes) None (cluster_never shapes never)
    by (Some ms) is = either (list_any (same_members ms) known) refl
      where
        n : ℕ
        n = position_or_len (same_members ms) known

        either : (b : Bool) → list_any (same_members ms) known ≡ b → AreKnown (type_shapes ds ++ cluster_of shapes ∷ []) (ks ++ Some n ∷ []) (if b then known else known ++ ms ∷ [])
        either true some =
            let under = found (same_members ms) known some in
            let same = apart_from (type_shapes ds) ks known all ms is.0 n under ∙ passes_at_first (same_members ms) known [] under in
            known_again (type_shapes ds) ks known all (cluster_of shapes) (Some n)
            (omega (arith, all.counted, under), through (cluster_of shapes) (struct_like all.like ms) (slice_index_or all.like n Void) is.1 same)
        either false none =
            let new = missing (same_members ms) known [] none in
            let next : n ≡ length known = position_or_len_is (same_members ms) known (length known) [] (le_refl _) new (λ h. absurd (omega arith)) in
            subst (λ k. AreKnown (type_shapes ds ++ cluster_of shapes ∷ []) (ks ++ Some k ∷ []) (known ++ ms ∷ [])) (sym next)
            (known_first (type_shapes ds) ks known all (cluster_of shapes) ms is.0 is.1 new)

-- ---- which structs convert

pub are_kinship : (t : Types) (ks : List (Option ℕ)) (known : List (List TypeKind)) → AreKnown (type_shapes t.structs) ks known → AreConversions t ks
are_kinship t ks known all i j = by (slice_index_or ks i None) (slice_index_or ks j None) (all.kinds i) (all.kinds j)
  where
    ss : List Shape
    ss = type_shapes t.structs

    by : (a b : Option ℕ) → IsOfStruct all.like (slice_index_or ss i Void) a → IsOfStruct all.like (slice_index_or ss j Void) b
        → convertible (slice_index_or ss i Void) (slice_index_or ss j Void) ≡ are_of_a_kind a b
    by None b never other = never (slice_index_or ss j Void)
    by (Some a) None one never = both_ways (slice_index_or ss i Void) (slice_index_or ss j Void) ∙ never (slice_index_or ss i Void)
    by (Some a) (Some b) one other =
        alike (slice_index_or ss i Void) (slice_index_or ss j Void) (slice_index_or all.like a Void) (slice_index_or all.like b Void) one.1 other.1
        ∙ all.distinct a b (omega (arith, all.counted, one.0)) (omega (arith, all.counted, other.0))

-- ---- in a loop over the structs

module _ (xs : List ProgramStruct) (i : ℕ) (d : ProgramStruct) (items : List ProgramMember) (ks : List (Option ℕ)) (known : List (List TypeKind))
    (under : i < length xs) (members : map member_seen items ≡ (get_or xs i d).members) (all : AreKnown (type_shapes (structs_seen (take i xs))) ks known) where
  abbrev kind : List (Option ℕ) → Option (List TypeKind)
  kind structs = kinds_of structs (map (λ (m : ProgramMember). m.shape) items)

  more_known : AreKnown (type_shapes (structs_seen (take (i + 1) xs))) (ks ++ number_of known (kind ks) ∷ []) (known_with known (kind ks))
  more_known =
      let shape = λ (m : StructMember). m.type in
      subst (λ ds. AreKnown (type_shapes ds) (ks ++ number_of known (kind ks) ∷ []) (known_with known (kind ks))) (sym (map_more struct_seen xs i d under))
      (struct_known (structs_seen (take i xs)) (struct_seen (get_or xs i d)) ks known (kind ks)
      (ap (kinds_of ks) (sym (map-map shape member_seen items) ∙ ap (map shape) members)) all)

  pub known_more : (structs : List (Option ℕ)) (k : Option ℕ) (now : List (Option ℕ)) (known_now : List (List TypeKind)) → structs ≡ ks
      → k ≡ number_of known (kinds_of structs (map (λ m. m.shape) items)) → known_now ≡ known_with known (kinds_of structs (map (λ m. m.shape) items)) → now ≡ ks ++ k ∷ []
      → AreKnown (type_shapes (structs_seen (take (i + 1) xs))) now known_now
  known_more structs k now known_now same number grown pushed =
      let keep = λ (o : Option (List TypeKind)). AreKnown (type_shapes (structs_seen (take (i + 1) xs))) (ks ++ number_of known o ∷ []) (known_with known o) in
      let these : AreKnown (type_shapes (structs_seen (take (i + 1) xs))) (ks ++ number_of known (kind structs) ∷ []) (known_with known (kind structs)) =
      subst keep (sym (ap kind same)) more_known in
      subst₂ (AreKnown (type_shapes (structs_seen (take (i + 1) xs)))) (sym (pushed ∙ ap (λ n. ks ++ n ∷ []) number)) (sym grown) these
