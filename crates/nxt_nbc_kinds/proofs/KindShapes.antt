-- Shapes for kinds, and types of these kinds.
use Rattle.std.proofs.Common.{◌≡◌, ℕ, ◌<◌, ◌≤◌, ◌++◌, Bool, true, false, ◌&&◌, ◌==◌, List, [], ◌∷◌, map, length, slice_index_or, Option, Some, None, option_map, refl, ap, ap₂, ◌∙◌, arith}
use Rattle.std.specs.Prelude.{⊤}
use Rattle.std.proofs.lemmas.Bool.{and_from}
use Rattle.std.proofs.lemmas.List.{get_or_append_left}
use Rattle.nxt_types.specs.OperandRules.{is_list}
use Rattle.nxt_types.specs.Shapes.{Shape, Void, Number, Cluster, Members, no_members, member, cluster_of, members as members_of, convertible, convertible_members}
use Rattle.nxt_types.specs.declared.kind.Kind.TheVariants.{Ubyte}
use Rattle.nxt_model.specs.TextProgram.{arrays_of, base_shape, shape_by}
use Rattle.nxt_model.specs.declared.nbc.NbcBase.{NbcBase}
use Rattle.nxt_model.specs.declared.nbc.NbcBase.TheVariants as bases
use Rattle.nxt_model.specs.declared.nbc.NbcType.{NbcType}
use Rattle.nxt_nbc_kinds.specs.Kinds.{base_kind, in_front, kinds_of, same_base, same_kind, same_members, type_kind}
use Rattle.nxt_nbc_kinds.specs.declared.conversions.BaseKind.{BaseKind}
use Rattle.nxt_nbc_kinds.specs.declared.conversions.BaseKind.TheVariants as kinds
use Rattle.nxt_nbc_kinds.specs.declared.conversions.TypeKind.{TypeKind}
use Rattle.nxt_nbc_kinds.proofs.ConvertingShapes.{arrays_convert, arrays_never, as_many_arrays, mutex_never}

-- ---- shapes for kinds, where those of structs have these

abbrev pub base_like : List Shape → BaseKind → Shape
base_like rs kinds.Number = Number Ubyte
base_like rs (kinds.Struct k) = slice_index_or rs k Void

abbrev pub type_like : List Shape → TypeKind → Shape
type_like rs k = arrays_of k.arrays (base_like rs k.base)

abbrev pub struct_like : List Shape → List TypeKind → Shape
struct_like rs ms = cluster_of (map (type_like rs) ms)

-- the structs in a kind are among so many
abbrev pub IsBaseWithin : ℕ → BaseKind → Type 0
IsBaseWithin n kinds.Number = ⊤
IsBaseWithin n (kinds.Struct k) = k < n

abbrev pub AreWithin : ℕ → List TypeKind → Type 0
AreWithin n [] = ⊤
AreWithin n (k ∷ ks) = IsBaseWithin n k.base × AreWithin n ks

-- ---- with more structs

base_within_more : (n m : ℕ) (b : BaseKind) → n ≤ m → IsBaseWithin n b → IsBaseWithin m b
base_within_more n m kinds.Number le h = h
base_within_more n m (kinds.Struct k) le h = omega arith

pub within_more : (n m : ℕ) (ks : List TypeKind) → n ≤ m → AreWithin n ks → AreWithin m ks
within_more n m [] le h = h
within_more n m (k ∷ ks) le h = (base_within_more n m k.base le h.0, within_more n m ks le h.1)

base_like_more : (rs more : List Shape) (b : BaseKind) → IsBaseWithin (length rs) b → base_like (rs ++ more) b ≡ base_like rs b
base_like_more rs more kinds.Number h = refl
base_like_more rs more (kinds.Struct k) h = get_or_append_left rs more Void k h

types_like_more : (rs more : List Shape) (ks : List TypeKind) → AreWithin (length rs) ks → map (type_like (rs ++ more)) ks ≡ map (type_like rs) ks
types_like_more rs more [] h = refl
types_like_more rs more (k ∷ ks) h =
    ap₂ (λ s ss. s ∷ ss) (ap (arrays_of k.arrays) (base_like_more rs more k.base h.0)) (types_like_more rs more ks h.1)

pub struct_like_more : (rs more : List Shape) (ks : List TypeKind) → AreWithin (length rs) ks → struct_like (rs ++ more) ks ≡ struct_like rs ks
struct_like_more rs more ks h = ap cluster_of (types_like_more rs more ks h)

-- ---- those of other kinds don't convert

-- the shapes are those of structs, and convert to themselves alone
pub record AreApart (rs : List Shape) : Type 0 where
  pub clusters : (a : ℕ) → a < length rs → (ss : Members) × (slice_index_or rs a Void ≡ Cluster ss)
  pub distinct : (a b : ℕ) → a < length rs → b < length rs → convertible (slice_index_or rs a Void) (slice_index_or rs b Void) ≡ (a == b)

module _ (rs : List Shape) (apart : AreApart rs) where
  no_list : (b : BaseKind) → IsBaseWithin (length rs) b → is_list (base_like rs b) ≡ false
  no_list kinds.Number h = refl
  no_list (kinds.Struct k) h = ap is_list (apart.clusters k h).1

  bases_apart : (a b : BaseKind) → IsBaseWithin (length rs) a → IsBaseWithin (length rs) b → convertible (base_like rs a) (base_like rs b) ≡ same_base a b
  bases_apart kinds.Number kinds.Number one other = refl
  bases_apart kinds.Number (kinds.Struct b) one other = ap (convertible (Number Ubyte)) (apart.clusters b other).1
  bases_apart (kinds.Struct a) kinds.Number one other = ap (λ s. convertible s (Number Ubyte)) (apart.clusters a one).1
  bases_apart (kinds.Struct a) (kinds.Struct b) one other = apart.distinct a b one other

  types_apart : (k l : TypeKind) → IsBaseWithin (length rs) k.base → IsBaseWithin (length rs) l.base → convertible (type_like rs k) (type_like rs l) ≡ same_kind k l
  types_apart k l one other =
      as_many_arrays k.arrays l.arrays (base_like rs k.base) (base_like rs l.base) (no_list k.base one) (no_list l.base other)
      ∙ ap (λ b. b && k.arrays == l.arrays) (bases_apart k.base l.base one other)

  pub members_apart : (ks ls : List TypeKind) → AreWithin (length rs) ks → AreWithin (length rs) ls
      → convertible_members (members_of (map (type_like rs) ks)) (members_of (map (type_like rs) ls)) ≡ same_members ks ls
  members_apart [] [] one other = refl
  members_apart [] (l ∷ ls) one other = refl
  members_apart (k ∷ ks) [] one other = refl
  members_apart (k ∷ ks) (l ∷ ls) one other =
      ap₂ (λ a b. a && b) (types_apart k l one.0 other.0) (members_apart ks ls one.1 other.1)

-- ---- types of these kinds

-- a shape of a kind converts as it does, and one of none never
abbrev pub IsOfStruct : List Shape → Shape → Option ℕ → Type 0
IsOfStruct rs s None = (x : Shape) → convertible s x ≡ false
IsOfStruct rs s (Some k) = (k < length rs) × (convertible s (slice_index_or rs k Void) ≡ true)

abbrev pub IsOfBase : List Shape → Shape → Option BaseKind → Type 0
IsOfBase rs s None = (x : Shape) → convertible s x ≡ false
IsOfBase rs s (Some b) = IsBaseWithin (length rs) b × (convertible s (base_like rs b) ≡ true)

abbrev pub IsOfType : List Shape → Shape → Option TypeKind → Type 0
IsOfType rs s None = (x : Shape) → convertible s x ≡ false
IsOfType rs s (Some k) = IsBaseWithin (length rs) k.base × (convertible s (type_like rs k) ≡ true)

abbrev pub AreOfTypes : List Shape → List Shape → Option (List TypeKind) → Type 0
AreOfTypes rs ss None = (x : Members) → convertible_members (members_of ss) x ≡ false
AreOfTypes rs ss (Some ks) = AreWithin (length rs) ks × (convertible_members (members_of ss) (members_of (map (type_like rs) ks)) ≡ true)

and_never : (b : Bool) → (b && false) ≡ false
and_never true = refl
and_never false = refl

module _ (rs ss : List Shape) (ks : List (Option ℕ)) (of : (i : ℕ) → IsOfStruct rs (slice_index_or ss i Void) (slice_index_or ks i None)) where
  base_of_kind : (b : NbcBase) → IsOfBase rs (base_shape ss b) (base_kind ks b)
  base_of_kind (bases.Number k) = (tt, refl)
  base_of_kind bases.Mutex = mutex_never
  base_of_kind (bases.Struct i) = by (slice_index_or ks i None) (of i)
    where
      by : (o : Option ℕ) → IsOfStruct rs (slice_index_or ss i Void) o → IsOfBase rs (slice_index_or ss i Void) (option_map kinds.Struct o)
      by None h = h
      by (Some k) h = h

  type_of_kind : (t : NbcType) → IsOfType rs (shape_by ss t) (type_kind ks t)
  type_of_kind t = by (base_kind ks t.base) (base_of_kind t.base)
    where
      by : (o : Option BaseKind) → IsOfBase rs (base_shape ss t.base) o → IsOfType rs (shape_by ss t) (option_map (λ b. record { base = b; arrays = t.arrays }) o)
      by None h = arrays_never t.arrays (base_shape ss t.base) h
      by (Some b) h = (h.0, arrays_convert t.arrays (base_shape ss t.base) (base_like rs b) h.1)

  pub types_of_kinds : (ts : List NbcType) → AreOfTypes rs (map (shape_by ss) ts) (kinds_of ks ts)
  types_of_kinds [] = (tt, refl)
  types_of_kinds (t ∷ ts) = by (type_kind ks t) (kinds_of ks ts) (type_of_kind t) (types_of_kinds ts)
    where
      by : (o : Option TypeKind) (p : Option (List TypeKind)) → IsOfType rs (shape_by ss t) o → AreOfTypes rs (map (shape_by ss) ts) p
          → AreOfTypes rs (map (shape_by ss) (t ∷ ts)) (in_front o p)
      by None p never rest = none
        where
          none : (x : Members) → convertible_members (members_of (map (shape_by ss) (t ∷ ts))) x ≡ false
          none no_members = refl
          none (member x xs) = ap (λ b. b && convertible_members (members_of (map (shape_by ss) ts)) xs) (never x)
      by (Some k) None one never = none
        where
          none : (x : Members) → convertible_members (members_of (map (shape_by ss) (t ∷ ts))) x ≡ false
          none no_members = refl
          none (member x xs) = ap (λ b. convertible (shape_by ss t) x && b) (never xs) ∙ and_never (convertible (shape_by ss t) x)
      by (Some k) (Some l) one rest =
          ((one.0, rest.0), and_from (convertible (shape_by ss t) (type_like rs k)) (convertible_members (members_of (map (shape_by ss) ts)) (members_of (map (type_like rs) l))) one.1 rest.1)
