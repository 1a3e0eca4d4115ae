-- Tests of types by their bases and arrays.
use Rattle.std.proofs.Common.{◌≡◌, ◌≢◌, ℕ, zero, suc, ◌-◌, ◌<◌, ◌==◌, nat_lt, Bool, false, List, slice_index_or, ℤ, Option, Some, None, refl, sym, ap, subst, ◌∙◌, arith}
use Rattle.std.specs.Ordering.{int_eq}
use Rattle.std.specs.Prelude.{if◌then◌else◌}
use Rattle.std.proofs.lemmas.Bool.Decides.{nat_tests}
use Rattle.nxt_types.specs.Arithmetic.{cut}
use Rattle.nxt_types.specs.Shapes.{Shape, Void, Number, Array, Cluster, Mutex}
use Rattle.nxt_types.specs.OperandRules.{element_of, is_group, is_list}
use Rattle.nxt_types.specs.declared.kind.Kind.TheVariants.{Ubyte}
use Rattle.nxt_operand_rules.specs.SeenOf.{seen_by, seen_by_element}
use Rattle.nxt_operand_rules.specs.declared.seen.Seen.{Seen}
use Rattle.nxt_operand_rules.specs.declared.seen.Seen.TheVariants as look
use Rattle.nxt_model.specs.Nbc.Types.{Struct, type_shapes}
use Rattle.nxt_model.specs.TextProgram.{arrays_of, base_shape}
use Rattle.nxt_model.proofs.Laws.StructShapes.{at_struct}
use Rattle.nxt_model.specs.Nbc.NbcRules.{fits_shape}
use Rattle.nxt_model.specs.declared.nbc.NbcBase.{NbcBase}
use Rattle.nxt_model.specs.declared.nbc.NbcBase.TheVariants as bases
use Rattle.nxt_model.specs.declared.nbc.NbcType.{NbcType}
use Rattle.nxt_model.specs.Nbc.Structs.{Types}
use Rattle.nxt_nbc_kinds.specs.OperandsSeen.{shape_among, shape_seen}
use Rattle.nxt_nbc_kinds.specs.TypeParts.{single_base, struct_base, struct_position}

-- ---- tests by a base

abbrev fits_base : ℤ → Option NbcBase → Bool
fits_base z (Some (bases.Number k)) = int_eq (cut k z) z
fits_base z _ = false

module _ (test : Shape → Bool) (by_base : Option NbcBase → Bool) (none : by_base None ≡ test Void) (array : (n : ℕ) (s : Shape) → by_base None ≡ test (Array n s))
    (base : (ds : List Struct) (b : NbcBase) → by_base (Some b) ≡ test (base_shape (type_shapes ds) b)) where
  at_arrays : (ds : List Struct) (b : NbcBase) (n : ℕ) → by_base (if n == 0 then Some b else None) ≡ test (arrays_of n (base_shape (type_shapes ds) b))
  at_arrays ds b zero = base ds b
  at_arrays ds b (suc n) =
      let more : (suc n == 0) ≡ false = grind (arith, nat_tests) in
      rw more (array _ (arrays_of n (base_shape (type_shapes ds) b)))

  test_by_base : (ds : List Struct) (s : Option NbcType) → by_base (single_base s) ≡ test (shape_among ds s)
  test_by_base ds None = none
  test_by_base ds (Some s) = at_arrays ds s.base s.arrays

list_there : (ds : List Struct) (b : NbcBase) → false ≡ is_list (base_shape (type_shapes ds) b)
list_there ds (bases.Number k) = refl
list_there ds bases.Mutex = refl
list_there ds (bases.Struct i) = at_struct (λ s. false ≡ is_list s) refl (λ ms. refl) ds i

fits_there : (z : ℤ) (ds : List Struct) (b : NbcBase) → fits_base z (Some b) ≡ fits_shape (base_shape (type_shapes ds) b) z
fits_there z ds (bases.Number k) = refl
fits_there z ds bases.Mutex = refl
fits_there z ds (bases.Struct i) = at_struct (λ s. false ≡ fits_shape s z) refl (λ ms. refl) ds i

pub fits_by_base : (t : Types) (s : Option NbcType) (z : ℤ) → fits_shape (shape_seen t s) z ≡ fits_base z (single_base s)
fits_by_base t s z = sym (test_by_base (λ x. fits_shape x z) (fits_base z) refl (λ n e. refl) (fits_there z) t.structs s)

-- ---- arrays

pub list_by_arrays : (t : Types) (s : NbcType) → is_list (shape_seen t (Some s)) ≡ nat_lt 0 s.arrays
list_by_arrays t s = by s.arrays
  where
    by : (n : ℕ) → is_list (arrays_of n (base_shape (type_shapes t.structs) s.base)) ≡ nat_lt 0 n
    by zero = sym (list_there t.structs s.base)
    by (suc n) = grind (arith, nat_tests)

no_element : (s : Shape) → false ≡ is_list s → Void ≡ element_of s
no_element Void e = refl
no_element (Number k) e = refl
no_element (Array n s) e = let f : ⊥ = cc in absurd f
no_element (Cluster ms) e = refl
no_element Mutex e = refl

pub element_none : (t : Types) (s : NbcType) → nat_lt 0 s.arrays ≡ false → Void ≡ element_of (shape_seen t (Some s))
element_none t s none = no_element (shape_seen t (Some s)) (sym (list_by_arrays t s ∙ none))

pub element_some : (ss : List Shape) (b : NbcBase) (n : ℕ) → 0 < n → arrays_of (n - 1) (base_shape ss b) ≡ element_of (arrays_of n (base_shape ss b))
element_some ss b zero some = absurd (omega arith)
element_some ss b (suc n) some = ap (λ m. arrays_of m (base_shape ss b)) (let same : suc n - 1 ≡ n = omega arith in same)

-- ---- what is seen of lists

abbrev list_of : NbcBase → Seen
list_of (bases.Number Ubyte) = look.Text
list_of (bases.Number k) = look.Numbers
list_of bases.Mutex = look.List
list_of (bases.Struct i) = look.List

pub list_by_base : (ds : List Struct) (b : NbcBase) → seen_by_element (base_shape (type_shapes ds) b) ≡ list_of b
list_by_base ds (bases.Number Ubyte) = refl
list_by_base ds (bases.Number _) = refl
list_by_base ds bases.Mutex = refl
list_by_base ds (bases.Struct i) = at_struct (λ s. seen_by_element s ≡ look.List) refl (λ ms. refl) ds i

pub lists_seen : (s : Shape) (n : ℕ) → n ≢ 0 → n ≢ 1 → look.List ≡ seen_by (arrays_of n s)
lists_seen s zero a b = absurd (a refl)
lists_seen s (suc zero) a b = absurd (b refl)
lists_seen s (suc (suc n)) a b = refl

-- ---- structs by their positions

-- the shape of the struct that it is, if it is one
abbrev pub IsStructAt : List Struct → Option ℕ → Shape → Type 0
IsStructAt ds None s = is_group s ≡ false
IsStructAt ds (Some i) s = s ≡ slice_index_or (type_shapes ds) i Void

struct_there : (ds : List Struct) (b : NbcBase) → IsStructAt ds (struct_base (Some b)) (base_shape (type_shapes ds) b)
struct_there ds (bases.Number k) = refl
struct_there ds bases.Mutex = refl
struct_there ds (bases.Struct i) = refl

struct_among : (ds : List Struct) (b : NbcBase) (n : ℕ) → IsStructAt ds (struct_base (if n == 0 then Some b else None)) (arrays_of n (base_shape (type_shapes ds) b))
struct_among ds b zero = struct_there ds b
struct_among ds b (suc n) =
    let more : (suc n == 0) ≡ false = grind (arith, nat_tests) in
    rw more refl

pub struct_by_base : (ds : List Struct) (s : Option NbcType) → IsStructAt ds (struct_position s) (shape_among ds s)
struct_by_base ds None = refl
struct_by_base ds (Some s) = struct_among ds s.base s.arrays

pub no_struct : (ds : List Struct) (s : Option NbcType) → None ≡ struct_position s → is_group (shape_among ds s) ≡ false
no_struct ds s none = subst (λ o. IsStructAt ds o (shape_among ds s)) (sym none) (struct_by_base ds s)

pub struct_shape : (ds : List Struct) (s : Option NbcType) (i : ℕ) → Some i ≡ struct_position s → shape_among ds s ≡ slice_index_or (type_shapes ds) i Void
struct_shape ds s i is = subst (λ o. IsStructAt ds o (shape_among ds s)) (sym is) (struct_by_base ds s)
