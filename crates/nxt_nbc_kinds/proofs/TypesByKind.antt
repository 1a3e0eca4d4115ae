-- Types convert to one another where they are of one kind.
use Rattle.std.proofs.Common.{◌≡◌, ℕ, Bool, false, ◌&&◌, ◌==◌, List, slice_index_or, Option, Some, None, option_map, refl, sym, ap, ◌∙◌}
use Rattle.nxt_types.specs.OperandRules.{is_list}
use Rattle.nxt_types.specs.Shapes.{Shape, Void, Number, Mutex, convertible}
use Rattle.nxt_types.specs.declared.kind.Kind.{Kind}
use Rattle.nxt_model.specs.Nbc.Types.{Struct, shape_in, type_shapes}
use Rattle.nxt_model.specs.TextProgram.{base_shape}
use Rattle.nxt_model.proofs.Laws.StructShapes.{at_struct}
use Rattle.nxt_model.specs.declared.nbc.NbcBase.{NbcBase}
use Rattle.nxt_model.specs.declared.nbc.NbcBase.TheVariants as bases
use Rattle.nxt_model.specs.declared.nbc.NbcType.{NbcType}
use Rattle.nxt_model.specs.Nbc.Structs.{Types}
use Rattle.nxt_nbc_kinds.specs.ConvertingStructs.{AreConversions, are_of_a_kind}
use Rattle.nxt_nbc_kinds.specs.Kinds.{are_of_one_kind, base_kind, same_base, type_kind}
use Rattle.nxt_nbc_kinds.specs.declared.conversions.BaseKind.{BaseKind}
use Rattle.nxt_nbc_kinds.specs.declared.conversions.BaseKind.TheVariants as kinds
use Rattle.nxt_nbc_kinds.proofs.ConvertingShapes.{as_many_arrays, both_ways, mutex_never}

-- ---- structs are clusters

no_list : (types : List Struct) (i : ℕ) → is_list (slice_index_or (type_shapes types) i Void) ≡ false
no_list types i = at_struct (λ s. is_list s ≡ false) refl (λ ms. refl) types i

no_number : (k : Kind) (types : List Struct) (i : ℕ) → convertible (Number k) (slice_index_or (type_shapes types) i Void) ≡ false
no_number k types i = at_struct (λ s. convertible (Number k) s ≡ false) refl (λ ms. refl) types i

-- ---- bases

abbrev are_of_one_base : Option BaseKind → Option BaseKind → Bool
are_of_one_base (Some a) (Some b) = same_base a b
are_of_one_base _ _ = false

none_of : (o : Option BaseKind) → false ≡ are_of_one_base o None
none_of None = refl
none_of (Some a) = refl

number_apart : (o : Option ℕ) → false ≡ are_of_one_base (Some kinds.Number) (option_map kinds.Struct o)
number_apart None = refl
number_apart (Some a) = refl

struct_apart : (o : Option ℕ) → false ≡ are_of_one_base (option_map kinds.Struct o) (Some kinds.Number)
struct_apart None = refl
struct_apart (Some a) = refl

kind_by_base : (o p : Option ℕ) → are_of_a_kind o p ≡ are_of_one_base (option_map kinds.Struct o) (option_map kinds.Struct p)
kind_by_base None p = refl
kind_by_base (Some a) None = refl
kind_by_base (Some a) (Some b) = refl

-- types of these bases, so often made arrays
types_by_base : (o p : Option BaseKind) (n m : ℕ)
    → (are_of_one_base o p && n == m) ≡ are_of_one_kind (option_map (λ b. record { base = b; arrays = n }) o) (option_map (λ b. record { base = b; arrays = m }) p)
types_by_base None p n m = refl
types_by_base (Some a) None n m = refl
types_by_base (Some a) (Some b) n m = refl

module _ (t : Types) (ks : List (Option ℕ)) (all : AreConversions t ks) where
  abbrev ss : List Shape
  ss = type_shapes t.structs

  no_list_base : (b : NbcBase) → is_list (base_shape ss b) ≡ false
  no_list_base (bases.Number k) = refl
  no_list_base bases.Mutex = refl
  no_list_base (bases.Struct i) = no_list t.structs i

  bases_convert : (a b : NbcBase) → convertible (base_shape ss a) (base_shape ss b) ≡ are_of_one_base (base_kind ks a) (base_kind ks b)
  bases_convert bases.Mutex b = mutex_never (base_shape ss b)
  bases_convert a bases.Mutex = both_ways (base_shape ss a) Mutex ∙ mutex_never (base_shape ss a) ∙ none_of (base_kind ks a)
  bases_convert (bases.Number k) (bases.Number l) = refl
  bases_convert (bases.Number k) (bases.Struct j) = no_number k t.structs j ∙ number_apart (slice_index_or ks j None)
  bases_convert (bases.Struct i) (bases.Number l) =
      both_ways (slice_index_or ss i Void) (Number l) ∙ no_number l t.structs i ∙ struct_apart (slice_index_or ks i None)
  bases_convert (bases.Struct i) (bases.Struct j) = all i j ∙ kind_by_base (slice_index_or ks i None) (slice_index_or ks j None)

  pub types_convert : (to from : NbcType) → are_of_one_kind (type_kind ks to) (type_kind ks from) ≡ convertible (shape_in t.structs to) (shape_in t.structs from)
  types_convert to from =
      sym
      (as_many_arrays to.arrays from.arrays (base_shape ss to.base) (base_shape ss from.base) (no_list_base to.base) (no_list_base from.base)
      ∙ ap (λ b. b && to.arrays == from.arrays) (bases_convert to.base from.base)
      ∙ types_by_base (base_kind ks to.base) (base_kind ks from.base) to.arrays from.arrays)
