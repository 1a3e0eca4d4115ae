-- Which values are elements for a list.
use Rattle.std.proofs.Common.{◌≡◌, ℕ, ◌^◌, ◌<◌, ◌≤◌, Bool, true, false, ◌||◌, if◌then◌else◌, List, [], ◌∷◌, length, sum_by, inl, inr, refl, sym, ap, ◌∙◌, arith}
use Rattle.std.specs.Prelude.{All}
use Rattle.std.specs.List.{list_all}
use Rattle.std.proofs.lemmas.Bool.{and_parts, or_cases, both_ways, cond_both}
use Rattle.std.proofs.lemmas.List.Elements.{All-nil, All-cons, All-weaker}
use Rattle.std.proofs.lemmas.List.Sums.{sum_by-cons}
use Rattle.std.proofs.lemmas.Nat.{mul-le}
use Rattle.nxt_types.specs.OperandRules.{is_list, element_of, goes_into}
use Rattle.nxt_types.specs.Shapes.{Shape, Array, convertible}
use Rattle.nxt_model.specs.Footprint.{list_bytes}
use Rattle.nxt_types.specs.Pool.{pool_size}
use Rattle.nxt_model.specs.Means.Arrays.{pieces}
use Rattle.nxt_model.specs.Means.Effects.{Given}
use Rattle.nxt_model.specs.Values.{Value, Values, ListOf, no_more, items, elements, is_of, lists_among, value}
use Rattle.nxt_space.specs.Variables.{HasStrides}
use Rattle.nxt_operands.proofs.Laws.Sizes.{IsSoundPart}
use Rattle.nxt_lists.proofs.Conversions.{fits_then, list_from}

-- a part of the variables that is an element for a list of such elements
pub record IsElement (s : Shape) (v : Value) : Type 0 where
  pub shape : Shape
  pub fits : convertible s shape ≡ true
  pub part : IsSoundPart shape v

-- the elements of a part are parts
each_sound : (t : Shape) (vs : Values) → HasStrides t → list_all (is_of t) (items vs) ≡ true → lists_among vs < 2 ^ 12 → sum_by (list_bytes t) (items vs) ≤ pool_size → All (IsSoundPart t) (items vs)
each_sound t no_more strides of few small = All-nil (IsSoundPart t)
each_sound t (value v vs) strides of few small =
    let two = and_parts (is_of t v) (list_all (is_of t) (items vs)) of in
    let sum = sum_by-cons (list_bytes t) v (items vs) in
    All-cons
    (IsSoundPart t)
    v
    (items vs)
    (record { strides = strides; of = two.0; lists = omega (arith, few); bytes = omega (arith, small, sum) })
    (each_sound t vs strides two.1 (omega (arith, few)) (omega (arith, small, sum)))

pub part_elements : (m : ℕ) (t : Shape) (v : Value) → IsSoundPart (Array m t) v → All (IsSoundPart t) (elements v)
part_elements m t (ListOf vs) e = each_sound t vs e.strides.2 e.of (omega (arith, e.lists)) (omega (arith, e.bytes))
part_elements m t v e = let g = e.of in let f : ⊥ = cc in absurd f

-- the elements of a list are elements for a list to which it converts
pub list_elements : (l u : Shape) (v : Value) → is_list l ≡ true → convertible l u ≡ true → IsSoundPart u v → All (IsElement (element_of l)) (elements v)
list_elements (Array n s) (Array m t) v is fits e =
    All-weaker (IsSoundPart t) (IsElement s) (λ w part. record { shape = t; fits = fits; part = part }) (elements v) (part_elements m t v e)
list_elements l u v is fits e = let f : ⊥ = cc in absurd f

-- what goes into a list gives elements for it
pub pieces_elements : (l u : Shape) (v : Value) → is_list l ≡ true → goes_into l u ≡ true → IsSoundPart u v → All (IsElement (element_of l)) (pieces l (Given u v))
pieces_elements (Array n s) u v is goes e =
    cond_both
    (convertible s u)
    (v ∷ [])
    (elements v)
    (All (IsElement s))
    (λ fits. All-cons (IsElement s) v [] (record { shape = u; fits = fits; part = e }) (All-nil (IsElement s)))
    (λ other. elim (or_cases (convertible s u) (convertible (Array n s) u) goes) [
      | inl fits ↦ absurd (both_ways (convertible s u) other fits)
      | inr fits ↦ list_elements (Array n s) u v refl fits e
    ])
pieces_elements l u v is goes e = let f : ⊥ = cc in absurd f

-- and elements for a list to which that one converts
pub elements_fit : (s t : Shape) (vs : List Value) → convertible s t ≡ true → All (IsElement t) vs → All (IsElement s) vs
elements_fit s t vs fits e =
    All-weaker (IsElement t) (IsElement s) (λ v one. record { shape = one.shape; fits = fits_then s t one.shape fits one.fits; part = one.part }) vs e

-- ---- how many there are

pub list_few : (l : Shape) (v : Value) → is_list l ≡ true → IsSoundPart l v → length (elements v) ≤ pool_size
list_few (Array n s) v is e =
    let count = length (elements v) in
    omega (arith, mul-le count 1 count n (omega arith) e.strides.0, e.bytes)
list_few l v is e = let f : ⊥ = cc in absurd f

-- a value that goes into a list as one element, or by its elements
pub record IsWhole (l u : Shape) (v : Value) : Type 0 where
  pub is : pieces l (Given u v) ≡ v ∷ []

pub record IsInParts (l u : Shape) (v : Value) : Type 0 where
  pub list : is_list u ≡ true
  pub is : pieces l (Given u v) ≡ elements v

pub whole_piece : (l u : Shape) (v : Value) → is_list l ≡ true → convertible (element_of l) u ≡ true → IsWhole l u v
whole_piece (Array n s) u v is fits = record { is = ap (λ b. if b then v ∷ [] else elements v) fits }
whole_piece l u v is fits = let f : ⊥ = cc in absurd f

pub in_parts : (l u : Shape) (v : Value) → is_list l ≡ true → convertible (element_of l) u ≡ false → goes_into l u ≡ true → IsInParts l u v
in_parts (Array n s) u v is other goes =
    let fits : convertible (Array n s) u ≡ true = ap (λ b. b || convertible (Array n s) u) (sym other) ∙ goes in
    record { list = list_from n s u fits; is = ap (λ b. if b then v ∷ [] else elements v) other }
in_parts l u v is other goes = let f : ⊥ = cc in absurd f

pieces_few_by : (l u : Shape) (v : Value) (b : Bool) → convertible (element_of l) u ≡ b → is_list l ≡ true → goes_into l u ≡ true → IsSoundPart u v → length (pieces l (Given u v)) ≤ pool_size
pieces_few_by l u v true fits is goes e = let one = ap length (whole_piece l u v is fits).is in omega (arith, one)
pieces_few_by l u v false other is goes e =
    let parts = in_parts l u v is other goes in
    let all = ap length parts.is in
    omega (arith, all, list_few u v parts.list e)

pub pieces_few : (l u : Shape) (v : Value) → is_list l ≡ true → goes_into l u ≡ true → IsSoundPart u v → length (pieces l (Given u v)) ≤ pool_size
pieces_few l u v is goes e = pieces_few_by l u v (convertible (element_of l) u) refl is goes e
