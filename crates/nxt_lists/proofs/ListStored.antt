-- What is stored of a list's elements, and how much of the pool it takes.
use Rattle.std.proofs.Common.{◌≡◌, ℕ, ◌+◌, ◌*◌, ◌^◌, ◌≤◌, true, List, [], ◌∷◌, ◌++◌, map, length, sum_by, flat_map, IsSome, refl, sym, ap, ap₂, ◌∙◌, subst, arith, append-nil, append_assoc}
use Rattle.std.specs.Prelude.{ℤ, pos, All}
use Rattle.std.proofs.lemmas.List.{length-map}
use Rattle.std.proofs.lemmas.List.Elements.{All-head, All-tail, All-weaker, All-map}
use Rattle.std.proofs.lemmas.List.Sums.{sum_by-cons, sum_by-le}
use Rattle.std.proofs.lemmas.Nat.{mul-le}
use Rattle.nxt_types.specs.OperandRules.{is_list, element_of}
use Rattle.nxt_types.specs.Shapes.{Shape, Array}
use Rattle.nxt_model.specs.Footprint.{list_bytes}
use Rattle.nxt_model.specs.Values.{Value, Values, ListOf, values, items, list_of, flat, flats, many, stored, lists_in, lists_among, value}
use Rattle.nxt_model.proofs.Laws.Values.{items-values}
use Rattle.nxt_values.specs.Fills.{filled}
use Rattle.nxt_values.specs.Sizes.{IsCountable, size_in}
use Rattle.nxt_space.specs.Variables.{Variables, AreSound, HasStrides, name_of, shape_of}
use Rattle.nxt_values.specs.declared.sizing.Size.{Size}
use Rattle.nxt_values.proofs.Laws.Filled.{filled_stored}
use Rattle.nxt_operands.proofs.Laws.Sizes.{sound_part, grows}
use Rattle.nxt_operands.proofs.Laws.Stored.{IsStorable}
use Rattle.nxt_lists.specs.Pieces.{size_of_each}
use Rattle.nxt_operands.specs.Operands.{with_list}
use Rattle.nxt_lists.proofs.ListElements.{IsElement}

-- ---- by what numbers spell

many_elements : (s : Shape) (vs : List Value) (zs : List ℤ) → All (IsElement s) vs → many (length vs) (filled s) (flat_map flat vs ++ zs) ≡ (values (map (stored s) vs), zs)
many_elements s [] zs e = refl
many_elements s (v ∷ vs) zs e =
    let n = length vs in
    let one = All-head (IsElement s) v vs e in
    let more : Value × List ℤ → Values × List ℤ = λ o. (value o.0 (many n (filled s) o.1).0, (many n (filled s) o.1).1) in
    ap (λ xs. more (filled s xs)) (append_assoc (flat v) (flat_map flat vs) zs)
    ∙ ap more (filled_stored s one.shape v (flat_map flat vs ++ zs) one.fits one.part.of)
    ∙ ap (λ (r : Values × List ℤ). (value (stored s v) r.0, r.1)) (many_elements s vs zs (All-tail (IsElement s) v vs e))

flats_are : (vs : List Value) → flats (values vs) ≡ flat_map flat vs
flats_are [] = refl
flats_are (v ∷ vs) = ap (λ zs. flat v ++ zs) (flats_are vs)

-- a list's flat form
pub flat_list : (vs : List Value) → flat (list_of vs) ≡ pos (length vs) ∷ flat_map flat vs
flat_list vs = ap₂ (λ (us : List Value) zs. pos (length us) ∷ zs) (items-values vs) (flats_are vs)

-- so many elements that numbers begin with
pub elements_filled : (s : Shape) (vs : List Value) (zs : List ℤ) → All (IsElement s) vs → zs ≡ flat_map flat vs → items (many (length vs) (filled s) zs).0 ≡ map (stored s) vs
elements_filled s vs zs e is =
    ap (λ ys. items (many (length vs) (filled s) ys).0) (is ∙ sym (append-nil (flat_map flat vs)))
    ∙ ap (λ (r : Values × List ℤ). items r.0) (many_elements s vs [] e)
    ∙ items-values (map (stored s) vs)

list_filled : (n : ℕ) (s : Shape) (vs : List Value) (zs : List ℤ) → All (IsElement s) vs → zs ≡ flat (list_of vs) → (filled (Array n s) zs).0 ≡ stored (Array n s) (list_of vs)
list_filled n s vs zs e is =
    ap (λ ys. (filled (Array n s) ys).0) (is ∙ flat_list vs ∙ ap (λ xs. pos (length vs) ∷ xs) (sym (append-nil (flat_map flat vs))))
    ∙ ap (λ (r : Values × List ℤ). ListOf r.0) (many_elements s vs [] e)
    ∙ ap (λ us. list_of (map (stored s) us)) (sym (items-values vs))

-- ---- how much of the pool it takes

-- of so many elements
pub record AreSmall (size : Size) (count : ℕ) : Type 0 where
  pub lists : size.lists ≤ count * 2 ^ 12
  pub bytes : size.bytes ≤ count * (2 ^ 31 + 2 ^ 14)

pub element_small : (s : Shape) (v : Value) → HasStrides s → IsElement s v → AreSmall (size_in s (stored s v)) 1
element_small s v strides e =
    let g = grows s e.shape v strides e.part.strides e.fits e.part.of in
    record { lists = omega (arith, g.lists, e.part.lists); bytes = omega (arith, g.bytes, e.part.lists, e.part.bytes) }

pub each_small : (s : Shape) (vs : List Value) → HasStrides s → All (IsElement s) vs → AreSmall (size_of_each s (map (stored s) vs)) (length vs)
each_small s vs strides e =
    let ws = map (stored s) vs in
    let long = length-map vs (stored s) in
    let few : All (λ v. lists_in v ≤ 2 ^ 12) ws =
    All-map (λ v. lists_in v ≤ 2 ^ 12) (stored s) vs (All-weaker (IsElement s) (λ v. lists_in (stored s v) ≤ 2 ^ 12) (λ v one. omega (arith, (element_small s v strides one).lists)) vs e)
    in
    let short : All (λ v. list_bytes s v ≤ 2 ^ 31 + 2 ^ 14) ws =
    All-map (λ v. list_bytes s v ≤ 2 ^ 31 + 2 ^ 14) (stored s) vs (All-weaker (IsElement s) (λ v. list_bytes s (stored s v) ≤ 2 ^ 31 + 2 ^ 14) (λ v one. omega (arith, (element_small s v strides one).bytes)) vs e)
    in
    record {
      lists = omega (arith, sum_by-le lists_in (2 ^ 12) ws few, long);
      bytes = omega (arith, sum_by-le (list_bytes s) (2 ^ 31 + 2 ^ 14) ws short, long);
    }

lists_each : (vs : List Value) → lists_among (values vs) ≡ sum_by lists_in vs
lists_each [] = refl
lists_each (v ∷ vs) = ap (λ n. lists_in v + n) (lists_each vs) ∙ sym (sum_by-cons lists_in v vs)

list_sized : (n : ℕ) (s : Shape) (vs : List Value) → with_list (Array n s) (length vs) (size_of_each s (map (stored s) vs)) ≡ size_in (Array n s) (stored (Array n s) (list_of vs))
list_sized n s vs =
    let ws = map (stored s) vs in
    let same : map (stored s) (items (values vs)) ≡ ws = ap (map (stored s)) (items-values vs) in
    ap (λ k. with_list (Array n s) k (size_of_each s ws)) (sym (length-map vs (stored s)))
    ∙ ap₂ (λ l (us : List Value). with_list (Array n s) (length us) (record { lists = l; bytes = sum_by (list_bytes s) us })) (sym (lists_each ws)) (sym (items-values ws))
    ∙ ap (λ us. size_in (Array n s) (list_of us)) (sym same)

list_countable : (n : ℕ) (s : Shape) (vs : List Value) → HasStrides (Array n s) → All (IsElement s) vs → length vs ≤ 2 ^ 32 → IsCountable (with_list (Array n s) (length vs) (size_of_each s (map (stored s) vs)))
list_countable n s vs strides e few =
    let small = each_small s vs strides.2 e in
    record {
      lists = omega (arith, small.lists, few);
      bytes = omega (arith, small.bytes, few, mul-le (length vs) n (2 ^ 32) (2 ^ 16) few (omega (arith, strides.1)));
    }

-- ---- a list that is stored

-- what becomes of the list of these elements in a list of the shape
pub record IsListed (l : Shape) (vs : List Value) : Type 0 where
  pub sized : with_list l (length vs) (size_of_each (element_of l) (map (stored (element_of l)) vs)) ≡ size_in l (stored l (list_of vs))
  pub countable : IsCountable (size_in l (stored l (list_of vs)))
  pub filled : (zs : List ℤ) → zs ≡ flat (list_of vs) → (filled l zs).0 ≡ stored l (list_of vs)

listed : (l : Shape) (vs : List Value) → HasStrides l → is_list l ≡ true → All (IsElement (element_of l)) vs → length vs ≤ 2 ^ 32 → IsListed l vs
listed (Array n s) vs strides is e few =
    record {
      sized = list_sized n s vs;
      countable = subst IsCountable (list_sized n s vs) (list_countable n s vs strides e few);
      filled = λ zs spelled. list_filled n s vs zs e spelled;
    }
listed l vs strides is e few = let f : ⊥ = cc in absurd f

-- these are elements for a variable that is a list
pub record AreFor (s : Variables) (i : ℕ) (vs : List Value) : Type 0 where
  pub list : is_list (shape_of s i) ≡ true
  pub elements : All (IsElement (element_of (shape_of s i))) vs
  pub few : length vs ≤ 2 ^ 32

listed_in : (s : Variables) (i : ℕ) (vs : List Value) → AreSound s → IsSome (name_of s i) → AreFor s i vs → IsListed (shape_of s i) vs
listed_in s i vs sound some e = listed (shape_of s i) vs (sound_part s i sound some).strides e.list e.elements e.few

-- the flat form of a list is stored as that list
pub list_storable : (s : Variables) (i : ℕ) (vs : List Value) (zs : List ℤ) → AreSound s → IsSome (name_of s i) → AreFor s i vs → zs ≡ flat (list_of vs) → IsStorable s i (list_of vs) zs
list_storable s i vs zs sound some e spelled =
    let l = shape_of s i in
    let all = listed_in s i vs sound some e in
    let same = all.filled zs spelled in
    record { filled = same; countable = subst (λ v. IsCountable (size_in l v)) (sym same) all.countable }

-- the list of so many elements that take so much of the pool has the size of the value as it is stored
pub record HasSize (l : Shape) (count : ℕ) (size : Size) (v : Value) : Type 0 where
  pub is : with_list l count size ≡ size_in l (stored l v)
  pub small : IsCountable (with_list l count size)

pub list_size : (s : Variables) (i : ℕ) (vs : List Value) (count : ℕ) (size : Size) → AreSound s → IsSome (name_of s i) → AreFor s i vs → count ≡ length vs → let t = element_of (shape_of s i) in size ≡ size_of_each t (map (stored t) vs) → HasSize (shape_of s i) count size (list_of vs)
list_size s i vs count size sound some e counted sized =
    let all = listed_in s i vs sound some e in
    let is = ap₂ (with_list (shape_of s i)) counted sized ∙ all.sized in
    record { is = is; small = subst IsCountable (sym is) all.countable }
