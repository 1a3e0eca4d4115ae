-- Lists of numbers that are stored by their bytes: what they take of the pool, and their bytes.
use Rattle.std.proofs.Common.{◌≡◌, ℕ, ◌+◌, ◌*◌, ◌/◌, ◌<◌, ◌≤◌, ◌^◌, List, [], ◌∷◌, map, length, sum_by, refl, sym, ap, ap₂, ◌∙◌, subst, arith}
use Rattle.std.proofs.lemmas.List.{length-map}
use Rattle.std.proofs.lemmas.List.Sums.{sum_by-cons}
use Rattle.nxt_types.specs.Arithmetic.{leaf_size}
use Rattle.nxt_types.specs.Pool.{round4, pool_size}
use Rattle.nxt_types.specs.Shapes.{Number, Array}
use Rattle.nxt_types.specs.declared.kind.Kind.{Kind}
use Rattle.nxt_types.specs.declared.kind.Kind.TheVariants.{Ubyte, Sbyte, Uword, Sword, Ulong, Slong}
use Rattle.nxt_model.specs.Footprint.{list_bytes}
use Rattle.nxt_model.specs.Values.{Value, ListOf, values, items, elements, list_of, stored, lists_in, lists_among}
use Rattle.nxt_model.proofs.Laws.Values.{items-values, values-items}
use Rattle.nxt_values.specs.Sizes.{IsCountable, size_in}
use Rattle.nxt_values.specs.declared.sizing.Size.{Size}
use Rattle.nxt_values.proofs.Laws.Sizes.{nothing}
use Rattle.nxt_space.specs.Spots.{IsListSpot, numbers_in_bytes}
use Rattle.nxt_space.specs.Variables.{Variables, AreSound, shape_of, with_value, with_values, footprint_of}
use Rattle.nxt_space.specs.declared.spots.ListSpot.{ListSpot}
use Rattle.nxt_space.proofs.Laws.InBytes.{whole_numbers, numbers_counted}
use Rattle.nxt_space.proofs.Laws.Variables.{footprint_told}
use Rattle.nxt_operands.specs.Operands.{with_list}
use Rattle.nxt_operands.proofs.Laws.InPlace.{list_named}
use Rattle.nxt_lists.specs.InBytes.{AreStored}

-- ---- what they take

no_lists : (k : Kind) (vs : List Value) → lists_among (values (map (stored (Number k)) vs)) ≡ 0
no_lists k [] = refl
no_lists k (v ∷ vs) = let more = no_lists k vs in omega (arith, more)

no_bytes : (k : Kind) (vs : List Value) → sum_by (list_bytes (Number k)) vs ≡ 0
no_bytes k [] = refl
no_bytes k (v ∷ vs) = omega (arith, sum_by-cons (list_bytes (Number k)) v vs, no_bytes k vs)

numbers_take : (n : ℕ) (k : Kind) (vs : List Value) → size_in (Array n (Number k)) (stored (Array n (Number k)) (list_of vs)) ≡ record { lists = 1; bytes = round4 (length vs * n) }
numbers_take n k vs =
    let t = Number k in
    let ws = map (stored t) vs in
    let is : stored (Array n t) (list_of vs) ≡ list_of ws = ap (λ us. list_of (map (stored t) us)) (items-values vs) in
    let lists : lists_in (list_of ws) ≡ 1 = let none = no_lists k vs in omega (arith, none) in
    let long : length (items (values ws)) ≡ length vs = ap length (items-values ws) ∙ length-map vs (stored t) in
    let bytes : list_bytes (Array n t) (list_of ws) ≡ round4 (length vs * n) =
    let own : round4 (length (items (values ws)) * n) ≡ round4 (length vs * n) = ap (λ m. round4 (m * n)) long in
    omega (arith, own, no_bytes k (items (values ws)))
    in
    ap (size_in (Array n t)) is ∙ ap₂ (λ l b. let z : Size = record { lists = l; bytes = b } in z) lists bytes

-- in a spot
pub list_takes : (s : Variables) (i : ℕ) (list : ListSpot) (vs : List Value) → IsListSpot s i list → size_in (shape_of s i) (stored (shape_of s i) (list_of vs)) ≡ record { lists = 1; bytes = round4 (length vs * leaf_size list.kind) }
list_takes s i list vs is =
    ap (λ t. size_in t (stored t (list_of vs))) is.shape ∙ numbers_take (leaf_size list.kind) list.kind vs

-- as much as is asked for so many numbers
pub record IsRoom (s : Variables) (i count : ℕ) (vs : List Value) : Type 0 where
  pub is : with_list (shape_of s i) count nothing ≡ size_in (shape_of s i) (stored (shape_of s i) (list_of vs))
  pub small : IsCountable (with_list (shape_of s i) count nothing)

few_bytes : (k : Kind) (count : ℕ) → count ≤ 2 ^ 32 → round4 (count * leaf_size k) + 0 < 3 * 2 ^ 62
few_bytes Ubyte count few = omega (arith, few)
few_bytes Sbyte count few = omega (arith, few)
few_bytes Uword count few = omega (arith, few)
few_bytes Sword count few = omega (arith, few)
few_bytes Ulong count few = omega (arith, few)
few_bytes Slong count few = omega (arith, few)

pub is_room : (s : Variables) (i count : ℕ) (list : ListSpot) (vs : List Value) → IsListSpot s i list → count ≡ length vs → count ≤ 2 ^ 32 → IsRoom s i count vs
is_room s i count list vs is counted few =
    let k = list.kind in
    let asked : with_list (shape_of s i) count nothing ≡ record { lists = 1; bytes = round4 (count * leaf_size k) + 0 } = ap (λ t. with_list t count nothing) is.shape in
    let bytes : round4 (count * leaf_size k) + 0 ≡ round4 (length vs * leaf_size k) =
    let own = ap (λ n. round4 (n * leaf_size k)) counted in omega (arith, own)
    in
    record {
      is = asked ∙ ap (λ b. let z : Size = record { lists = 1; bytes = b } in z) bytes ∙ sym (list_takes s i list vs is);
      small = subst IsCountable (sym asked) (record { lists = omega arith; bytes = few_bytes k count few });
    }

-- where the pool has room for it its numbers are few
pub room_few : (s : Variables) (i : ℕ) (list : ListSpot) (vs : List Value) → AreSound s → IsListSpot s i list → footprint_of (with_values (with_value s i (stored (shape_of s i) (list_of vs))) s) ≤ pool_size → length vs * leaf_size list.kind ≤ pool_size
room_few s i list vs sound is fits =
    let w = stored (shape_of s i) (list_of vs) in
    let told = footprint_told s i w sound.shapes (list_named s i list is) in
    let takes = ap (λ (z : Size). z.bytes) (list_takes s i list vs is) in
    omega (arith, told, takes, fits)

-- ---- their bytes

pub bytes_counted : {k : Kind} {bytes : List ℕ} {vs : List Value} → AreStored k bytes vs → length bytes ≡ length vs * leaf_size k
bytes_counted {k} {bytes} {vs} e =
    let many : length bytes / leaf_size k ≡ length vs = numbers_counted k bytes ∙ ap length e.are ∙ length-map vs (stored (Number k)) in
    whole_numbers k (length bytes) e.whole ∙ ap (λ n. n * leaf_size k) many

-- one number is short
few_of_one : (k : Kind) → 1 * leaf_size k < 2 ^ 31
few_of_one Ubyte = omega arith
few_of_one Sbyte = omega arith
few_of_one Uword = omega arith
few_of_one Sword = omega arith
few_of_one Ulong = omega arith
few_of_one Slong = omega arith

pub one_few : (k : Kind) (bytes : List ℕ) (v : Value) → AreStored k bytes (v ∷ []) → length bytes < 2 ^ 31
one_few k bytes v e = let counted = bytes_counted e in omega (arith, counted, few_of_one k)

numbers_listed : (k : Kind) (bytes : List ℕ) → list_of (elements (numbers_in_bytes k bytes)) ≡ numbers_in_bytes k bytes
numbers_listed k bytes = ap ListOf (values-items _)

-- a list of them is stored as what they are
pub list_of_numbers : (s : Variables) (i : ℕ) (list : ListSpot) (bytes : List ℕ) (vs : List Value) → IsListSpot s i list → AreStored list.kind bytes vs → numbers_in_bytes list.kind bytes ≡ stored (shape_of s i) (list_of vs)
list_of_numbers s i list bytes vs is e =
    let t = Number list.kind in
    sym (numbers_listed list.kind bytes)
    ∙ ap list_of (e.are ∙ ap (map (stored t)) (sym (items-values vs)))
    ∙ ap (λ u. stored u (list_of vs)) (sym is.shape)
