-- Rows and lists whose numbers have 16 bits.
use Rattle.std.proofs.Common.{◌≡◌, ℕ, suc, ◌+◌, ◌*◌, ◌<◌, ◌≤◌, ◌^◌, Bool, true, false, cond, nat_lt, List, [], ◌∷◌, ◌++◌, filter, flat_map, length, sum_by, Some, None, refl, sym, subst, length-append, arith}
use Rattle.std.specs.Prelude.{⊤}
use Rattle.std.proofs.lemmas.Bool.{ltb-false}
use Rattle.std.proofs.lemmas.List.Elements.{filter-append}
use Rattle.std.proofs.lemmas.List.Sums.{sum_by-append}
use Rattle.nxt_types.specs.Shapes.{Shape, Void, Number, Array, Cluster, Mutex, Members, no_members, member, members, leaf_bytes}
use Rattle.nxt_model.specs.Values.{Value, elements}
use Rattle.nxt_asm_parts.specs.AssembledParts.{Valued, dynamic_of, element_of, is_array, leaves_among, leaves_in, list_bytes_of, place_of, row_bytes, rows_from}
use Rattle.nxt_asm_parts.specs.Elements.{elements_among, elements_in, first_large, most_element}
use Rattle.nxt_asm_parts.specs.Fitting.{AreNarrow, IsNarrow}
use Rattle.nxt_asm_parts.specs.Lists.{AreSmall, lists_bytes}
use Rattle.nxt_asm_rules.proofs.Laws.StartValues.{item_count}

-- ---- elements

-- no element is too large
abbrev NoneLarge : List ℕ → Type 0
NoneLarge [] = ⊤
NoneLarge (n ∷ ns) = (n ≤ most_element) × NoneLarge ns

none_some : {A : Type 0} (x : A) → Some x ≡ None → ⊥
none_some x e = cc

none_large : (ns : List ℕ) → first_large ns ≡ None → NoneLarge ns
none_large [] none = tt
none_large (n ∷ ns) none = by (nat_lt most_element n) refl none (none_large ns)
  where
    by : (b : Bool) → nat_lt most_element n ≡ b → cond b (Some n) (first_large ns) ≡ None → (first_large ns ≡ None → NoneLarge ns)
        → (n ≤ most_element) × NoneLarge ns
    by true e none rest = absurd (none_some n none)
    by false e none rest = (ltb-false most_element n e, rest none)

front_large : (ms ns : List ℕ) → NoneLarge (ms ++ ns) → NoneLarge ms
front_large [] ns none = tt
front_large (m ∷ ms) ns none = (none.0, front_large ms ns none.1)

back_large : (ms ns : List ℕ) → NoneLarge (ms ++ ns) → NoneLarge ns
back_large [] ns none = none
back_large (m ∷ ms) ns none = back_large ms ns none.1

within_bits : (n : ℕ) → n ≤ 32768 → n ≤ 65535
within_bits n few = omega (arith, few)

mutual
  narrow_shape : (s : Shape) → NoneLarge (elements_in s) → IsNarrow s
  narrow_shape Void none = tt
  narrow_shape (Number k) none = tt
  narrow_shape (Array n s) none = (within_bits (leaf_bytes s) none.0, narrow_shape s none.1)
  narrow_shape (Cluster ss) none = narrow_members ss none
  narrow_shape Mutex none = tt

  narrow_members : (ss : Members) → NoneLarge (elements_among ss) → AreNarrow ss
  narrow_members no_members none = tt
  narrow_members (member s ss) none =
      (narrow_shape s (front_large (elements_in s) (elements_among ss) none), narrow_members ss (back_large (elements_in s) (elements_among ss) none))

narrow_all : (ss : List Shape) → NoneLarge (flat_map elements_in ss) → AreNarrow (members ss)
narrow_all [] none = tt
narrow_all (s ∷ ss) none =
    (narrow_shape s (front_large (elements_in s) (flat_map elements_in ss) none), narrow_all ss (back_large (elements_in s) (flat_map elements_in ss) none))

-- shapes without an element that is too large have elements of 16 bits
pub narrow_shapes : (ss : List Shape) → first_large (flat_map elements_in ss) ≡ None → AreNarrow (members ss)
narrow_shapes ss none = narrow_all ss (none_large (flat_map elements_in ss) none)

-- ---- strides and counts

small_append : (xs ys : List Valued) → AreSmall xs → AreSmall ys → AreSmall (xs ++ ys)
small_append [] ys first second = second
small_append (x ∷ xs) ys first second = (first.0, first.1, small_append xs ys first.2 second)

bits_of : (n : ℕ) → n ≤ 65535 → n < 2 ^ 16
bits_of n few = omega (arith, few)

count_bits : (n : ℕ) → 0 + n ≤ 65535 → n < 2 ^ 16
count_bits n few = omega (arith, few)

front_few : (a b c m : ℕ) → c ≡ a + b → c ≤ m → a ≤ m
front_few a b c m e f = omega (arith, e, f)

back_few : (a b c m : ℕ) → c ≡ a + b → c ≤ m → b ≤ m
back_few a b c m e f = omega (arith, e, f)

mutual
  small_in : (s : Shape) (v : Value) → IsNarrow s → sum_by item_count (leaves_in s v) ≤ 65535 → AreSmall (filter is_array (leaves_in s v))
  small_in Void v narrow few = tt
  small_in (Number k) v narrow few = tt
  small_in (Array n s) v narrow few = (bits_of (leaf_bytes s) narrow.0, count_bits (length (elements v)) few, tt)
  small_in (Cluster ss) v narrow few = small_among ss (elements v) narrow few
  small_in Mutex v narrow few = tt

  -- the arrays of narrow shapes, where their lists have few elements
  pub small_among : (ss : Members) (vs : List Value) → AreNarrow ss → sum_by item_count (leaves_among ss vs) ≤ 65535
      → AreSmall (filter is_array (leaves_among ss vs))
  small_among no_members vs narrow few = tt
  small_among (member s ss) [] narrow few = tt
  small_among (member s ss) (v ∷ vs) narrow few =
      let one : List Valued = leaves_in s v in
      let rest : List Valued = leaves_among ss vs in
      let both = sum_by-append item_count one rest in
      let front = front_few (sum_by item_count one) (sum_by item_count rest) (sum_by item_count (one ++ rest)) 65535 both few in
      let back = back_few (sum_by item_count one) (sum_by item_count rest) (sum_by item_count (one ++ rest)) 65535 both few in
      subst AreSmall (sym (filter-append is_array one rest))
      (small_append (filter is_array one) (filter is_array rest) (small_in s v narrow.0 front) (small_among ss vs narrow.1 back))

-- ---- the table of rows

length-rows : (at : ℕ) (as' : List Valued) → length (rows_from at as') ≡ 10 * length as'
length-rows at [] = refl
length-rows at (a ∷ as') =
    let place : ℕ = place_of at a in
    let stride : ℕ = leaf_bytes (element_of a.0) in
    let count : ℕ = length (elements a.1) in
    let next : ℕ = at + length (list_bytes_of a) in
    by (length as') (length (rows_from next as')) (length (row_bytes place stride count ++ rows_from next as'))
    (length-append (row_bytes place stride count) (rows_from next as')) (length-rows next as')
  where
    by : (n a b : ℕ) → b ≡ 10 + a → a ≡ 10 * n → b ≡ 10 * suc n
    by n a b e f = omega (arith, e, f)

-- the dynamic defaults are a table of rows and the lists, or nothing
pub length-dynamic-le : (n : ℕ) (as' : List Valued) → length (dynamic_of n as') ≤ 10 * (length as' + 1) + length (lists_bytes as')
length-dynamic-le n [] = omega arith
length-dynamic-le n (a ∷ as') =
    let rows : ℕ = length as' + 2 in
    let head : List ℕ = row_bytes n 10 rows in
    let table : List ℕ = rows_from (n + 10 * rows) (a ∷ as') in
    let lists : List ℕ = lists_bytes (a ∷ as') in
    by (length as') (length table) (length lists) (length (head ++ table)) (length (head ++ table ++ lists))
    (length-rows (n + 10 * rows) (a ∷ as')) (length-append head table) (length-append (head ++ table) lists)
  where
    by : (n a b c d : ℕ) → a ≡ 10 * suc n → c ≡ 10 + a → d ≡ c + b → d ≤ 10 * (suc n + 1) + b
    by n a b c d e f g = omega (arith, e, f, g)
