-- Lists of numbers that stand in their place, with other elements.
use Rattle.std.proofs.Common.{◌≡◌, inl, inr, ℕ, ◌+◌, ◌*◌, ◌≤◌, ◌<◌, max, true, List, [], ◌∷◌, map, set, get_or, pos, length, sum_by, Option, Some, None, Ok, IsSome, refl, sym, ap, ap₂, ◌∙◌, subst, arith, length-set}
use Rattle.std.specs.List.{list_all}
use Rattle.std.proofs.lemmas.Bool.{and_parts, cases_lt}
use Rattle.std.proofs.lemmas.Bool.Decides.{Decides-int_eq}
use Rattle.std.proofs.lemmas.List.{set-get_or, set_past, map-set, length-map}
use Rattle.nxt_types.specs.Arithmetic.{leaf_size, cut}
use Rattle.nxt_types.specs.Names.{Name}
use Rattle.nxt_types.specs.Pool.{round4, pool_size}
use Rattle.nxt_types.specs.Shapes.{Shape, Number, Array, Cluster}
use Rattle.nxt_types.specs.declared.kind.Kind.{Kind}
use Rattle.nxt_model.specs.Footprint.{list_bytes}
use Rattle.nxt_model.specs.Values.{Value, Num, ListOf, GroupOf, values, items, elements, list_of, part, with_part, with_elements, stored, is_of, lists_in, lists_among}
use Rattle.nxt_model.proofs.Laws.Values.{items-values, values-items}
use Rattle.nxt_space.specs.Spots.{IsListSpot}
use Rattle.nxt_space.specs.Variables.{Variables, SpaceViews, AreSound, name_of, shape_of, shape_by, value_of, value_by, with_by, with_value, with_values, footprint_of}
use Rattle.nxt_space.specs.declared.spots.ListSpot.{ListSpot}
use Rattle.nxt_space.proofs.Laws.Variables.{value_sizes}
use Rattle.nxt_operands.proofs.Laws.Sizes.{sound_part}
use Rattle.nxt_operands.proofs.Laws.Stored.{Stores}

-- ---- a part that gets its own value

elements_again : (v : Value) → with_elements v (elements v) ≡ v
elements_again (Num z) = refl
elements_again (ListOf vs) = ap ListOf (values-items vs)
elements_again (GroupOf vs) = ap GroupOf (values-items vs)

part_again : (path : List ℕ) (v : Value) → with_part path (part path v) v ≡ v
part_again [] v = refl
part_again (k ∷ ks) v =
    let z = Num (pos 0) in
    ap (λ w. with_elements v (set (elements v) k w)) (part_again ks (get_or (elements v) k z))
    ∙ ap (with_elements v) (set-get_or (elements v) k z)
    ∙ elements_again v

by_name_again : (o : Option Name) (vars : Value) → with_by o (value_by o vars) vars ≡ vars
by_name_again None vars = refl
by_name_again (Some n) vars = part_again n.path vars

pub value_again : (s : Variables) (i : ℕ) → with_value s i (value_of s i) ≡ s.values
value_again s i = by_name_again (name_of s i) s.values

-- ---- a list of numbers in a spot

named_list : (o : Option Name) (n : ℕ) (t : Shape) → shape_by o ≡ Array n t → IsSome o
named_list None n t e = let f : ⊥ = cc in absurd f
named_list (Some name) n t e = refl

pub list_named : (s : Variables) (i : ℕ) (list : ListSpot) → IsListSpot s i list → IsSome (name_of s i)
list_named s i list is = named_list (name_of s i) (leaf_size list.kind) (Number list.kind) is.shape

-- its value is one of its shape
pub list_is : (s : Variables) (i : ℕ) (list : ListSpot) → AreSound s → IsListSpot s i list → is_of (Array (leaf_size list.kind) (Number list.kind)) (value_of s i) ≡ true
list_is s i list sound is = subst (λ t. is_of t (value_of s i) ≡ true) is.shape (sound_part s i sound (list_named s i list is)).of

-- numbers of a kind are stored as they are
numbers_same : (k : Kind) (vs : List Value) → list_all (is_of (Number k)) vs ≡ true → map (stored (Number k)) vs ≡ vs
numbers_same k [] e = refl
numbers_same k (Num z ∷ vs) e =
    let both = and_parts (is_of (Number k) (Num z)) (list_all (is_of (Number k)) vs) e in
    ap₂ (λ a b. Num a ∷ b) ((Decides-int_eq (cut k z) z).0 both.0) (numbers_same k vs both.1)
numbers_same k (ListOf ws ∷ vs) e = let f : ⊥ = cc in absurd f
numbers_same k (GroupOf ws ∷ vs) e = let f : ⊥ = cc in absurd f

own_stored : (k : Kind) (v : Value) → is_of (Array (leaf_size k) (Number k)) v ≡ true → stored (Array (leaf_size k) (Number k)) v ≡ v
own_stored k (Num z) e = let f : ⊥ = cc in absurd f
own_stored k (ListOf vs) e = ap (λ ws. list_of ws) (numbers_same k (items vs) e) ∙ ap ListOf (values-items vs)
own_stored k (GroupOf vs) e = let f : ⊥ = cc in absurd f

-- the list of a spot is stored in one of its kind as it is
pub list_stored : (s : Variables) (i j : ℕ) (to from : ListSpot) → AreSound s → IsListSpot s i to → IsListSpot s j from → from.kind ≡ to.kind → stored (shape_of s i) (value_of s j) ≡ value_of s j
list_stored s i j to from sound mine theirs same =
    let of = list_is s j from sound theirs in
    ap (λ t. stored t (value_of s j)) mine.shape
    ∙ ap (λ k. stored (Array (leaf_size k) (Number k)) (value_of s j)) (sym same)
    ∙ own_stored from.kind (value_of s j) of

-- ---- other elements, as many as before

elements_are : (n : ℕ) (k : Kind) (v : Value) → is_of (Array n (Number k)) v ≡ true → list_all (is_of (Number k)) (elements v) ≡ true
elements_are n k (Num z) e = let f : ⊥ = cc in absurd f
elements_are n k (ListOf vs) e = e
elements_are n k (GroupOf vs) e = let f : ⊥ = cc in absurd f

-- no lists stand in them
no_lists : (k : Kind) (us : List Value) → lists_among (values (map (stored (Number k)) us)) ≡ 0
no_lists k [] = refl
no_lists k (u ∷ us) = let none = no_lists k us in omega (arith, none)

no_bytes : (k : Kind) (us : List Value) → sum_by (list_bytes (Number k)) us ≡ 0
no_bytes k [] = refl
no_bytes k (u ∷ us) = let none = no_bytes k us in omega (arith, none)

-- what a list of numbers takes
record Takes (n count : ℕ) (s : Shape) (v : Value) : Type 0 where
  lists : lists_in v ≡ 1
  bytes : list_bytes s v ≡ round4 (count * n)

takes : (n : ℕ) (k : Kind) (us : List Value) → Takes n (length us) (Array n (Number k)) (list_of (map (stored (Number k)) us))
takes n k us =
    let ws = map (stored (Number k)) us in
    let same : length (items (values ws)) ≡ length us = ap length (items-values ws) ∙ length-map us (stored (Number k)) in
    record {
      lists = let none = no_lists k us in omega (arith, none);
      bytes = let none = no_bytes k (items (values ws)) in omega (arith, none, ap (λ m. round4 (m * n)) same);
    }

module _ (s : Variables) (i : ℕ) (list : ListSpot) (sound : AreSound s) (is : IsListSpot s i list) where
  abbrev k : Kind
  k = list.kind

  abbrev own : List Value
  own = elements (value_of s i)

  own_same : map (stored (Number k)) own ≡ own
  own_same = numbers_same k own (elements_are (leaf_size k) k (value_of s i) (list_is s i list sound is))

  own_again : list_of (map (stored (Number k)) own) ≡ value_of s i
  own_again = own_stored k (value_of s i) (list_is s i list sound is)

  -- the variables take as much of the pool as before
  pub record Stays (us : List Value) : Type 0 where
    pub same : with_values (with_value s i (stored (shape_of s i) (list_of us))) s ≡ record s { values = with_value s i (list_of (map (stored (Number k)) us)) }
    pub pool : footprint_of (with_values (with_value s i (stored (shape_of s i) (list_of us))) s) ≤ pool_size

  pub stays : (us : List Value) → length us ≡ length own → Stays us
  stays us many =
      let v = list_of (map (stored (Number k)) us) in
      let is_stored : stored (shape_of s i) (list_of us) ≡ v =
      ap (λ t. stored t (list_of us)) is.shape ∙ ap (λ ws. list_of (map (stored (Number k)) ws)) (items-values us) in
      let some = list_named s i list is in
      let before = value_sizes s i (value_of s i) sound.shapes some in
      let after = value_sizes s i v sound.shapes some in
      let again = value_again s i in
      let had = takes (leaf_size k) k own in
      let has = takes (leaf_size k) k us in
      let had_lists : lists_in (value_of s i) ≡ 1 = ap lists_in (sym own_again) ∙ had.lists in
      let had_bytes : list_bytes (shape_of s i) (value_of s i) ≡ round4 (length own * leaf_size k) =
      ap₂ list_bytes is.shape (sym own_again) ∙ had.bytes in
      let has_bytes : list_bytes (shape_of s i) v ≡ round4 (length us * leaf_size k) = ap (λ t. list_bytes t v) is.shape ∙ has.bytes in
      let lists : lists_in (with_value s i v) ≡ lists_in s.values = omega (arith, after.lists, before.lists, ap lists_in again, had_lists, has.lists) in
      let bytes : list_bytes (Cluster s.shapes) (with_value s i v) ≡ list_bytes (Cluster s.shapes) s.values =
      omega (
        arith,
        after.bytes,
        before.bytes,
        ap (list_bytes (Cluster s.shapes)) again,
        had_bytes,
        has_bytes,
        ap (λ n. round4 (n * leaf_size k)) many,
      ) in
      let rows : max s.rows (lists_in (with_value s i v) + 1) ≡ s.rows = omega (arith, lists, sound.rows) in
      let same : with_values (with_value s i v) s ≡ record s { values = with_value s i v } = ap {A = ℕ} (λ n. record s { values = with_value s i v; rows = n }) rows in
      let all : with_values (with_value s i (stored (shape_of s i) (list_of us))) s ≡ record s { values = with_value s i v } =
      ap (λ w. with_values (with_value s i w) s) is_stored ∙ same in
      record {
        same = all;
        pool = subst (λ t. footprint_of t ≤ pool_size) (sym all) (omega (arith, sound.pool, bytes));
      }

-- ---- one element of a list

-- a number that stands in an element, or past the end nowhere
pub element_put : (old new : SpaceViews) (i : ℕ) (list : ListSpot) (j : ℕ) (v w : Value) → AreSound old.vars → IsListSpot old.vars i list
    → stored (Number list.kind) w ≡ stored (Number list.kind) v
    → (j < length (elements (value_of old.vars i)) → new.vars ≡ record old.vars { values = with_value old.vars i (list_of (set (elements (value_of old.vars i)) j (stored (Number list.kind) w))) })
    → (length (elements (value_of old.vars i)) ≤ j → new ≡ old)
    → Stores old i (list_of (set (elements (value_of old.vars i)) j v)) (Ok tt) new
element_put old new i list j v w sound is same within past =
    let s = old.vars in
    let k = list.kind in
    let xs = elements (value_of s i) in
    let own = own_same s i list sound is in
    let rest = stays s i list sound is (set xs j v) (length-set xs j v) in
    let each : map (stored (Number k)) (set xs j v) ≡ set xs j (stored (Number k) w) =
    map-set (stored (Number k)) xs j v ∙ ap₂ (λ ys y. set ys j y) own (sym same) in
    let seen : new.vars ≡ record s { values = with_value s i (list_of (set xs j (stored (Number k) w))) } =
    elim (cases_lt j (length xs)) [
      | inl less ↦ within less
      | inr from ↦
          ap (λ (o : SpaceViews). o.vars) (past from)
          ∙ ap (λ u. record s { values = u }) (sym (value_again s i))
          ∙ ap (λ u. record s { values = with_value s i u }) (sym (own_again s i list sound is) ∙ ap list_of own)
          ∙ ap (λ ys. record s { values = with_value s i (list_of ys) }) (sym (set_past xs j (stored (Number k) w) from))
    ] in
    (rest.pool, seen ∙ ap (λ ys. record s { values = with_value s i (list_of ys) }) (sym each) ∙ sym rest.same, tt)
