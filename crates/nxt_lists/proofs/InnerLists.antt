-- Lists of lists of numbers, whose elements are stored as they are.
use Rattle.std.proofs.Common.{◌≡◌, ℕ, ◌≤◌, zero, suc, Bool, true, List, [], ◌∷◌, map, set, get_or, length, Option, Some, None, Ok, IsSome, refl, sym, ap, ap₂, ◌∙◌, subst}
use Rattle.std.specs.Prelude.{pos}
use Rattle.std.specs.List.{list_all}
use Rattle.std.proofs.lemmas.Bool.{and_from, and_parts}
use Rattle.std.proofs.lemmas.Bool.Decides.{Decides-int_eq}
use Rattle.std.proofs.lemmas.List.{set_past}
use Rattle.nxt_types.specs.Arithmetic.{leaf_size, cut}
use Rattle.nxt_types.specs.Names.{Name}
use Rattle.nxt_types.specs.Shapes.{Shape, Void, Number, Array, Cluster, Mutex, Members, no_members, member, convertible}
use Rattle.nxt_types.specs.declared.kind.Kind.{Kind}
use Rattle.nxt_model.specs.Means.Effects.{element}
use Rattle.nxt_model.specs.Values.{Value, Values, Num, ListOf, GroupOf, no_more, value, items, elements, list_of, stored, stored_members, is_of, are_of}
use Rattle.nxt_model.proofs.Laws.Values.{items-values, values-items}
use Rattle.nxt_space.specs.Outcomes.{Does}
use Rattle.nxt_space.specs.Spots.{IsListSpot, IsInnerSpot}
use Rattle.nxt_space.specs.Variables.{Variables, SpaceViews, AreSound, name_of, shape_of, shape_by, value_of, with_value}
use Rattle.nxt_space.specs.declared.spots.InnerSpot.{InnerSpot}
use Rattle.nxt_space.specs.declared.spots.ListSpot.{ListSpot}
use Rattle.nxt_operands.specs.Operands.{Done}
use Rattle.nxt_operands.proofs.Laws.InPlace.{list_is}
use Rattle.nxt_operands.proofs.Laws.Sizes.{sound_part}
use Rattle.nxt_lists.proofs.SameEntry.{kept_there}

-- ---- a value of the shape

all_same : (kept : Value → Value) (of : Value → Bool) → ((v : Value) → of v ≡ true → kept v ≡ v) → (vs : List Value) → list_all of vs ≡ true → map kept vs ≡ vs
all_same kept of same [] e = refl
all_same kept of same (v ∷ vs) e =
    let both = and_parts (of v) (list_all of vs) e in
    ap₂ (λ w ws. w ∷ ws) (same v both.0) (all_same kept of same vs both.1)

-- is stored as it is
mutual
  stored_same : (s : Shape) (v : Value) → is_of s v ≡ true → stored s v ≡ v
  stored_same Void (Num z) e = ap Num (sym ((Decides-int_eq z (pos 0)).0 e))
  stored_same (Number k) (Num z) e = ap Num ((Decides-int_eq (cut k z) z).0 e)
  stored_same (Array n s) (ListOf vs) e =
      ap (λ ws. list_of ws) (all_same (stored s) (is_of s) (λ v of. stored_same s v of) (items vs) e) ∙ ap ListOf (values-items vs)
  stored_same (Cluster ss) (GroupOf vs) e = ap GroupOf (members_same ss vs e)
  stored_same Mutex (Num z) e = ap Num (sym ((Decides-int_eq z (pos 0)).0 e))
  stored_same s v e = let f : ⊥ = cc in absurd f

  members_same : (ss : Members) (vs : Values) → are_of ss (items vs) ≡ true → stored_members ss (items vs) ≡ vs
  members_same no_members no_more e = refl
  members_same (member s ss) (value v vs) e =
      let both = and_parts (is_of s v) (are_of ss (items vs)) e in
      ap₂ value (stored_same s v both.0) (members_same ss vs both.1)
  members_same ss vs e = let f : ⊥ = cc in absurd f

-- ---- elements

nth_of : (of : Value → Bool) (vs : List Value) (k : ℕ) (d : Value) → of d ≡ true → list_all of vs ≡ true → of (get_or vs k d) ≡ true
nth_of of [] k d last e = last
nth_of of (v ∷ vs) zero d last e = (and_parts (of v) (list_all of vs) e).0
nth_of of (v ∷ vs) (suc k) d last e = nth_of of vs k d last (and_parts (of v) (list_all of vs) e).1

set_of : (of : Value → Bool) (vs : List Value) (k : ℕ) (w : Value) → of w ≡ true → list_all of vs ≡ true → list_all of (set vs k w) ≡ true
set_of of [] k w is e = e
set_of of (v ∷ vs) zero w is e = and_from (of w) (list_all of vs) is (and_parts (of v) (list_all of vs) e).1
set_of of (v ∷ vs) (suc k) w is e =
    let both = and_parts (of v) (list_all of vs) e in
    and_from (of v) (list_all of (set vs k w)) both.0 (set_of of vs k w is both.1)

elements_of : (n : ℕ) (s : Shape) (v : Value) → is_of (Array n s) v ≡ true → list_all (is_of s) (elements v) ≡ true
elements_of n s (ListOf vs) e = e
elements_of n s v e = let f : ⊥ = cc in absurd f

list_again : (n : ℕ) (s : Shape) (v : Value) → is_of (Array n s) v ≡ true → list_of (elements v) ≡ v
list_again n s (ListOf vs) e = ap ListOf (values-items vs)
list_again n s v e = let f : ⊥ = cc in absurd f

-- ---- in spots

named : (o : Option Name) (n : ℕ) (t : Shape) → shape_by o ≡ Array n t → IsSome o
named None n t e = let f : ⊥ = cc in absurd f
named (Some name) n t e = refl

abbrev inner : Kind → Shape
inner k = Array (leaf_size k) (Number k)

lists_are : (s : Variables) (i : ℕ) (lists : InnerSpot) → AreSound s → IsInnerSpot s i lists → is_of (Array 2 (inner lists.kind)) (value_of s i) ≡ true
lists_are s i lists sound is =
    let some = named (name_of s i) 2 (inner lists.kind) is.shape in
    subst (λ t. is_of t (value_of s i) ≡ true) is.shape (sound_part s i sound some).of

-- an inner list, or no elements, is stored in a list of its kind as it is
pub element_stored : (s : Variables) (i j k : ℕ) (to : ListSpot) (lists : InnerSpot) → AreSound s → IsListSpot s i to → IsInnerSpot s j lists → lists.kind ≡ to.kind → stored (shape_of s i) (get_or (elements (value_of s j)) k (list_of [])) ≡ get_or (elements (value_of s j)) k (list_of [])
element_stored s i j k to lists sound mine theirs same =
    let v = get_or (elements (value_of s j)) k (list_of []) in
    let all = elements_of 2 (inner lists.kind) (value_of s j) (lists_are s j lists sound theirs) in
    let one : is_of (inner lists.kind) v ≡ true = nth_of (is_of (inner lists.kind)) (elements (value_of s j)) k (list_of []) refl all in
    ap (λ t. stored t v) mine.shape ∙ ap (λ n. stored (inner n) v) (sym same) ∙ stored_same (inner lists.kind) v one

-- and so is a list of lists with a list of the kind in the place of an element
pub lists_stored : (s : Variables) (i j k : ℕ) (lists : InnerSpot) (new : ListSpot) → AreSound s → IsInnerSpot s i lists → IsListSpot s j new → new.kind ≡ lists.kind → stored (shape_of s i) (list_of (set (elements (value_of s i)) k (value_of s j))) ≡ list_of (set (elements (value_of s i)) k (value_of s j))
lists_stored s i j k lists new sound mine theirs same =
    let xs = elements (value_of s i) in
    let w = value_of s j in
    let v = list_of (set xs k w) in
    let one : is_of (inner lists.kind) w ≡ true = subst (λ n. is_of (inner n) w ≡ true) same (list_is s j new sound theirs) in
    let all = elements_of 2 (inner lists.kind) (value_of s i) (lists_are s i lists sound mine) in
    let of : is_of (Array 2 (inner lists.kind)) v ≡ true =
    ap (list_all (is_of (inner lists.kind))) (items-values (set xs k w)) ∙ set_of (is_of (inner lists.kind)) xs k w one all in
    ap (λ t. stored t v) mine.shape ∙ stored_same (Array 2 (inner lists.kind)) v of

-- past the end it is the list of lists itself
pub past_end : (old : SpaceViews) (i j k : ℕ) (lists : InnerSpot) → AreSound old.vars → IsInnerSpot old.vars i lists → length (elements (value_of old.vars i)) ≤ k → Does {T = Unit {0}} Done (with_value old.vars i (list_of (set (elements (value_of old.vars i)) k (value_of old.vars j)))) old (Ok tt) old
past_end old i j k lists sound is past =
    let s = old.vars in
    let xs = elements (value_of s i) in
    let own : value_of s i ≡ list_of (set xs k (value_of s j)) =
    sym (list_again 2 (inner lists.kind) (value_of s i) (lists_are s i lists sound is))
    ∙ ap (λ ys. list_of ys) (sym (set_past xs k (value_of s j) past)) in
    subst (λ v. Does {T = Unit {0}} Done (with_value s i v) old (Ok tt) old) own (kept_there old i i sound refl)

-- a list of numbers is an element of a list of lists of numbers
pub list_is_element : (s : Variables) (i j : ℕ) (lists : InnerSpot) (x : ListSpot) → IsInnerSpot s i lists → IsListSpot s j x → convertible (element (shape_of s i)) (shape_of s j) ≡ true
list_is_element s i j lists x mine theirs = ap₂ (λ l u. convertible (element l) u) mine.shape theirs.shape
