-- A list of numbers with another number in place of an element.
use Rattle.std.proofs.Common.{◌≡◌, ℕ, ◌*◌, ◌≤◌, ◌<◌, true, false, map, set, pos, length, Ok, inl, inr, refl, sym, ap, ap₂, ◌∙◌, subst, length-set}
use Rattle.std.proofs.lemmas.Bool.{cases_lt}
use Rattle.std.proofs.lemmas.List.{map-set, set_past}
use Rattle.nxt_types.specs.Arithmetic.{leaf_size, word}
use Rattle.nxt_types.specs.Pool.{round4}
use Rattle.nxt_types.specs.Shapes.{Number, convertible}
use Rattle.nxt_model.specs.Means.Effects.{element}
use Rattle.nxt_model.specs.Values.{Value, Num, elements, list_of, number, stored}
use Rattle.nxt_model.proofs.Laws.Values.{items-values}
use Rattle.nxt_values.specs.Sizes.{size_in}
use Rattle.nxt_values.specs.declared.sizing.Size.{Size}
use Rattle.nxt_space.specs.Outcomes.{Does}
use Rattle.nxt_space.specs.Spots.{IsSpot, IsListSpot}
use Rattle.nxt_space.specs.Variables.{Variables, SpaceViews, AreSound, shape_of, value_of, with_value, with_values}
use Rattle.nxt_space.specs.declared.spots.ListSpot.{ListSpot}
use Rattle.nxt_space.specs.declared.spots.Spot.{Spot}
use Rattle.nxt_space.proofs.Laws.Words.{stored_word}
use Rattle.nxt_operands.specs.Operands.{Done}
use Rattle.nxt_operands.proofs.Laws.InPlace.{list_named, list_stored}
use Rattle.nxt_operands.proofs.Laws.Stored.{Stores}
use Rattle.nxt_lists.proofs.NumberLists.{list_takes}
use Rattle.nxt_lists.proofs.SameEntry.{value_there, value_twice, exchanged}

-- a number is an element for a list of numbers
pub number_is_element : (s : Variables) (i j : ℕ) (list : ListSpot) (x : Spot) → IsListSpot s i list → IsSpot s j x → convertible (element (shape_of s i)) (shape_of s j) ≡ true
number_is_element s i j list x mine theirs = ap₂ (λ l u. convertible (element l) u) mine.shape theirs.shape

-- and a list of numbers is none
pub list_is_no_element : (s : Variables) (i j : ℕ) (list x : ListSpot) → IsListSpot s i list → IsListSpot s j x → convertible (element (shape_of s i)) (shape_of s j) ≡ false
list_is_no_element s i j list x mine theirs = ap₂ (λ l u. convertible (element l) u) mine.shape theirs.shape

-- a list of a kind holds its numbers as they are stored
pub own_elements : (s : Variables) (i j : ℕ) (to from : ListSpot) → AreSound s → IsListSpot s i to → IsListSpot s j from → from.kind ≡ to.kind → map (stored (Number to.kind)) (elements (value_of s j)) ≡ elements (value_of s j)
own_elements s i j to from sound mine theirs same =
    let v = value_of s j in
    sym (items-values (map (stored (Number to.kind)) (elements v)))
    ∙ ap elements (sym (ap (λ t. stored t v) mine.shape) ∙ list_stored s i j to from sound mine theirs same)

-- what is stored of a list with another element
with_element : (s : Variables) (i j k w : ℕ) (to from : ListSpot) (x : Value) → AreSound s → IsListSpot s i to → IsListSpot s j from → from.kind ≡ to.kind → w ≡ word (number x) → list_of (set (elements (value_of s j)) k (stored (Number to.kind) (Num (pos w)))) ≡ stored (shape_of s i) (list_of (set (elements (value_of s j)) k x))
with_element s i j k w to from x sound mine theirs same is =
    let t = Number to.kind in
    let xs = elements (value_of s j) in
    let one : stored t (Num (pos w)) ≡ stored t x = ap (λ n. stored t (Num (pos n))) is ∙ stored_word t (number x) refl in
    ap list_of
    (ap₂ (λ ys y. set ys k y) (sym (own_elements s i j to from sound mine theirs same)) one
    ∙ sym (map-set (stored t) xs k x)
    ∙ ap (map (stored t)) (sym (items-values (set xs k x))))
    ∙ ap (λ u. stored u (list_of (set xs k x))) (sym mine.shape)

-- it has the list's size
pub same_size : (s : Variables) (i j k : ℕ) (to from : ListSpot) (x : Value) → AreSound s → IsListSpot s i to → IsListSpot s j from → from.kind ≡ to.kind → size_in (shape_of s i) (value_of s j) ≡ size_in (shape_of s i) (stored (shape_of s i) (list_of (set (elements (value_of s j)) k x)))
same_size s i j k to from x sound mine theirs same =
    let v = value_of s j in
    let t = Number to.kind in
    let l = shape_of s i in
    let xs = elements v in
    let again : stored l (list_of xs) ≡ v =
    ap (λ u. stored u (list_of xs)) mine.shape
    ∙ ap (λ ys. list_of (map (stored t) ys)) (items-values xs)
    ∙ sym (ap (λ u. stored u v) mine.shape)
    ∙ list_stored s i j to from sound mine theirs same
    in
    ap (size_in l) (sym again)
    ∙ list_takes s i to xs mine
    ∙ ap (λ n. let z : Size = record { lists = 1; bytes = round4 (n * leaf_size to.kind) } in z) (sym (length-set xs k x))
    ∙ sym (list_takes s i to (set xs k x) mine)

-- a word is stored in an element of a list
pub record IsElementSet (old : SpaceViews) (list : ListSpot) (k w : ℕ) (new : SpaceViews) : Type 0 where
  pub within : (i : ℕ) → IsListSpot old.vars i list → k < length (elements (value_of old.vars i)) → new.vars ≡ record old.vars { values = with_value old.vars i (list_of (set (elements (value_of old.vars i)) k (stored (Number list.kind) (Num (pos w))))) }
  pub past : (i : ℕ) → IsListSpot old.vars i list → length (elements (value_of old.vars i)) ≤ k → new ≡ old

-- once the list has the value of one of its kind
pub element_replaced : (old mid new : SpaceViews) (i j k w : ℕ) (to from : ListSpot) (x : Value) → AreSound old.vars → IsListSpot old.vars i to → IsListSpot old.vars j from → from.kind ≡ to.kind → w ≡ word (number x) → Does {T = Unit {0}} Done (with_value old.vars i (value_of old.vars j)) old (Ok tt) mid → IsElementSet mid to k w new → Stores old i (list_of (set (elements (value_of old.vars j)) k x)) (Ok tt) new
element_replaced old mid new i j k w to from x sound mine theirs same is taken then =
    let s = old.vars in
    let l = shape_of s i in
    let v = value_of s j in
    let t = with_values (with_value s i v) s in
    let some = list_named s i to mine in
    let there : value_of t i ≡ v = value_there s i v sound some in
    let z = stored (Number to.kind) (Num (pos w)) in
    elim (cases_lt k (length (elements v))) [
      | inl less ↦
          let u = stored l (list_of (set (elements v) k x)) in
          let inside : k < length (elements (value_of t i)) = subst (λ y. k < length (elements y)) (sym there) less in
          let set_there : new.vars ≡ record t { values = with_value t i (list_of (set (elements (value_of t i)) k z)) } =
          subst (λ r. IsListSpot r i to → k < length (elements (value_of r i)) → new.vars ≡ record r { values = with_value r i (list_of (set (elements (value_of r i)) k z)) }) taken.1 (then.within i) mine inside
          in
          let all = exchanged s i v u sound some (same_size s i j k to from x sound mine theirs same) taken.0 in
          let is_there : new.vars ≡ with_values (with_value s i u) s =
          set_there
          ∙ ap (λ y. record t { values = with_value t i (list_of (set (elements y) k z)) }) there
          ∙ ap (λ y. record t { values = with_value t i y }) (with_element s i j k w to from x sound mine theirs same is)
          ∙ ap (λ vars. record t { values = vars }) (value_twice s i v u)
          ∙ all.are
          in
          (all.fits, is_there, tt)
      | inr more ↦
          let outside : length (elements (value_of t i)) ≤ k = subst (λ y. length (elements y) ≤ k) (sym there) more in
          let stays : new ≡ mid = subst (λ r. IsListSpot r i to → length (elements (value_of r i)) ≤ k → new ≡ mid) taken.1 (then.past i) mine outside in
          let all : v ≡ stored l (list_of (set (elements v) k x)) =
          sym (list_stored s i j to from sound mine theirs same)
          ∙ ap (λ u. stored u v) mine.shape
          ∙ ap (λ ys. list_of (map (stored (Number to.kind)) ys)) (sym (set_past (elements v) k x more) ∙ sym (items-values (set (elements v) k x)))
          ∙ ap (λ u. stored u (list_of (set (elements v) k x))) (sym mine.shape)
          in
          subst
          (λ y. Does {T = Unit {0}} Done (with_value s i y) old (Ok tt) new)
          all
          (subst (λ m. Does {T = Unit {0}} Done (with_value s i v) old (Ok tt) m) (sym stays) taken)
    ]

-- and then it is as long as before
pub element_long : (old mid new : SpaceViews) (i j k w : ℕ) (to : ListSpot) → AreSound old.vars → IsListSpot old.vars i to → Does {T = Unit {0}} Done (with_value old.vars i (value_of old.vars j)) old (Ok tt) mid → IsElementSet mid to k w new → length (elements (value_of new.vars i)) ≡ length (elements (value_of mid.vars i))
element_long old mid new i j k w to sound mine taken then =
    let s = old.vars in
    let v = value_of s j in
    let t = with_values (with_value s i v) s in
    let some = list_named s i to mine in
    let z = stored (Number to.kind) (Num (pos w)) in
    let xs = elements (value_of t i) in
    let had = ap (λ r. length (elements (value_of r i))) taken.1 in
    elim (cases_lt k (length xs)) [
      | inl less ↦
          let u = list_of (set xs k z) in
          let set_there : new.vars ≡ record t { values = with_value t i u } =
          subst (λ r. IsListSpot r i to → k < length (elements (value_of r i)) → new.vars ≡ record r { values = with_value r i (list_of (set (elements (value_of r i)) k z)) }) taken.1 (then.within i) mine less
          in
          let now : value_of new.vars i ≡ u = ap (λ r. value_of r i) (set_there ∙ ap (λ vars. record t { values = vars }) (value_twice s i v u)) ∙ value_there s i u sound some in
          ap (λ y. length (elements y)) now ∙ ap length (items-values (set xs k z)) ∙ length-set xs k z ∙ sym had
      | inr more ↦
          let stays : new ≡ mid = subst (λ r. IsListSpot r i to → length (elements (value_of r i)) ≤ k → new ≡ mid) taken.1 (then.past i) mine more in
          ap (λ r. length (elements (value_of r.vars i))) stays
    ]
