-- A value that is stored where another one was stored before.
use Rattle.std.proofs.Common.{◌≡◌, ℕ, zero, suc, List, [], ◌∷◌, set, get_or, pos, length, Option, Some, None, inl, inr, refl, sym, ap, ◌∙◌, ◌<◌, ◌≤◌, length-set}
use Rattle.std.proofs.lemmas.Bool.{cases_lt}
use Rattle.std.proofs.lemmas.List.{get_or-set_same, get_or_past, set_past}
use Rattle.nxt_types.specs.Names.{Name}
use Rattle.nxt_types.specs.Shapes.{Number}
use Rattle.nxt_model.specs.Values.{Value, Values, Num, ListOf, GroupOf, items, elements, stored, values, list_of, group_of, part, with_part}
use Rattle.nxt_model.proofs.Laws.Values.{items-values}
use Rattle.nxt_space.specs.declared.spots.ListSpot.{ListSpot}
use Rattle.nxt_space.specs.Variables.{Variables, SpaceViews, name_of, value_of, value_by, with_by, with_value, with_values}

abbrev none_there : Value
none_there = Num (pos 0)

-- ---- elements

set_again : (vs : List Value) (k : ℕ) (x y : Value) → set (set vs k x) k y ≡ set vs k y
set_again [] k x y = refl
set_again (v ∷ vs) zero x y = refl
set_again (v ∷ vs) (suc k) x y = ap (λ ws. v ∷ ws) (set_again vs k x y)

-- ---- parts

elements_over : (k : ℕ) (ks : List ℕ) (u w : Value) (es : List Value) → (let v = get_or es k none_there in with_part ks u (with_part ks w v) ≡ with_part ks u v) → let us = items (values (set es k (with_part ks w (get_or es k none_there)))) in set us k (with_part ks u (get_or us k none_there)) ≡ set es k (with_part ks u (get_or es k none_there))
elements_over k ks u w es deeper =
    let x = with_part ks w (get_or es k none_there) in
    ap (λ us. set us k (with_part ks u (get_or us k none_there))) (items-values (set es k x))
    ∙ elim (cases_lt k (length es)) [
      | inl less ↦
          ap (λ v. set (set es k x) k (with_part ks u v)) (get_or-set_same es k x none_there less)
          ∙ ap (set (set es k x) k) deeper
          ∙ set_again es k x (with_part ks u (get_or es k none_there))
      | inr past ↦ ap (λ us. set us k (with_part ks u (get_or us k none_there))) (set_past es k x past)
    ]

part_over : (path : List ℕ) (u w v : Value) → with_part path u (with_part path w v) ≡ with_part path u v
part_over [] u w v = refl
part_over (k ∷ ks) u w (Num z) = refl
part_over (k ∷ ks) u w (ListOf vs) = ap list_of (elements_over k ks u w (items vs) (part_over ks u w (get_or (items vs) k none_there)))
part_over (k ∷ ks) u w (GroupOf vs) = ap group_of (elements_over k ks u w (items vs) (part_over ks u w (get_or (items vs) k none_there)))

-- nothing stands in a number
no_part : (path : List ℕ) → part path none_there ≡ none_there
no_part [] = refl
no_part (k ∷ ks) = no_part ks

no_list : (vs : Values) → none_there ≡ ListOf vs → ⊥
no_list vs e = let f : ⊥ = cc in f

element_over : (k : ℕ) (ks : List ℕ) (vs : Values) (w : Value) (es : List Value) → (let v = get_or es k none_there in part ks v ≡ ListOf vs → part ks (with_part ks w v) ≡ w) → part ks (get_or es k none_there) ≡ ListOf vs → part ks (get_or (items (values (set es k (with_part ks w (get_or es k none_there))))) k none_there) ≡ w
element_over k ks vs w es deeper e =
    let x = with_part ks w (get_or es k none_there) in
    elim (cases_lt k (length es)) [
      | inl less ↦
          ap (λ us. part ks (get_or us k none_there)) (items-values (set es k x))
          ∙ ap (part ks) (get_or-set_same es k x none_there less)
          ∙ deeper e
      | inr past ↦ absurd (no_list vs (sym (no_part ks) ∙ ap (part ks) (sym (get_or_past es k none_there past)) ∙ e))
    ]

list_over : (path : List ℕ) (vs : Values) (w v : Value) → part path v ≡ ListOf vs → part path (with_part path w v) ≡ w
list_over [] vs w v e = refl
list_over (k ∷ ks) vs w (Num z) e = absurd (no_list vs (sym (no_part ks) ∙ e))
list_over (k ∷ ks) vs w (ListOf us) e = element_over k ks vs w (items us) (list_over ks vs w (get_or (items us) k none_there)) e
list_over (k ∷ ks) vs w (GroupOf us) e = element_over k ks vs w (items us) (list_over ks vs w (get_or (items us) k none_there)) e

-- ---- variables

over_by : (o : Option Name) (u w vars : Value) → with_by o u (with_by o w vars) ≡ with_by o u vars
over_by None u w vars = refl
over_by (Some n) u w vars = part_over n.path u w vars

pub value_over : (s : Variables) (i : ℕ) (u w : Value) → with_value (with_values (with_value s i w) s) i u ≡ with_value s i u
value_over s i u w = over_by (name_of s i) u w s.values

there_by : (o : Option Name) (vs : Values) (w vars : Value) → value_by o vars ≡ ListOf vs → value_by o (with_by o w vars) ≡ w
there_by None vs w vars e = absurd (no_list vs e)
there_by (Some n) vs w vars e = list_over n.path vs w vars e

-- what is stored where a list was
pub value_there : (s : Variables) (i : ℕ) (vs : Values) (w : Value) → value_of s i ≡ ListOf vs → value_of (with_values (with_value s i w) s) i ≡ w
value_there s i vs w e = there_by (name_of s i) vs w s.values e

-- a list in which an element is stored is as long as before
pub element_long : (mid new : SpaceViews) (i k w : ℕ) (list : ListSpot) (vs : Values) → value_of mid.vars i ≡ ListOf vs → (k < length (elements (value_of mid.vars i)) → new.vars ≡ record mid.vars { values = with_value mid.vars i (list_of (set (elements (value_of mid.vars i)) k (stored (Number list.kind) (Num (pos w))))) })
    → (length (elements (value_of mid.vars i)) ≤ k → new ≡ mid) → length (elements (value_of new.vars i)) ≡ length (elements (value_of mid.vars i))
element_long mid new i k w list vs is within past =
    let xs = elements (value_of mid.vars i) in
    let u = list_of (set xs k (stored (Number list.kind) (Num (pos w)))) in
    elim (cases_lt k (length xs)) [
      | inl less ↦
          let now : value_of new.vars i ≡ u = ap (λ v. value_of v i) (within less) ∙ value_there mid.vars i vs u is in
          ap (λ v. length (elements v)) now ∙ ap length (items-values (set xs k (stored (Number list.kind) (Num (pos w))))) ∙ length-set xs k (stored (Number list.kind) (Num (pos w)))
      | inr more ↦ ap (λ v. length (elements (value_of v.vars i))) (past more)
    ]
