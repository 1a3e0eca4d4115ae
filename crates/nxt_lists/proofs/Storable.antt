-- Values that are stored by what numbers spell.
use Rattle.std.proofs.Common.{◌≡◌, ℕ, ◌*◌, ◌<◌, ◌≤◌, true, List, [], length, get_or, IsSome, inl, inr, refl, sym, ap, ◌∙◌, subst, arith}
use Rattle.std.specs.Prelude.{ℤ, pos, slice_index_or}
use Rattle.std.proofs.lemmas.Bool.{and_parts, cases_lt}
use Rattle.std.proofs.lemmas.List.{get_or_default, get_or_past}
use Rattle.std.proofs.lemmas.List.Elements.{All-get_or}
use Rattle.nxt_types.specs.OperandRules.{is_list, element_of}
use Rattle.nxt_types.specs.Shapes.{Shape, Number, Array, Cluster, Members, no_members, member, convertible, convertible_members}
use Rattle.nxt_model.specs.Footprint.{list_bytes, member_bytes}
use Rattle.nxt_model.specs.Means.Effects.{element}
use Rattle.nxt_model.specs.Values.{Value, Values, Num, ListOf, GroupOf, no_more, items, elements, flat, stored, stored_members, zero_of, zeros_of, is_of, are_of, lists_in, lists_among, value}
use Rattle.nxt_values.specs.Fills.{filled, all_filled}
use Rattle.nxt_values.specs.Sizes.{IsCountable, size_in}
use Rattle.nxt_space.specs.Variables.{Variables, AreSound, name_of, shape_of, value_of}
use Rattle.nxt_operands.proofs.Laws.Sizes.{IsSoundPart, sound_part}
use Rattle.nxt_operands.proofs.Laws.Stored.{IsStorable, part_storable}
use Rattle.nxt_lists.proofs.ListElements.{part_elements}

-- ---- the zero value

-- no numbers spell the zero value
mutual
  zero_filled : (s t : Shape) → convertible s t ≡ true → filled s [] ≡ (stored s (zero_of t), [])
  zero_filled (Number k) (Number l) c = refl
  zero_filled (Array n s) (Array m t) c = refl
  zero_filled (Cluster ss) (Cluster ts) c = ap (λ (found : Values × List ℤ). (GroupOf found.0, found.1)) (zeros_filled ss ts c)
  zero_filled s t c = let f : ⊥ = cc in absurd f

  zeros_filled : (ss ts : Members) → convertible_members ss ts ≡ true → all_filled ss [] ≡ (stored_members ss (items (zeros_of ts)), [])
  zeros_filled no_members no_members c = refl
  zeros_filled (member s ss) (member t ts) c =
      let both = and_parts (convertible s t) (convertible_members ss ts) c in
      let more : Value × List ℤ → Values × List ℤ = λ o. (value o.0 (all_filled ss o.1).0, (all_filled ss o.1).1) in
      ap more (zero_filled s t both.0)
      ∙ ap (λ (r : Values × List ℤ). (value (stored s (zero_of t)) r.0, r.1)) (zeros_filled ss ts both.1)
  zeros_filled ss ts c = let f : ⊥ = cc in absurd f

-- a value with the fewest lists, whose blocks take no bytes
record IsLeast (s : Shape) (zero v : Value) : Type 0 where
  lists : lists_in zero ≤ lists_in v
  bytes : list_bytes s zero ≡ 0

record AreLeast (ss : Members) (zeros vs : Values) : Type 0 where
  lists : lists_among zeros ≤ lists_among vs
  bytes : member_bytes ss (items zeros) ≡ 0

mutual
  zero_least : (s t : Shape) (v : Value) → convertible s t ≡ true → is_of s v ≡ true → IsLeast s (stored s (zero_of t)) v
  zero_least (Number k) (Number l) (Num z) c e = record { lists = omega arith; bytes = refl }
  zero_least (Array n s) (Array m t) (ListOf vs) c e = record { lists = omega arith; bytes = let none : 0 * n ≡ 0 = omega arith in omega (arith, none) }
  zero_least (Cluster ss) (Cluster ts) (GroupOf vs) c e = let all = zeros_least ss ts vs c e in record { lists = all.lists; bytes = all.bytes }
  zero_least s t v c e = let f : ⊥ = cc in absurd f

  zeros_least : (ss ts : Members) (vs : Values) → convertible_members ss ts ≡ true → are_of ss (items vs) ≡ true → AreLeast ss (stored_members ss (items (zeros_of ts))) vs
  zeros_least no_members no_members no_more c e = record { lists = omega arith; bytes = refl }
  zeros_least (member s ss) (member t ts) (value v vs) c e =
      let both = and_parts (convertible s t) (convertible_members ss ts) c in
      let two = and_parts (is_of s v) (are_of ss (items vs)) e in
      let one = zero_least s t v both.0 two.0 in
      let more = zeros_least ss ts vs both.1 two.1 in
      record { lists = omega (arith, one.lists, more.lists); bytes = omega (arith, one.bytes, more.bytes) }
  zeros_least ss ts vs c e = let f : ⊥ = cc in absurd f

zero_storable : (s : Variables) (i : ℕ) (t : Shape) (zs : List ℤ) → AreSound s → IsSome (name_of s i) → convertible (shape_of s i) t ≡ true → zs ≡ [] → IsStorable s i (zero_of t) zs
zero_storable s i t zs sound some fits is =
    let l = shape_of s i in
    let part = sound_part s i sound some in
    let least = zero_least l t (value_of s i) fits part.of in
    let filled : (filled l zs).0 ≡ stored l (zero_of t) = ap (λ ys. (filled l ys).0) is ∙ ap (λ (r : Value × List ℤ). r.0) (zero_filled l t fits) in
    record {
      filled = filled;
      countable = subst (λ v. IsCountable (size_in l v)) (sym filled) (record { lists = omega (arith, least.lists, part.lists); bytes = omega (arith, least.bytes) });
    }

-- ---- an element

element_at : (m : ℕ) (t : Shape) (v : Value) (k : ℕ) → IsSoundPart (Array m t) v → k < length (elements v) → IsSoundPart t (get_or (elements v) k (Num (pos 0)))
element_at m t v k part within = All-get_or (IsSoundPart t) (elements v) k (Num (pos 0)) within (part_elements m t v part)

-- of a list an element, or the zero value past its end
index_by : (s : Variables) (i : ℕ) (u : Shape) (v : Value) (k : ℕ) (zs : List ℤ) → AreSound s → IsSome (name_of s i) → is_list u ≡ true → IsSoundPart u v → convertible (shape_of s i) (element_of u) ≡ true → (k < length (elements v) → zs ≡ flat (get_or (elements v) k (Num (pos 0)))) → (length (elements v) ≤ k → zs ≡ []) → IsStorable s i (slice_index_or (elements v) k (zero_of (element u))) zs
index_by s i (Array m t) v k zs sound some is part fits within past =
    let xs = elements v in
    let none = Num (pos 0) in
    elim (cases_lt k (length xs)) [
      | inl less ↦
          subst
          (λ w. IsStorable s i w zs)
          (get_or_default xs k none (zero_of t) less)
          (part_storable s i t (get_or xs k none) zs sound some (element_at m t v k part less) fits (within less))
      | inr more ↦
          subst
          (λ w. IsStorable s i w zs)
          (sym (get_or_past xs k (zero_of t) more))
          (zero_storable s i t zs sound some fits (past more))
    ]
index_by s i u v k zs sound some is part fits within past = let f : ⊥ = cc in absurd f

pub index_storable : (s : Variables) (dest list k : ℕ) (zs : List ℤ) → AreSound s → IsSome (name_of s dest) → IsSome (name_of s list) → is_list (shape_of s list) ≡ true → convertible (shape_of s dest) (element_of (shape_of s list)) ≡ true → let xs = elements (value_of s list) in (k < length xs → zs ≡ flat (get_or xs k (Num (pos 0)))) → (length xs ≤ k → zs ≡ []) → IsStorable s dest (slice_index_or xs k (zero_of (element (shape_of s list)))) zs
index_storable s dest list k zs sound has_dest has_list is fits within past =
    index_by s dest (shape_of s list) (value_of s list) k zs sound has_dest is (sound_part s list sound has_list) fits within past
