-- Parts that stay beside a part that is written.
use Rattle.std.proofs.Common.{◌≡◌, ◌≢◌, ℕ, zero, suc, ◌⊎◌, inl, inr, true, false, List, [], ◌∷◌, get_or, set, length, refl, sym, ap, ◌∙◌, subst}
use Rattle.std.specs.Prelude.{pos}
use Rattle.std.proofs.lemmas.Bool.{cases_eq, cases_lt, false≢true, or_parts}
use Rattle.std.proofs.lemmas.List.{get_or-set_same, get_or-set_other, set_past}
use Rattle.nxt_types.specs.Shapes.{Shape, Void, Number, Array, Cluster, Mutex, has_list, is_numbers, shapes_of, Members, no_members, member, some_list}
use Rattle.nxt_model.specs.Values.{Value, Num, ListOf, GroupOf, items, elements, part, with_part, with_elements}
use Rattle.nxt_model.specs.SystemCalls.{field_shape}
use Rattle.nxt_model.specs.Dump.{shape_under}
use Rattle.nxt_model.proofs.Laws.Values.{items-values}
use Rattle.nxt_dumps.specs.Runnable.{EntersNoList}
use Rattle.nxt_dumps.proofs.Lengths.Parts.{under_void}

abbrev pub zero_value : Value
zero_value = Num (pos 0)

abbrev pub at : List Value → ℕ → Value
at vs k = get_or vs k zero_value

-- ---- members

-- a member that is written is what was written, where there is one
set_at : (vs : List Value) (k : ℕ) (w : Value) → (at (set vs k w) k ≡ w) ⊎ (at (set vs k w) k ≡ at vs k)
set_at vs k w = elim (cases_lt k (length vs)) [
  | inl less ↦ inl (get_or-set_same vs k w zero_value less)
  | inr past ↦ inr (ap (λ ws. at ws k) (set_past vs k w past))
]

member_at : (v : Value) (k : ℕ) (w : Value) → (at (elements (with_elements v (set (elements v) k w))) k ≡ w) ⊎ (at (elements (with_elements v (set (elements v) k w))) k ≡ at (elements v) k)
member_at (Num z) k w = inr refl
member_at (ListOf vs) k w = rw (items-values (set (items vs) k w)) (set_at (items vs) k w)
member_at (GroupOf vs) k w = rw (items-values (set (items vs) k w)) (set_at (items vs) k w)

member_other : (v : Value) (j k : ℕ) (w : Value) → j ≢ k → at (elements (with_elements v (set (elements v) j w))) k ≡ at (elements v) k
member_other (Num z) j k w other = refl
member_other (ListOf vs) j k w other = ap (λ ws. at ws k) (items-values (set (items vs) j w)) ∙ get_or-set_other (items vs) j k w zero_value (λ e. other (sym e))
member_other (GroupOf vs) j k w other = ap (λ ws. at ws k) (items-values (set (items vs) j w)) ∙ get_or-set_other (items vs) j k w zero_value (λ e. other (sym e))

-- ---- parts

-- the part stays, whatever is written there
abbrev pub StaysBeside : List ℕ → List ℕ → Type 0
StaysBeside ps qs = (w v : Value) → part qs (with_part ps w v) ≡ part qs v

inside_member : (k : ℕ) (ps qs : List ℕ) → StaysBeside ps qs → StaysBeside (k ∷ ps) (k ∷ qs)
inside_member k ps qs stays w v =
    elim (member_at v k (with_part ps w (at (elements v) k))) [
      | inl new ↦ ap (part qs) new ∙ stays w (at (elements v) k)
      | inr old ↦ ap (part qs) old
    ]

other_member : (j k : ℕ) (ps qs : List ℕ) → j ≢ k → StaysBeside (j ∷ ps) (k ∷ qs)
other_member j k ps qs other w v = ap (part qs) (member_other v j k (with_part ps w (at (elements v) j)) other)

-- ---- lists beside what is written

-- the shape holds no list, or is itself a list of numbers
abbrev pub IsShallow : Shape → Type 0
IsShallow s = (has_list s ≡ false) ⊎ (is_numbers s ≡ true)

void_is_none : (ks : List ℕ) (stride : ℕ) (s : Shape) → shape_under Void ks ≡ Array stride s → ⊥
void_is_none ks stride s e = let f : Void ≡ Array stride s = sym (under_void ks) ∙ e in let g : ⊥ = cc in g

field_has_none : (ss : Members) (k : ℕ) → some_list ss ≡ false → has_list (get_or (shapes_of ss) k Void) ≡ false
field_has_none no_members k none = refl
field_has_none (member s ss) zero none = (or_parts (has_list s) (some_list ss) none).0
field_has_none (member s ss) (suc k) none = field_has_none ss k (or_parts (has_list s) (some_list ss) none).1

-- no list stands under a shape without lists
none_under : (t : Shape) (ks : List ℕ) (stride : ℕ) (s : Shape) → has_list t ≡ false → shape_under t ks ≡ Array stride s → ⊥
none_under Void ks stride s none e = void_is_none ks stride s e
none_under (Number n) [] stride s none e = let f : ⊥ = cc in f
none_under (Number n) (k ∷ ks) stride s none e = void_is_none ks stride s e
none_under (Array more t) ks stride s none e = false≢true (sym none)
none_under (Cluster ss) [] stride s none e = let f : ⊥ = cc in f
none_under (Cluster ss) (k ∷ ks) stride s none e = none_under (field_shape k (Cluster ss)) ks stride s (field_has_none ss k none) e
none_under Mutex [] stride s none e = let f : ⊥ = cc in f
none_under Mutex (k ∷ ks) stride s none e = void_is_none ks stride s e

-- nothing stands under a shallow shape outside of its elements
not_under : (s : Shape) (k : ℕ) (ks : List ℕ) (stride : ℕ) (e : Shape) → IsShallow s → EntersNoList s (k ∷ ks) → shape_under s (k ∷ ks) ≡ Array stride e → ⊥
not_under s k ks stride e (inl none) in_q is = none_under s (k ∷ ks) stride e none is
not_under Void k ks stride e (inr numbers) in_q is = false≢true numbers
not_under (Number n) k ks stride e (inr numbers) in_q is = false≢true numbers
not_under (Array more s) k ks stride e (inr numbers) in_q is = in_q
not_under (Cluster ss) k ks stride e (inr numbers) in_q is = false≢true numbers
not_under Mutex k ks stride e (inr numbers) in_q is = false≢true numbers

not_over : (s : Shape) (j : ℕ) (js : List ℕ) (stride : ℕ) (e : Shape) → s ≡ Array stride e → EntersNoList s (j ∷ js) → ⊥
not_over Void j js stride e is in_p = let f : ⊥ = cc in f
not_over (Number n) j js stride e is in_p = let f : ⊥ = cc in f
not_over (Array more s) j js stride e is in_p = in_p
not_over (Cluster ss) j js stride e is in_p = let f : ⊥ = cc in f
not_over Mutex j js stride e is in_p = let f : ⊥ = cc in f

inside_too : (k : ℕ) (ps qs : List ℕ) → (ps ≡ qs) ⊎ StaysBeside ps qs → ((k ∷ ps) ≡ (k ∷ qs)) ⊎ StaysBeside (k ∷ ps) (k ∷ qs)
inside_too k ps qs (inl same) = inl (ap (λ xs. k ∷ xs) same)
inside_too k ps qs (inr stays) = inr (inside_member k ps qs stays)

-- a list stands where a shallow shape is written, or beside it
pub list_beside : (s : Shape) (ps qs : List ℕ) (stride : ℕ) (e : Shape) → EntersNoList s qs → shape_under s qs ≡ Array stride e → EntersNoList s ps → IsShallow (shape_under s ps) → (ps ≡ qs) ⊎ StaysBeside ps qs
list_beside s [] [] stride e in_q is in_p shallow = inl refl
list_beside s [] (k ∷ ks) stride e in_q is in_p shallow = absurd (not_under s k ks stride e shallow in_q is)
list_beside s (j ∷ js) [] stride e in_q is in_p shallow = absurd (not_over s j js stride e is in_p)
list_beside Void (j ∷ js) (k ∷ ks) stride e in_q is in_p shallow = absurd (void_is_none ks stride e is)
list_beside (Number n) (j ∷ js) (k ∷ ks) stride e in_q is in_p shallow = absurd (void_is_none ks stride e is)
list_beside (Array more s) (j ∷ js) (k ∷ ks) stride e in_q is in_p shallow = absurd in_q
list_beside (Cluster ss) (j ∷ js) (k ∷ ks) stride e in_q is in_p shallow =
    elim (cases_eq j k) [
      | inl same ↦
          subst
          (λ i. ((i ∷ js) ≡ (k ∷ ks)) ⊎ StaysBeside (i ∷ js) (k ∷ ks))
          (sym same)
          (inside_too k js ks
          (list_beside (field_shape k (Cluster ss)) js ks stride e in_q is
          (subst (λ i. EntersNoList (field_shape i (Cluster ss)) js) same in_p)
          (subst (λ i. IsShallow (shape_under (field_shape i (Cluster ss)) js)) same shallow)))
      | inr other ↦ inr (other_member j k js ks other)
    ]
list_beside Mutex (j ∷ js) (k ∷ ks) stride e in_q is in_p shallow = absurd (void_is_none ks stride e is)
