-- Stores one after another.
use Rattle.std.proofs.Common.{◌≡◌, ℕ, ◌⊎◌, inl, inr, Bool, true, false, ◌&&◌, ◌||◌, List, [], ◌∷◌, ◌++◌, length, get_or, refl, sym, ap, ◌∙◌, subst}
use Rattle.std.specs.Prelude.{not, nat_le}
use Rattle.std.specs.List.{list_all}
use Rattle.std.proofs.lemmas.Bool.{and_parts, or_cases, leb-true, false≢true}
use Rattle.nxt_facts.proofs.Each.{Each}
use Rattle.nxt_types.specs.Shapes.{Shape, Void, Number, Array, Cluster, Mutex, Members, has_list, is_number, is_numbers}
use Rattle.nxt_model.specs.Values.{Value, elements, part, is_of}
use Rattle.nxt_model.specs.Means.Effects.{Store}
use Rattle.nxt_model.specs.Variables.{Reference, PartOf, Constant, Plain, Target, Absent, put, put_all}
use Rattle.nxt_model.specs.Dump.{Written, shape_under, written_under, written_by}
use Rattle.nxt_dumps.specs.Runnable.{EntersNoList}
use Rattle.nxt_dumps.proofs.Lengths.Beside.{IsShallow, list_beside}
use Rattle.nxt_dumps.proofs.Lengths.Compared.{GotNoneLonger, GotNoLonger, SameLists}
use Rattle.nxt_dumps.proofs.Lengths.Parts.{with_part_of}

-- a value of its part's shape, and the part is in no list
abbrev pub IsPut : Members → Reference → List ℕ → Value → Type 0
IsPut own (PartOf n) path v =
    EntersNoList (Cluster own) (n.path ++ path)
    × (shape_under (Cluster own) (n.path ++ path) ≡ shape_under n.shape path)
    × (is_of (shape_under n.shape path) v ≡ true)
IsPut own _ path v = Unit {0}

abbrev pub ref_of : List Reference → Store → Reference
ref_of rs x = get_or rs x.operand Absent

abbrev pub ArePut : Members → List Reference → List Store → Type 0
ArePut own rs xs = Each (λ x. IsPut own (ref_of rs x) x.path x.value) xs

-- ---- shapes

put_of : (own : Members) (r : Reference) (path : List ℕ) (v vars : Value) → IsPut own r path v → is_of (Cluster own) vars ≡ true → is_of (Cluster own) (put r path v vars) ≡ true
put_of own (PartOf n) path v vars p e = with_part_of (Cluster own) (n.path ++ path) v vars p.0 e (ap (λ s. is_of s v) p.1 ∙ p.2)
put_of own (Constant s w) path v vars p e = e
put_of own (Plain n) path v vars p e = e
put_of own Target path v vars p e = e
put_of own Absent path v vars p e = e

-- the variables keep their shapes
pub put_all_of : (own : Members) (rs : List Reference) (xs : List Store) (vars : Value) → ArePut own rs xs → is_of (Cluster own) vars ≡ true → is_of (Cluster own) (put_all rs xs vars) ≡ true
put_all_of own rs [] vars p e = e
put_all_of own rs (x ∷ xs) vars p e =
    put_all_of own rs xs (put (ref_of rs x) x.path x.value vars) p.1 (put_of own (ref_of rs x) x.path x.value vars p.0 e)

pub put_all-append : (rs : List Reference) (xs ys : List Store) (vars : Value) → put_all rs (xs ++ ys) vars ≡ put_all rs ys (put_all rs xs vars)
put_all-append rs [] ys vars = refl
put_all-append rs (x ∷ xs) ys vars = put_all-append rs xs ys (put (ref_of rs x) x.path x.value vars)

-- ---- lists

-- the tests of what is written, one by one
abbrev TestsOne : (Written → Bool) → Reference → List ℕ → Value → Value → Type 0
TestsOne test (PartOf n) path before after =
    test (record { shape = shape_under n.shape path; before = part (n.path ++ path) before; after = part (n.path ++ path) after }) ≡ true
TestsOne test _ path before after = Unit {0}

tests_by : (test : Written → Bool) (r : Reference) (path : List ℕ) (before after : Value) (ws : List Written) → list_all test (written_under r path before after ++ ws) ≡ true → TestsOne test r path before after × (list_all test ws ≡ true)
tests_by test (PartOf n) path before after ws e = and_parts _ _ e
tests_by test (Constant s w) path before after ws e = (tt, e)
tests_by test (Plain n) path before after ws e = (tt, e)
tests_by test Target path before after ws e = (tt, e)
tests_by test Absent path before after ws e = (tt, e)

-- the list is one that is written
abbrev IsAt : List ℕ → Reference → List ℕ → Type 0
IsAt qs (PartOf n) path = n.path ++ path ≡ qs
IsAt qs _ path = ⊥

-- what is written there is shallow
abbrev ShallowAt : Reference → List ℕ → Type 0
ShallowAt (PartOf n) path = IsShallow (shape_under n.shape path)
ShallowAt _ path = Unit {0}

-- a store of something shallow leaves a list, or writes just it
put_beside : (own : Members) (r : Reference) (path : List ℕ) (v vars : Value) (qs : List ℕ) (stride : ℕ) (e : Shape) → EntersNoList (Cluster own) qs → shape_under (Cluster own) qs ≡ Array stride e
    → IsPut own r path v → ShallowAt r path → IsAt qs r path ⊎ (part qs (put r path v vars) ≡ part qs vars)
put_beside own (PartOf n) path v vars qs stride e in_q is p s =
    elim (list_beside (Cluster own) (n.path ++ path) qs stride e in_q is p.0 (subst IsShallow (sym p.1) s)) [
      | inl same ↦ inl same
      | inr stays ↦ inr (stays v vars)
    ]
put_beside own (Constant s w) path v vars qs stride e in_q is p s' = inr refl
put_beside own (Plain n) path v vars qs stride e in_q is p s = inr refl
put_beside own Target path v vars qs stride e in_q is p s = inr refl
put_beside own Absent path v vars qs stride e in_q is p s = inr refl

module _ (own : Members) (rs : List Reference) (before after : Value) (test : Written → Bool) (qs : List ℕ) (stride : ℕ) (e : Shape) (in_q : EntersNoList (Cluster own) qs) (is : shape_under (Cluster own) qs ≡ Array stride e)
    (shallow : (r : Reference) (path : List ℕ) → TestsOne test r path before after → ShallowAt r path)
    (G : Type 0)
    (hit : (r : Reference) (path : List ℕ) (v : Value) → TestsOne test r path before after → IsPut own r path v → IsAt qs r path → G) where
  -- stores of which each passes a test leave a list, or one of them writes just it
  list_kept : (xs : List Store) (vars : Value) → ArePut own rs xs → list_all test (written_by rs before after xs) ≡ true → (part qs (put_all rs xs vars) ≡ part qs vars) ⊎ G
  list_kept [] vars p t = inl refl
  list_kept (x ∷ xs) vars p t =
      let r = ref_of rs x in
      let tests = tests_by test r x.path before after (written_by rs before after xs) t in
      elim (put_beside own r x.path x.value vars qs stride e in_q is p.0 (shallow r x.path tests.0)) [
        | inl at ↦ inr (hit r x.path x.value tests.0 p.0 at)
        | inr same ↦ elim (list_kept xs (put r x.path x.value vars) p.1 tests.1) [
          | inl others ↦ inl (others ∙ same)
          | inr g ↦ inr g
        ]
      ]

-- ---- quiet stores

abbrev pub quiet_test : Written → Bool
quiet_test w = not (has_list w.shape)

not_true : (b : Bool) → not b ≡ true → b ≡ false
not_true true e = absurd (false≢true e)
not_true false e = refl

quiet_shallow : (before after : Value) (r : Reference) (path : List ℕ) → TestsOne quiet_test r path before after → ShallowAt r path
quiet_shallow before after (PartOf n) path t = inl (not_true (has_list (shape_under n.shape path)) t)
quiet_shallow before after (Constant s w) path t = tt
quiet_shallow before after (Plain n) path t = tt
quiet_shallow before after Target path t = tt
quiet_shallow before after Absent path t = tt

-- a part without lists is no list
quiet_hit : (own : Members) (before after : Value) (qs : List ℕ) (stride : ℕ) (e : Shape) → shape_under (Cluster own) qs ≡ Array stride e → (r : Reference) (path : List ℕ) (v : Value)
    → TestsOne quiet_test r path before after → IsPut own r path v → IsAt qs r path → ⊥
quiet_hit own before after qs stride e is (PartOf n) path v t p at =
    let same : shape_under n.shape path ≡ Array stride e = sym p.1 ∙ ap (shape_under (Cluster own)) at ∙ is in
    false≢true (sym (not_true (has_list (shape_under n.shape path)) t) ∙ ap has_list same)
quiet_hit own before after qs stride e is (Constant s w) path v t p at = at
quiet_hit own before after qs stride e is (Plain n) path v t p at = at
quiet_hit own before after qs stride e is Target path v t p at = at
quiet_hit own before after qs stride e is Absent path v t p at = at

pub quiet_stores : (own : Members) (rs : List Reference) (xs : List Store) (before after : Value) → ArePut own rs xs → list_all quiet_test (written_by rs before after xs) ≡ true → SameLists (Cluster own) before (put_all rs xs before)
quiet_stores own rs xs before after p t qs stride e in_q is =
    elim (list_kept own rs before after quiet_test qs stride e in_q is (quiet_shallow before after) ⊥ (quiet_hit own before after qs stride e is) xs before p t) [
      | inl same ↦ same
      | inr none ↦ absurd none
    ]

-- ---- stores that leave lists standing

abbrev pub standing_test : Written → Bool
standing_test w = is_number w.shape || is_numbers w.shape && nat_le (length (elements w.after)) (length (elements w.before))

number_shallow : (s : Shape) → is_number s ≡ true → has_list s ≡ false
number_shallow Void e = refl
number_shallow (Number k) e = refl
number_shallow (Array stride s) e = absurd (false≢true e)
number_shallow (Cluster ss) e = absurd (false≢true e)
number_shallow Mutex e = refl

standing_shallow : (before after : Value) (r : Reference) (path : List ℕ) → TestsOne standing_test r path before after → ShallowAt r path
standing_shallow before after (PartOf n) path t =
    let s = shape_under n.shape path in
    let less = nat_le (length (elements (part (n.path ++ path) after))) (length (elements (part (n.path ++ path) before))) in
    elim (or_cases (is_number s) (is_numbers s && less) t) [
      | inl number ↦ inl (number_shallow s number)
      | inr list ↦ inr (and_parts (is_numbers s) less list).0
    ]
standing_shallow before after (Constant s w) path t = tt
standing_shallow before after (Plain n) path t = tt
standing_shallow before after Target path t = tt
standing_shallow before after Absent path t = tt

standing_hit : (own : Members) (before after : Value) (qs : List ℕ) (stride : ℕ) (e : Shape) → shape_under (Cluster own) qs ≡ Array stride e → (r : Reference) (path : List ℕ) (v : Value)
    → TestsOne standing_test r path before after → IsPut own r path v → IsAt qs r path → GotNoLonger e (part qs before) (part qs after)
standing_hit own before after qs stride e is (PartOf n) path v t p at =
    let ps = n.path ++ path in
    let s = shape_under n.shape path in
    let same : s ≡ Array stride e = sym p.1 ∙ ap (shape_under (Cluster own)) at ∙ is in
    let less : List ℕ → Bool = λ xs. nat_le (length (elements (part xs after))) (length (elements (part xs before))) in
    let here : (is_number e && less qs) ≡ true = sym (ap (λ x. is_number x || is_numbers x && less ps) same ∙ ap (λ xs. is_number e && less xs) at) ∙ t in
    let both = and_parts (is_number e) (less qs) here in
    inr (both.0, leb-true (length (elements (part qs after))) (length (elements (part qs before))) both.1)
standing_hit own before after qs stride e is (Constant s w) path v t p at = absurd at
standing_hit own before after qs stride e is (Plain n) path v t p at = absurd at
standing_hit own before after qs stride e is Target path v t p at = absurd at
standing_hit own before after qs stride e is Absent path v t p at = absurd at

pub standing_stores : (own : Members) (rs : List Reference) (xs : List Store) (before : Value) → ArePut own rs xs → list_all standing_test (written_by rs before (put_all rs xs before) xs) ≡ true → GotNoneLonger (Cluster own) before (put_all rs xs before)
standing_stores own rs xs before p t qs stride e in_q is =
    let after = put_all rs xs before in
    elim (list_kept own rs before after standing_test qs stride e in_q is (standing_shallow before after) (GotNoLonger e (part qs before) (part qs after)) (standing_hit own before after qs stride e is) xs before p t) [
      | inl same ↦ inl same
      | inr got ↦ got
    ]
