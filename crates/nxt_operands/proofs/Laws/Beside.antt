-- A number that is stored leaves all lists of numbers.
use Rattle.std.proofs.Common.{◌≡◌, ◌≢◌, ℕ, zero, suc, ◌+◌, ◌-◌, ◌≤◌, ◌⊎◌, inl, inr, true, List, [], ◌∷◌, length, get_or, set, pos, Option, Some, None, refl, sym, ap, ◌∙◌, subst, arith}
use Rattle.std.proofs.lemmas.Bool.{cases_lt}
use Rattle.std.proofs.lemmas.List.{get_or-set_same, get_or-set_other, set_past}
use Rattle.nxt_types.specs.Names.{Name, size, name_in, name_among}
use Rattle.nxt_types.specs.Shapes.{Shape, Void, Number, Array, Cluster, Mutex, Members, no_members, member, is_number, is_numbers}
use Rattle.nxt_model.specs.Values.{Value, Num, ListOf, GroupOf, values, items, part, with_part}
use Rattle.nxt_model.proofs.Laws.Values.{items-values}
use Rattle.nxt_space.specs.Variables.{Variables, name_of, shape_of, shape_by, value_of, value_by, with_by, with_value}
use Rattle.nxt_space.proofs.Laws.Members.{first_or_behind}

-- ---- paths that part

abbrev Part : List ℕ → List ℕ → Type 0
Part [] q = ⊥
Part (a ∷ p) [] = ⊥
Part (a ∷ p) (b ∷ q) = (a ≢ b) ⊎ ((a ≡ b) × Part p q)

abbrev there : ℕ → List Value → Value
there a vs = get_or vs a (Num (pos 0))

other_item : (a b : ℕ) (y : Value) (vs : List Value) → a ≢ b → there a (items (values (set vs b y))) ≡ there a vs
other_item a b y vs differ = ap (there a) (items-values (set vs b y)) ∙ get_or-set_other vs b a y (Num (pos 0)) differ

same_item : (a : ℕ) (p q : List ℕ) (x : Value) (vs : List Value) → ((w : Value) → part p (with_part q x w) ≡ part p w) → part p (there a (items (values (set vs a (with_part q x (there a vs)))))) ≡ part p (there a vs)
same_item a p q x vs k =
    let y = with_part q x (there a vs) in
    ap (λ ws. part p (there a ws)) (items-values (set vs a y))
    ∙ elim (cases_lt a (length vs)) [
      | inl less ↦ ap (part p) (get_or-set_same vs a y (Num (pos 0)) less) ∙ k (there a vs)
      | inr past ↦ ap (λ ws. part p (there a ws)) (set_past vs a y past)
    ]

-- what stands at one is not changed at the other
parted : (p q : List ℕ) (x v : Value) → Part p q → part p (with_part q x v) ≡ part p v
parted [] q x v apart = absurd apart
parted (a ∷ p) [] x v apart = absurd apart
parted (a ∷ p) (b ∷ q) x (Num z) apart = refl
parted (a ∷ p) (b ∷ q) x (ListOf vs) (inl differ) = ap (part p) (other_item a b (with_part q x (there b (items vs))) (items vs) differ)
parted (a ∷ p) (b ∷ q) x (GroupOf vs) (inl differ) = ap (part p) (other_item a b (with_part q x (there b (items vs))) (items vs) differ)
parted (a ∷ p) (b ∷ q) x (ListOf vs) (inr same) =
    ap (λ k. part p (there a (items (values (set (items vs) k (with_part q x (there k (items vs)))))))) (sym same.0)
    ∙ same_item a p q x (items vs) (λ w. parted p q x w same.1)
parted (a ∷ p) (b ∷ q) x (GroupOf vs) (inr same) =
    ap (λ k. part p (there a (items (values (set (items vs) k (with_part q x (there k (items vs)))))))) (sym same.0)
    ∙ same_item a p q x (items vs) (λ w. parted p q x w same.1)

-- ---- names of a list of numbers and of a number

-- the first step leads to one of these members
record StepsPast (k : ℕ) (path : List ℕ) : Type 0 where
  step : ℕ
  rest : List ℕ
  is : path ≡ step ∷ rest
  past : k ≤ step

steps_past : (ss : Members) (k i : ℕ) (n : Name) → name_among ss k i ≡ Some n → StepsPast k n.path
steps_past no_members k i n e = let f : ⊥ = cc in absurd f
steps_past (member s ss) k i n e = elim (first_or_behind s ss k i n e) [
  | inl here ↦ record { step = k; rest = here.inner.path; is = sym (ap (λ (m : Name). m.path) here.same); past = omega arith }
  | inr behind ↦ let f = steps_past ss (k + 1) (i - size s) n behind.names in record { step = f.step; rest = f.rest; is = f.is; past = omega (arith, f.past) }
]

behind_first : (k : ℕ) (p path : List ℕ) → StepsPast (k + 1) path → Part (k ∷ p) path
behind_first k p path s = subst (Part (k ∷ p)) (sym s.is) (inl (λ e. omega (arith, e, s.past)))

first_behind : (k : ℕ) (p path : List ℕ) → StepsPast (k + 1) path → Part path (k ∷ p)
first_behind k p path s = subst (λ q. Part q (k ∷ p)) (sym s.is) (inl (λ e. omega (arith, e, s.past)))

-- a shape is not both
no_both : (s : Shape) (n m : Name) → Some (record { path = []; shape = s }) ≡ Some n → Some (record { path = []; shape = s }) ≡ Some m → is_numbers n.shape ≡ true → is_number m.shape ≡ true → ⊥
no_both Void n m e f numbers number = let g : ⊥ = cc in g
no_both (Number k) n m e f numbers number = let g : ⊥ = cc in g
no_both (Array stride s) n m e f numbers number = let g : ⊥ = cc in g
no_both (Cluster ss) n m e f numbers number = let g : ⊥ = cc in g
no_both Mutex n m e f numbers number = let g : ⊥ = cc in g

mutual
  part_in : (s : Shape) (i j : ℕ) (n m : Name) → name_in s i ≡ Some n → name_in s j ≡ Some m → is_numbers n.shape ≡ true → is_number m.shape ≡ true → Part n.path m.path
  part_in s zero zero n m e f numbers number = absurd (no_both s n m e f numbers number)
  part_in (Cluster ss) zero (suc j) n m e f numbers number = let g : ⊥ = cc in absurd g
  part_in (Cluster ss) (suc i) zero n m e f numbers number = let g : ⊥ = cc in absurd g
  part_in (Cluster ss) (suc i) (suc j) n m e f numbers number = part_among ss 0 i j n m e f numbers number
  part_in Void (suc i) j n m e f numbers number = let g : ⊥ = cc in absurd g
  part_in (Number k) (suc i) j n m e f numbers number = let g : ⊥ = cc in absurd g
  part_in (Array stride s) (suc i) j n m e f numbers number = let g : ⊥ = cc in absurd g
  part_in Mutex (suc i) j n m e f numbers number = let g : ⊥ = cc in absurd g
  part_in Void zero (suc j) n m e f numbers number = let g : ⊥ = cc in absurd g
  part_in (Number k) zero (suc j) n m e f numbers number = let g : ⊥ = cc in absurd g
  part_in (Array stride s) zero (suc j) n m e f numbers number = let g : ⊥ = cc in absurd g
  part_in Mutex zero (suc j) n m e f numbers number = let g : ⊥ = cc in absurd g

  part_among : (ss : Members) (k i j : ℕ) (n m : Name) → name_among ss k i ≡ Some n → name_among ss k j ≡ Some m → is_numbers n.shape ≡ true → is_number m.shape ≡ true → Part n.path m.path
  part_among no_members k i j n m e f numbers number = let g : ⊥ = cc in absurd g
  part_among (member s ss) k i j n m e f numbers number =
      elim (first_or_behind s ss k i n e) [
        | inl here ↦ elim (first_or_behind s ss k j m f) [
          | inl there ↦
              let inner = part_in s i j here.inner there.inner here.names there.names (ap (λ (o : Name). is_numbers o.shape) here.same ∙ numbers) (ap (λ (o : Name). is_number o.shape) there.same ∙ number) in
              subst (λ (o : Name). Part o.path m.path) here.same (subst (λ (o : Name). Part (k ∷ here.inner.path) o.path) there.same (inr (refl, inner)))
          | inr there ↦ subst (λ (o : Name). Part o.path m.path) here.same (behind_first k here.inner.path m.path (steps_past ss (k + 1) (j - size s) m there.names))
        ]
        | inr here ↦ elim (first_or_behind s ss k j m f) [
          | inl there ↦ subst (λ (o : Name). Part n.path o.path) there.same (first_behind k there.inner.path n.path (steps_past ss (k + 1) (i - size s) n here.names))
          | inr there ↦ part_among ss (k + 1) (i - size s) (j - size s) n m here.names there.names numbers number
        ]
      ]

-- ---- the law

by_names : (ss : Members) (i j : ℕ) (o q : Option Name) (x vars : Value) → name_among ss 0 i ≡ o → name_among ss 0 j ≡ q → is_numbers (shape_by o) ≡ true → is_number (shape_by q) ≡ true → value_by o (with_by q x vars) ≡ value_by o vars
by_names ss i j None q x vars e f numbers number = refl
by_names ss i j (Some n) None x vars e f numbers number = refl
by_names ss i j (Some n) (Some m) x vars e f numbers number = parted n.path m.path x vars (part_among ss 0 i j n m e f numbers number)

-- a list of numbers is as it was, when a number is stored
pub list_beside : (s : Variables) (i j : ℕ) (x : Value) → is_numbers (shape_of s i) ≡ true → is_number (shape_of s j) ≡ true → value_by (name_of s i) (with_value s j x) ≡ value_of s i
list_beside s i j x numbers number = by_names s.shapes i j (name_of s i) (name_of s j) x s.values refl refl numbers number
