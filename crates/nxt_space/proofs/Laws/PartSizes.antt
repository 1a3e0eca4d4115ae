-- The size of the variables with another value for a part.
use Rattle.std.proofs.Common.{◌≡◌, ℕ, zero, suc, ◌+◌, ◌-◌, true, List, [], ◌∷◌, Some, None, refl, ap, ap₂, ◌∙◌, subst, arith, inl, inr}
use Rattle.std.proofs.lemmas.Bool.{and_parts, and_from}
use Rattle.nxt_types.specs.Shapes.{Shape, Void, Number, Array, Cluster, Mutex, Members, no_members, member}
use Rattle.nxt_types.specs.Names.{Name, below, size, name_in, name_among}
use Rattle.nxt_model.specs.Values.{Value, Values, Num, ListOf, GroupOf, values, items, group_of, is_of, are_of, part, with_part, lists_in, lists_among}
use Rattle.nxt_model.specs.Footprint.{list_bytes, member_bytes}
use Rattle.nxt_model.proofs.Laws.Values.{items-values, values-items}
use Rattle.nxt_space.proofs.Parts.Named.{whole_name, item, with_item, part_of_group, from_first}
use Rattle.nxt_space.proofs.Laws.Members.{first_or_behind}

-- what changes with v for a part of the value
record Changes (whole : Shape) (n : Name) (v old : Value) : Type 0 where
  lists : lists_in (with_part n.path v old) + lists_in (part n.path old) ≡ lists_in old + lists_in v
  bytes : list_bytes whole (with_part n.path v old) + list_bytes n.shape (part n.path old) ≡ list_bytes whole old + list_bytes n.shape v
  had : is_of n.shape (part n.path old) ≡ true
  has : is_of n.shape v ≡ true → is_of whole (with_part n.path v old) ≡ true
  reads : part n.path (with_part n.path v old) ≡ v

-- the same for the values of these members, the first of which is member k of their group
record ChangesAmong (ss : Members) (k : ℕ) (n : Name) (v : Value) (vs : List Value) : Type 0 where
  place : ℕ
  path : List ℕ
  leads : n.path ≡ (k + place) ∷ path
  lists : lists_among (values (with_item place path v vs)) + lists_in (part path (item vs place)) ≡ lists_among (values vs) + lists_in v
  bytes : member_bytes ss (with_item place path v vs) + list_bytes n.shape (part path (item vs place)) ≡ member_bytes ss vs + list_bytes n.shape v
  had : is_of n.shape (part path (item vs place)) ≡ true
  has : is_of n.shape v ≡ true → are_of ss (with_item place path v vs) ≡ true
  reads : part path (item (with_item place path v vs) place) ≡ v

whole_changes : (s : Shape) (n : Name) (v old : Value) → Some (whole_name s) ≡ Some n → is_of s old ≡ true → Changes s n v old
whole_changes s n v old e of =
    let same : whole_name s ≡ n = cc in
    let here : Changes s (whole_name s) v old = record { lists = omega arith; bytes = omega arith; had = of; has = λ f. f; reads = refl } in
    subst (λ m. Changes s m v old) same here

no_changes : (s : Shape) (n : Name) (v old : Value) → None ≡ Some n → Changes s n v old
no_changes s n v old e = let f : ⊥ = cc in absurd f

group_changes : (ss : Members) (n : Name) (v : Value) (vs : Values) → ChangesAmong ss 0 n v (items vs) → Changes (Cluster ss) n v (GroupOf vs)
group_changes ss n v vs c =
    let leads = from_first n.path c.path c.place c.leads in
    let new = with_item c.place c.path v (items vs) in
    let old = part c.path (item (items vs) c.place) in
    let is : with_part n.path v (GroupOf vs) ≡ group_of new = ap (λ path. with_part path v (GroupOf vs)) leads in
    let was : part n.path (GroupOf vs) ≡ old = ap (λ path. part path (GroupOf vs)) leads in
    record {
      lists = ap₂ (λ (x y : Value). lists_in x + lists_in y) is was
          ∙ c.lists
          ∙ ap (λ ws. lists_among ws + lists_in v) (values-items vs);
      bytes = ap₂ (λ (x y : Value). list_bytes (Cluster ss) x + list_bytes n.shape y) is was
          ∙ ap (λ ws. member_bytes ss ws + list_bytes n.shape old) (items-values new)
          ∙ c.bytes;
      had = ap (is_of n.shape) was ∙ c.had;
      has = λ of. ap (is_of (Cluster ss)) is ∙ ap (are_of ss) (items-values new) ∙ c.has of;
      reads = ap (part n.path) is ∙ ap (λ path. part path (group_of new)) leads ∙ part_of_group c.place c.path new ∙ c.reads;
    }

first_changes : (s : Shape) (ss : Members) (k : ℕ) (inner : Name) (v w : Value) (vs : List Value) → are_of ss vs ≡ true → Changes s inner v w → ChangesAmong (member s ss) k (below k inner) v (w ∷ vs)
first_changes s ss k inner v w vs rest c =
    let e : k ≡ k + 0 = omega arith in
    record {
      place = 0;
      path = inner.path;
      leads = ap (λ m. m ∷ inner.path) e;
      lists = omega (arith, c.lists);
      bytes = omega (arith, c.bytes);
      had = c.had;
      has = λ of. and_from (is_of s (with_part inner.path v w)) (are_of ss vs) (c.has of) rest;
      reads = c.reads;
    }

next_changes : (s : Shape) (ss : Members) (k : ℕ) (n : Name) (v w : Value) (vs : List Value) → is_of s w ≡ true → ChangesAmong ss (k + 1) n v vs → ChangesAmong (member s ss) k n v (w ∷ vs)
next_changes s ss k n v w vs first c =
    let e : k + 1 + c.place ≡ k + suc c.place = omega arith in
    record {
      place = suc c.place;
      path = c.path;
      leads = c.leads ∙ ap (λ m. m ∷ c.path) e;
      lists = omega (arith, c.lists);
      bytes = omega (arith, c.bytes);
      had = c.had;
      has = λ of. and_from (is_of s w) (are_of ss (with_item c.place c.path v vs)) first (c.has of);
      reads = c.reads;
    }

mutual
  changes_in : (s : Shape) (i : ℕ) (n : Name) (v old : Value) → name_in s i ≡ Some n → is_of s old ≡ true → Changes s n v old
  changes_in Void zero n v old e of = whole_changes Void n v old e of
  changes_in Void (suc i) n v old e of = no_changes Void n v old e
  changes_in (Number k) zero n v old e of = whole_changes (Number k) n v old e of
  changes_in (Number k) (suc i) n v old e of = no_changes (Number k) n v old e
  changes_in (Array stride s) zero n v old e of = whole_changes (Array stride s) n v old e of
  changes_in (Array stride s) (suc i) n v old e of = no_changes (Array stride s) n v old e
  changes_in (Cluster ss) zero n v old e of = whole_changes (Cluster ss) n v old e of
  changes_in (Cluster ss) (suc i) n v (Num z) e of = let f : ⊥ = cc in absurd f
  changes_in (Cluster ss) (suc i) n v (ListOf vs) e of = let f : ⊥ = cc in absurd f
  changes_in (Cluster ss) (suc i) n v (GroupOf vs) e of = group_changes ss n v vs (changes_among ss 0 i n v (items vs) e of)
  changes_in Mutex zero n v old e of = whole_changes Mutex n v old e of
  changes_in Mutex (suc i) n v old e of = no_changes Mutex n v old e

  changes_among : (ss : Members) (k i : ℕ) (n : Name) (v : Value) (vs : List Value) → name_among ss k i ≡ Some n → are_of ss vs ≡ true → ChangesAmong ss k n v vs
  changes_among no_members k i n v vs e of = let f : ⊥ = cc in absurd f
  changes_among (member s ss) k i n v [] e of = let f : ⊥ = cc in absurd f
  changes_among (member s ss) k i n v (w ∷ vs) e of =
      let two = and_parts (is_of s w) (are_of ss vs) of in
      elim (first_or_behind s ss k i n e) [
        | inl here ↦
            subst
            (λ m. ChangesAmong (member s ss) k m v (w ∷ vs))
            here.same
            (first_changes s ss k here.inner v w vs two.1 (changes_in s i here.inner v w here.names two.0))
        | inr there ↦ next_changes s ss k n v w vs two.0 (changes_among ss (k + 1) (i - size s) n v vs there.names two.1)
      ]

-- ---- the laws

changed : (ss : Members) (i : ℕ) (n : Name) (v vars : Value) → name_among ss 0 i ≡ Some n → is_of (Cluster ss) vars ≡ true → Changes (Cluster ss) n v vars
changed ss i n v vars e of = changes_in (Cluster ss) (suc i) n v vars e of

-- with another value for a named part the lists are those of the old values, less those of the old part, and those of the new one
pub lists_with_part : (ss : Members) (i : ℕ) (n : Name) (v vars : Value) → name_among ss 0 i ≡ Some n → is_of (Cluster ss) vars ≡ true → lists_in (with_part n.path v vars) + lists_in (part n.path vars) ≡ lists_in vars + lists_in v
lists_with_part ss i n v vars e of = (changed ss i n v vars e of).lists

-- and so are their bytes
pub bytes_with_part : (ss : Members) (i : ℕ) (n : Name) (v vars : Value) → name_among ss 0 i ≡ Some n → is_of (Cluster ss) vars ≡ true → list_bytes (Cluster ss) (with_part n.path v vars) + list_bytes n.shape (part n.path vars) ≡ list_bytes (Cluster ss) vars + list_bytes n.shape v
bytes_with_part ss i n v vars e of = (changed ss i n v vars e of).bytes

-- the part has the shape that its name tells
pub part_of_shape : (ss : Members) (i : ℕ) (n : Name) (vars : Value) → name_among ss 0 i ≡ Some n → is_of (Cluster ss) vars ≡ true → is_of n.shape (part n.path vars) ≡ true
part_of_shape ss i n vars e of = (changed ss i n vars vars e of).had

-- and with a value of that shape for it the variables have their shapes
pub with_part_of_shape : (ss : Members) (i : ℕ) (n : Name) (v vars : Value) → name_among ss 0 i ≡ Some n → is_of (Cluster ss) vars ≡ true → is_of n.shape v ≡ true → is_of (Cluster ss) (with_part n.path v vars) ≡ true
with_part_of_shape ss i n v vars e of fits = (changed ss i n v vars e of).has fits

-- and the part reads as that value
pub part_with_part : (ss : Members) (i : ℕ) (n : Name) (v vars : Value) → name_among ss 0 i ≡ Some n → is_of (Cluster ss) vars ≡ true → part n.path (with_part n.path v vars) ≡ v
part_with_part ss i n v vars e of = (changed ss i n v vars e of).reads
