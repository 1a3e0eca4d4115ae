-- What an entry names is a part of the variables.
use Rattle.std.proofs.Common.{◌≡◌, ℕ, zero, suc, ◌+◌, ◌-◌, inl, inr, List, [], ◌∷◌, Some, None, get_or, set, refl, sym, ap, ◌∙◌, subst, arith}
use Rattle.std.specs.Prelude.{pos}
use Rattle.nxt_space.proofs.Laws.Members.{first_or_behind}
use Rattle.nxt_types.specs.Shapes.{Shape, Void, Number, Array, Cluster, Mutex, Members, no_members, member}
use Rattle.nxt_types.specs.Names.{Name, below, size, name_in, name_among}
use Rattle.nxt_types.specs.declared.shape.TocEntry.{TocEntry}
use Rattle.nxt_model.specs.Values.{Value, Num, group_of, part, with_part}
use Rattle.nxt_model.proofs.Laws.Values.{items-values}
use Rattle.nxt_heap.specs.Lists.{Lists}
use Rattle.nxt_values.specs.Held.{value_at, values_among, values_in}
use Rattle.nxt_values.specs.declared.reading.Region.TheVariants.{Static}
use Rattle.nxt_values.proofs.Laws.StoredPart.{StandsIn, StandsAmong, with_value, with_value_among}
use Rattle.nxt_values.proofs.Laws.StoredHeld.{with_part_value}

-- what a shape's first entry names
abbrev pub whole_name : Shape → Name
whole_name s = record { path = []; shape = s }

-- ---- groups

-- value m, or 0 where there is none
abbrev pub item : List Value → ℕ → Value
item vs m = get_or vs m (Num (pos 0))

-- values with v for a part of value m
abbrev pub with_item : ℕ → List ℕ → Value → List Value → List Value
with_item m path v vs = set vs m (with_part path v (item vs m))

pub part_of_group : (m : ℕ) (path : List ℕ) (vs : List Value) → part (m ∷ path) (group_of vs) ≡ part path (item vs m)
part_of_group m path vs = ap (λ ws. part path (item ws m)) (items-values vs)

pub with_part_of_group : (m : ℕ) (path : List ℕ) (v : Value) (vs : List Value) → with_part (m ∷ path) v (group_of vs) ≡ group_of (with_item m path v vs)
with_part_of_group m path v vs = ap (λ ws. group_of (with_item m path v ws)) (items-values vs)

-- a member by its place, counted from 0
pub from_first : (path rest : List ℕ) (m : ℕ) → path ≡ (0 + m) ∷ rest → path ≡ m ∷ rest
from_first path rest m is = let e : 0 + m ≡ m = omega arith in is ∙ ap (λ k. k ∷ rest) e

-- ---- parts of the variables

-- the name leads from the value that entry i begins to the one that entry j begins
record IsPart (whole : Shape) (i j : ℕ) (n : Name) : Type 0 where
  stands : StandsIn whole i n.shape j
  reads : (table : List TocEntry) (h : Lists) → part n.path (value_at table h whole i h.static_bytes 0) ≡ value_at table h n.shape j h.static_bytes 0
  other : (table : List TocEntry) (h : Lists) (v : Value) → with_part n.path v (value_at table h whole i h.static_bytes 0) ≡ with_value table h Static 0 n.shape j whole i stands v

-- the same from the values of these members, the first of which is member k of their group
record IsPartAmong (ss : Members) (i j k : ℕ) (n : Name) : Type 0 where
  place : ℕ
  path : List ℕ
  leads : n.path ≡ (k + place) ∷ path
  stands : StandsAmong ss i n.shape j
  reads : (table : List TocEntry) (h : Lists) → part path (item (values_among table h ss i h.static_bytes 0) place) ≡ value_at table h n.shape j h.static_bytes 0
  other : (table : List TocEntry) (h : Lists) (v : Value) → with_item place path v (values_among table h ss i h.static_bytes 0) ≡ with_value_among table h Static 0 n.shape j ss i stands v

whole_part : (s : Shape) (i : ℕ) → IsPart s i i (whole_name s)
whole_part Void i = record { stands = (refl, refl); reads = λ table h. refl; other = λ table h v. refl }
whole_part (Number k) i = record { stands = (refl, refl); reads = λ table h. refl; other = λ table h v. refl }
whole_part (Array stride s) i = record { stands = (refl, refl); reads = λ table h. refl; other = λ table h v. refl }
whole_part (Cluster ss) i = record { stands = inl (refl, refl); reads = λ table h. refl; other = λ table h v. refl }
whole_part Mutex i = record { stands = (refl, refl); reads = λ table h. refl; other = λ table h v. refl }

whole_is : (s : Shape) (i j : ℕ) (n : Name) → i + 0 ≡ j → Some (whole_name s) ≡ Some n → IsPart s i j n
whole_is s i j n at e =
    let same : whole_name s ≡ n = cc in
    let there : i ≡ j = omega (arith, at) in
    subst (λ m. IsPart s i j m) same (subst (λ m. IsPart s i m (whole_name s)) there (whole_part s i))

no_name : (s : Shape) (i j : ℕ) (n : Name) → None ≡ Some n → IsPart s i j n
no_name s i j n e = let f : ⊥ = cc in absurd f

group_reads : (ss : Members) (i j : ℕ) (n : Name) → IsPartAmong ss i j 0 n → (table : List TocEntry) (h : Lists) → part n.path (group_of (values_among table h ss i h.static_bytes 0)) ≡ value_at table h n.shape j h.static_bytes 0
group_reads ss i j n p table h =
    let vs = values_among table h ss i h.static_bytes 0 in
    ap (λ path. part path (group_of vs)) (from_first n.path p.path p.place p.leads) ∙ part_of_group p.place p.path vs ∙ p.reads table h

group_other : (ss : Members) (i j : ℕ) (n : Name) (p : IsPartAmong ss i j 0 n) (table : List TocEntry) (h : Lists) (v : Value) → with_part n.path v (group_of (values_among table h ss i h.static_bytes 0)) ≡ group_of (with_value_among table h Static 0 n.shape j ss i p.stands v)
group_other ss i j n p table h v =
    let vs = values_among table h ss i h.static_bytes 0 in
    ap (λ path. with_part path v (group_of vs)) (from_first n.path p.path p.place p.leads)
    ∙ with_part_of_group p.place p.path v vs
    ∙ ap group_of (p.other table h v)

group_part : (ss : Members) (i j : ℕ) (n : Name) → IsPartAmong ss (i + 1) j 0 n → IsPart (Cluster ss) i j n
group_part ss i j n p =
    record { stands = inr p.stands; reads = group_reads ss (i + 1) j n p; other = group_other ss (i + 1) j n p }

first_part : (s : Shape) (ss : Members) (i j k : ℕ) (inner : Name) → IsPart s i j inner → IsPartAmong (member s ss) i j k (below k inner)
first_part s ss i j k inner p =
    let e : k ≡ k + 0 = omega arith in
    record {
      place = 0;
      path = inner.path;
      leads = ap (λ m. m ∷ inner.path) e;
      stands = inl p.stands;
      reads = p.reads;
      other = λ table h v. ap (λ w. w ∷ values_among table h ss (i + size s) h.static_bytes 0) (p.other table h v);
    }

next_part : (s : Shape) (ss : Members) (i j k : ℕ) (n : Name) → IsPartAmong ss (i + size s) j (k + 1) n → IsPartAmong (member s ss) i j k n
next_part s ss i j k n p =
    let e : k + 1 + p.place ≡ k + suc p.place = omega arith in
    record {
      place = suc p.place;
      path = p.path;
      leads = p.leads ∙ ap (λ m. m ∷ p.path) e;
      stands = inr p.stands;
      reads = p.reads;
      other = λ table h v. ap (λ ws. value_at table h s i h.static_bytes 0 ∷ ws) (p.other table h v);
    }

mutual
  part_in : (s : Shape) (i m j : ℕ) (n : Name) → i + m ≡ j → name_in s m ≡ Some n → IsPart s i j n
  part_in Void i zero j n at e = whole_is Void i j n at e
  part_in Void i (suc m) j n at e = no_name Void i j n e
  part_in (Number k) i zero j n at e = whole_is (Number k) i j n at e
  part_in (Number k) i (suc m) j n at e = no_name (Number k) i j n e
  part_in (Array stride s) i zero j n at e = whole_is (Array stride s) i j n at e
  part_in (Array stride s) i (suc m) j n at e = no_name (Array stride s) i j n e
  part_in (Cluster ss) i zero j n at e = whole_is (Cluster ss) i j n at e
  part_in (Cluster ss) i (suc m) j n at e = group_part ss i j n (part_among ss (i + 1) m j 0 n (omega (arith, at)) e)
  part_in Mutex i zero j n at e = whole_is Mutex i j n at e
  part_in Mutex i (suc m) j n at e = no_name Mutex i j n e

  part_among : (ss : Members) (i m j k : ℕ) (n : Name) → i + m ≡ j → name_among ss k m ≡ Some n → IsPartAmong ss i j k n
  part_among no_members i m j k n at e = let f : ⊥ = cc in absurd f
  part_among (member s ss) i m j k n at e =
      elim (first_or_behind s ss k m n e) [
        | inl here ↦ subst (IsPartAmong (member s ss) i j k) here.same (first_part s ss i j k here.inner (part_in s i m j here.inner at here.names))
        | inr there ↦ next_part s ss i j k n (part_among ss (i + size s) (m - size s) j (k + 1) n (omega (arith, at, there.past)) there.names)
      ]

-- ---- the laws

part_there : (ss : Members) (i : ℕ) (n : Name) → name_among ss 0 i ≡ Some n → IsPartAmong ss 0 i 0 n
part_there ss i n e = part_among ss 0 i i 0 n (omega arith) e

-- what an entry names stands among the variables
pub name_stands : (ss : Members) (i : ℕ) (n : Name) → name_among ss 0 i ≡ Some n → StandsAmong ss 0 n.shape i
name_stands ss i n e = (part_there ss i n e).stands

-- the part that it names is the value that its entry begins
pub part_named : (table : List TocEntry) (ss : Members) (h : Lists) (i : ℕ) (n : Name) → name_among ss 0 i ≡ Some n → part n.path (values_in table ss h) ≡ value_at table h n.shape i h.static_bytes 0
part_named table ss h i n e = group_reads ss 0 i n (part_there ss i n e) table h

-- and with another value for it the variables are those with another value for the part
pub with_named : (table : List TocEntry) (ss : Members) (h : Lists) (i : ℕ) (n : Name) (e : name_among ss 0 i ≡ Some n) (v : Value) → with_part_value table ss h n.shape i (name_stands ss i n e) v ≡ with_part n.path v (values_in table ss h)
unfolding name_stands
with_named table ss h i n e v = sym (group_other ss 0 i n (part_there ss i n e) table h v)
