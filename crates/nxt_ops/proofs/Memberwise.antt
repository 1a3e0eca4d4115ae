-- Clusters of numbers, number by number.
use Rattle.std.proofs.Common.{◌≡◌, ⊎_elim, ℕ, zero, suc, ◌+◌, ◌-◌, ◌<◌, ◌≤◌, ◌^◌, max, true, ◌&&◌, List, [], ◌∷◌, ◌++◌, get_or, set, length, map, Option, Some, None, IsSome, Ok, refl, sym, ap, ap₂, ◌∙◌, subst, arith}
use Rattle.std.specs.Prelude.{ℤ, pos, zip, slice_index_or}
use Rattle.std.specs.List.{list_all}
use Rattle.std.proofs.lemmas.Bool.{and_parts}
use Rattle.std.proofs.lemmas.Slice.Zip.{length-zip, get_or-zip}
use Rattle.nxt_types.specs.Arithmetic.{cut}
use Rattle.nxt_types.specs.Names.{Name, name_among, name_in, size}
use Rattle.nxt_types.specs.Shapes.{Shape, Void, Number, Array, Cluster, Mutex, Members, no_members, member, shapes_of, is_number, convertible, convertible_members}
use Rattle.nxt_model.specs.Values.{Value, Num, ListOf, GroupOf, items, group_of, elements, number, part, with_part, stored, stored_members, is_of, are_of, lists_in}
use Rattle.nxt_model.proofs.Laws.Values.{items-values, values-items, with_part-member}
use Rattle.nxt_types.specs.Pool.{pool_size}
use Rattle.nxt_space.specs.Outcomes.{Does}
use Rattle.nxt_space.specs.Variables.{Variables, SpaceViews, AreSound, footprint_of, name_of, shape_of, shape_by, value_of, value_by, with_by, with_value, with_values}
use Rattle.nxt_operands.specs.Operands.{Done}
use Rattle.nxt_space.proofs.Laws.PartSizes.{part_of_shape, part_with_part}
use Rattle.nxt_operands.proofs.Laws.Members.{entry_within, name_under, name_in_first, name_behind, some_entry}
use Rattle.nxt_operands.proofs.Laws.Paths.{AreBeside, clusters_apart, named_along, part_append, put_in_put, put_same}
use Rattle.nxt_ops.specs.Clusters.{HasNumbers}
use Rattle.nxt_ops.proofs.Passing.{Passed, passed_none, passed_more, passed_all, next_kept}

-- ---- their shapes

-- a number's value comes from a number alone
from_number : (s t : Shape) → is_number s ≡ true → convertible s t ≡ true → is_number t ≡ true
from_number (Number k) (Number l) e f = refl
from_number (Number k) Void e f = cc
from_number (Number k) (Array n t) e f = cc
from_number (Number k) (Cluster ts) e f = cc
from_number (Number k) Mutex e f = cc
from_number Void t e f = let g : ⊥ = cc in absurd g
from_number (Array n s) t e f = let g : ⊥ = cc in absurd g
from_number (Cluster ss) t e f = let g : ⊥ = cc in absurd g
from_number Mutex t e f = let g : ⊥ = cc in absurd g

from_numbers : (ss ts : Members) → list_all is_number (shapes_of ss) ≡ true → convertible_members ss ts ≡ true → (list_all is_number (shapes_of ts) ≡ true) × (length (shapes_of ts) ≡ length (shapes_of ss))
from_numbers no_members no_members e f = (refl, refl)
from_numbers no_members (member t ts) e f = let g : ⊥ = cc in absurd g
from_numbers (member s ss) no_members e f = let g : ⊥ = cc in absurd g
from_numbers (member s ss) (member t ts) e f =
    let numbers = and_parts (is_number s) (list_all is_number (shapes_of ss)) e in
    let fits = and_parts (convertible s t) (convertible_members ss ts) f in
    let more = from_numbers ss ts numbers.1 fits.1 in
    (ap₂ (λ a b. a && b) (from_number s t numbers.0 fits.0) more.0, ap suc more.1)

-- what converts to a cluster of numbers is one
pub from_cluster : (s t : Shape) (n : ℕ) → HasNumbers s n → convertible s t ≡ true → HasNumbers t n
from_cluster s t n h fit = by t (sym (ap (λ u. convertible u t) h.shape) ∙ fit)
  where
    by : (t : Shape) → convertible (Cluster h.members) t ≡ true → HasNumbers t n
    by (Cluster ts) e =
        let both = from_numbers h.members ts h.numbers e in
        record { members = ts; shape = refl; numbers = both.0; many = h.many ∙ sym both.1 }
    by Void e = let g : ⊥ = cc in absurd g
    by (Number k) e = let g : ⊥ = cc in absurd g
    by (Array m u) e = let g : ⊥ = cc in absurd g
    by Mutex e = let g : ⊥ = cc in absurd g

-- its values
are_many : (ss : Members) (vs : List Value) → are_of ss vs ≡ true → length vs ≡ length (shapes_of ss)
are_many no_members [] e = refl
are_many no_members (v ∷ vs) e = let f : ⊥ = cc in absurd f
are_many (member s ss) [] e = let f : ⊥ = cc in absurd f
are_many (member s ss) (v ∷ vs) e = ap suc (are_many ss vs (and_parts (is_of s v) (are_of ss vs) e).1)

cluster_values : (ss : Members) (v : Value) → is_of (Cluster ss) v ≡ true → (length (elements v) ≡ length (shapes_of ss)) × (group_of (elements v) ≡ v)
cluster_values ss (GroupOf vs) e = (are_many ss (items vs) e, ap GroupOf (values-items vs))
cluster_values ss (Num z) e = let f : ⊥ = cc in absurd f
cluster_values ss (ListOf vs) e = let f : ⊥ = cc in absurd f

-- ---- their entries

number_size : (s : Shape) → is_number s ≡ true → size s ≡ 1
number_size (Number k) e = refl
number_size Void e = refl
number_size Mutex e = refl
number_size (Array n s) e = let f : ⊥ = cc in absurd f
number_size (Cluster ss) e = let f : ⊥ = cc in absurd f

numbers_named : (ss : Members) (j k : ℕ) → list_all is_number (shapes_of ss) ≡ true → k < length (shapes_of ss) → name_among ss j k ≡ Some (record { path = (j + k) ∷ []; shape = slice_index_or (shapes_of ss) k Void })
numbers_named no_members j k e less = let f : ⊥ = omega (arith, less) in absurd f
numbers_named (member s ss) j zero e less =
    let at : j ≡ j + 0 = omega arith in
    name_in_first s ss j 0 (record { path = []; shape = s }) (some_entry s) (whole s) ∙ ap (λ n. Some (record { path = n ∷ []; shape = s })) at
  where
    whole : (s : Shape) → name_in s 0 ≡ Some (record { path = []; shape = s })
    whole Void = refl
    whole (Number k) = refl
    whole (Array n s) = refl
    whole (Cluster ss) = refl
    whole Mutex = refl
numbers_named (member s ss) j (suc k) e less =
    let both = and_parts (is_number s) (list_all is_number (shapes_of ss)) e in
    let one = number_size s both.0 in
    let rest : suc k - size s ≡ k = omega (arith, one) in
    let at : j + 1 + k ≡ j + suc k = omega arith in
    name_behind s ss j (suc k) (omega (arith, one))
    ∙ ap (name_among ss (j + 1)) rest
    ∙ numbers_named ss (j + 1) k both.1 (omega (arith, less))
    ∙ ap (λ n. Some (record { path = n ∷ []; shape = slice_index_or (shapes_of ss) k Void })) at

-- ---- a cluster of numbers that an entry names

pub record IsCluster (s : Variables) (i n : ℕ) : Type 0 where
  pub name : Name
  pub is : name_of s i ≡ Some name
  pub numbers : HasNumbers name.shape n

pub is_cluster : (s : Variables) (i n : ℕ) → IsSome (name_of s i) → HasNumbers (shape_of s i) n → IsCluster s i n
is_cluster s i n some h = by (name_of s i) refl some h
  where
    by : (o : Option Name) → name_of s i ≡ o → IsSome o → HasNumbers (shape_by o) n → IsCluster s i n
    by None is some h = let f : ⊥ = cc in absurd f
    by (Some m) is some h = record { name = m; is = is; numbers = h }

-- its k-th number
member_named : (s : Variables) (i n k : ℕ) (c : IsCluster s i n) → k < n → name_of s (i + 1 + k) ≡ Some (record { path = c.name.path ++ k ∷ []; shape = slice_index_or (shapes_of c.numbers.members) k Void })
member_named s i n k c less =
    let at : i + 1 + k ≡ i + (1 + k) = omega arith in
    let first : 0 + k ≡ k = omega arith in
    let m : Name = record { path = k ∷ []; shape = slice_index_or (shapes_of c.numbers.members) k Void } in
    ap (name_of s) at
    ∙ name_under s.shapes c.numbers.members i k c.name m c.is c.numbers.shape
    (numbers_named c.numbers.members 0 k c.numbers.numbers (omega (arith, less, c.numbers.many)) ∙ ap (λ j. Some (record { path = j ∷ []; shape = slice_index_or (shapes_of c.numbers.members) k Void })) first)

number_there : (ss : List Shape) (k : ℕ) → list_all is_number ss ≡ true → k < length ss → is_number (slice_index_or ss k Void) ≡ true
number_there [] k e less = let f : ⊥ = omega (arith, less) in absurd f
number_there (s ∷ ss) zero e less = (and_parts (is_number s) (list_all is_number ss) e).0
number_there (s ∷ ss) (suc k) e less = number_there ss k (and_parts (is_number s) (list_all is_number ss) e).1 (omega (arith, less))

-- the entry is one of 16 bits
pub member_small : (s : Variables) (i n k : ℕ) (c : IsCluster s i n) → AreSound s → k < n → i + 1 + k < 2 ^ 16
member_small s i n k c sound less = omega (arith, entry_within s.shapes (i + 1 + k) _ (member_named s i n k c less), sound.entries)

-- a number begins there
pub member_number : (s : Variables) (i n k : ℕ) (c : IsCluster s i n) → k < n → is_number (shape_of s (i + 1 + k)) ≡ true
member_number s i n k c less =
    ap (λ o. is_number (shape_by o)) (member_named s i n k c less) ∙ number_there (shapes_of c.numbers.members) k c.numbers.numbers (omega (arith, less, c.numbers.many))

-- a number is stored by its own alone
stored_number : (t : Shape) (x : ℤ) (v : Value) → is_number t ≡ true → x ≡ number v → stored t (Num x) ≡ stored t v
stored_number (Number k) x v e is = ap (λ z. Num (cut k z)) is
stored_number Void x v e is = refl
stored_number Mutex x v e is = refl
stored_number (Array n t) x v e is = let f : ⊥ = cc in absurd f
stored_number (Cluster ts) x v e is = let f : ⊥ = cc in absurd f

-- ---- so many are copied

abbrev pub kept : Shape × Value → Value
kept p = stored p.0 p.1

abbrev pub shapes_in : Shape → List Shape
shapes_in (Cluster ss) = shapes_of ss
shapes_in s = []

pub record Copies (s : Variables) (i j : ℕ) (v : Variables) (k : ℕ) : Type 0 where
  pub now : List Value
  pub vars : v ≡ record s { values = with_value s i (group_of now) }
  pub passed : Passed kept (zip (shapes_in (shape_of s i)) (elements (value_of s j))) (elements (value_of s i)) now k

-- the entry's value and shape
value_there : (s : Variables) (i n : ℕ) (c : IsCluster s i n) → value_of s i ≡ part c.name.path s.values
value_there s i n c = ap (λ o. value_by o s.values) c.is

shape_there : (s : Variables) (i n : ℕ) (c : IsCluster s i n) → shape_of s i ≡ Cluster c.numbers.members
shape_there s i n c = ap shape_by c.is ∙ c.numbers.shape

put_there : (s : Variables) (i n : ℕ) (c : IsCluster s i n) (w : Value) → with_value s i w ≡ with_part c.name.path w s.values
put_there s i n c w = ap (λ o. with_by o w s.values) c.is

cluster_there : (s : Variables) (i n : ℕ) (c : IsCluster s i n) → AreSound s → (length (elements (value_of s i)) ≡ n) × (group_of (elements (value_of s i)) ≡ value_of s i)
cluster_there s i n c sound =
    let of : is_of (Cluster c.numbers.members) (part c.name.path s.values) ≡ true =
    ap (λ t. is_of t (part c.name.path s.values)) (sym c.numbers.shape) ∙ part_of_shape s.shapes i c.name s.values c.is sound.shapes in
    let both = cluster_values c.numbers.members (part c.name.path s.values) of in
    let there = value_there s i n c in
    (ap (λ v. length (elements v)) there ∙ both.0 ∙ sym c.numbers.many, ap (λ v. group_of (elements v)) there ∙ both.1 ∙ sym there)

-- none yet
pub copies_none : (s : Variables) (i j n : ℕ) (c : IsCluster s i n) → AreSound s → Copies s i j s 0
copies_none s i j n c sound =
    let old = elements (value_of s i) in
    let same : with_value s i (group_of old) ≡ s.values =
    ap (with_value s i) ((cluster_there s i n c sound).1 ∙ value_there s i n c) ∙ put_there s i n c (part c.name.path s.values) ∙ put_same c.name.path s.values in
    record {
      now = old;
      vars = ap (λ v. record s { values = v }) (sym same);
      passed = passed_none kept (zip (shapes_in (shape_of s i)) (elements (value_of s j))) old;
    }

-- the k-th number of the other one is as it was
module _ (s : Variables) (i j n k : ℕ) (c : IsCluster s i n) (d : IsCluster s j n) (sound : AreSound s) (v : Variables) (e : Copies s i j v k) (less : k < n) where
  abbrev none : Value
  none = Num (pos 0)

  group_now : v.values ≡ with_part c.name.path (group_of e.now) s.values
  group_now = ap (λ (x : Variables). x.values) e.vars ∙ put_there s i n c (group_of e.now)

  names_stay : (x : ℕ) → name_of v x ≡ name_of s x
  names_stay x = ap (λ (y : Variables). name_of y x) e.vars

  whole_read : get_or (elements (part d.name.path v.values)) k none ≡ get_or (elements (value_of s j)) k none
  whole_read =
      ⊎_elim
      (λ (same : c.name.path ≡ d.name.path).
      ap (λ u. get_or (elements (part d.name.path u)) k none) group_now
      ∙ ap (λ p. get_or (elements (part p (with_part c.name.path (group_of e.now) s.values))) k none) (sym same)
      ∙ ap (λ u. get_or (elements u) k none) (part_with_part s.shapes i c.name (group_of e.now) s.values c.is sound.shapes)
      ∙ ap (λ us. get_or us k none) (items-values e.now)
      ∙ next_kept none e.passed
      ∙ ap (λ u. get_or (elements u) k none) (value_there s i n c ∙ ap (λ p. part p s.values) same ∙ sym (value_there s j n d)))
      (λ (beside : AreBeside c.name.path d.name.path).
      ap (λ u. get_or (elements (part d.name.path u)) k none) group_now
      ∙ ap (λ u. get_or (elements u) k none) (beside (group_of e.now) s.values ∙ sym (value_there s j n d)))
      (clusters_apart (Cluster s.shapes) c.name.path d.name.path c.numbers.members d.numbers.members (named_along s.shapes i c.name c.is ∙ c.numbers.shape) c.numbers.numbers (named_along s.shapes j d.name d.is ∙ d.numbers.shape) d.numbers.numbers)

  pub number_read : value_of v (j + 1 + k) ≡ get_or (elements (value_of s j)) k none
  number_read =
      ap (λ o. value_by o v.values) (names_stay (j + 1 + k) ∙ member_named s j n k d less)
      ∙ part_append d.name.path (k ∷ []) v.values
      ∙ whole_read

  -- and is put in its place
  pub copies_next : (x : ℤ) (w : Variables) → x ≡ number (value_of v (j + 1 + k)) → w ≡ record v { values = with_value v (i + 1 + k) (stored (shape_of v (i + 1 + k)) (Num x)) } → Copies s i j w (k + 1)
  copies_next x w is put =
      let shapes = shapes_of c.numbers.members in
      let theirs = elements (value_of s j) in
      let mine = elements (value_of s i) in
      let t = get_or shapes k Void in
      let y = stored t (Num x) in
      let next = set e.now k y in
      let shape : shape_of v (i + 1 + k) ≡ t = ap shape_by (names_stay (i + 1 + k) ∙ member_named s i n k c less) in
      let many : n ≡ length shapes = c.numbers.many in
      let values : with_value v (i + 1 + k) (stored (shape_of v (i + 1 + k)) (Num x)) ≡ with_value s i (group_of next) =
      ap (λ u. with_value v (i + 1 + k) (stored u (Num x))) shape
      ∙ ap (λ o. with_by o y v.values) (names_stay (i + 1 + k) ∙ member_named s i n k c less)
      ∙ ap (with_part (c.name.path ++ k ∷ []) y) group_now
      ∙ put_in_put c.name.path (k ∷ []) y (group_of e.now) s.values
      ∙ ap (λ u. with_part c.name.path u s.values) (with_part-member k y e.now)
      ∙ sym (put_there s i n c (group_of next)) in
      let number_is : is_number t ≡ true = number_there shapes k c.numbers.numbers (omega (arith, less, many)) in
      let same : y ≡ stored t (get_or theirs k none) = stored_number t x (get_or theirs k none) number_is (is ∙ ap number number_read) in
      let in_shapes : shapes_in (shape_of s i) ≡ shapes = ap shapes_in (shape_there s i n c) in
      let few = (cluster_there s j n d sound).0 in
      let as_many = (cluster_there s i n c sound).0 in
      let pairs_many : length (zip shapes theirs) ≡ n = omega (arith, length-zip shapes theirs, few, many) in
      let at : get_or (zip shapes theirs) k (Void, none) ≡ (t, get_or theirs k none) = get_or-zip shapes theirs k (Void, none) (omega (arith, less, many)) (omega (arith, less, few)) in
      let was : Passed kept (zip shapes theirs) mine e.now k = subst (λ ss. Passed kept (zip ss theirs) mine e.now k) in_shapes e.passed in
      record {
        now = next;
        vars = put ∙ ap (λ (u : Variables). record u { values = with_value v (i + 1 + k) (stored (shape_of v (i + 1 + k)) (Num x)) }) e.vars ∙ ap (λ u. record s { values = u }) values;
        passed =
            subst
            (λ ss. Passed kept (zip ss theirs) mine next (k + 1))
            (sym in_shapes)
            (passed_more kept (zip shapes theirs) mine e.now k (Void, none) y (omega (arith, less, pairs_many)) (omega (arith, as_many, pairs_many)) was (same ∙ sym (ap kept at)));
      }

-- all of them
stored_all : (ss : Members) (vs : List Value) → length vs ≡ length (shapes_of ss) → map kept (zip (shapes_of ss) vs) ≡ items (stored_members ss vs)
stored_all no_members [] e = refl
stored_all no_members (v ∷ vs) e = refl
stored_all (member s ss) [] e = let f : ⊥ = omega (arith, e) in absurd f
stored_all (member s ss) (v ∷ vs) e = ap (λ ws. stored s v ∷ ws) (stored_all ss vs (omega (arith, e)))

pub copies_all : (s : Variables) (i j n : ℕ) (c : IsCluster s i n) (d : IsCluster s j n) → AreSound s → (v : Variables) → Copies s i j v n → v ≡ record s { values = with_value s i (stored (shape_of s i) (value_of s j)) }
copies_all s i j n c d sound v e =
    let shapes = shapes_of c.numbers.members in
    let theirs = elements (value_of s j) in
    let mine = elements (value_of s i) in
    let in_shapes : shapes_in (shape_of s i) ≡ shapes = ap shapes_in (shape_there s i n c) in
    let few = (cluster_there s j n d sound).0 in
    let as_many = (cluster_there s i n c sound).0 in
    let many : n ≡ length shapes = c.numbers.many in
    let pairs_many : length (zip shapes theirs) ≡ n = omega (arith, length-zip shapes theirs, few, many) in
    let was : Passed kept (zip shapes theirs) mine e.now n = subst (λ ss. Passed kept (zip ss theirs) mine e.now n) in_shapes e.passed in
    let all : e.now ≡ items (stored_members c.numbers.members theirs) =
    passed_all kept (zip shapes theirs) mine e.now n (sym pairs_many) (omega (arith, as_many, pairs_many)) was ∙ stored_all c.numbers.members theirs (omega (arith, few, many)) in
    let whole : group_of e.now ≡ stored (shape_of s i) (value_of s j) =
    ap group_of all ∙ ap GroupOf (values-items (stored_members c.numbers.members theirs)) ∙ sym (ap (λ t. stored t (value_of s j)) (shape_there s i n c)) in
    e.vars ∙ ap (λ u. record s { values = with_value s i u }) whole

-- ---- what is stored so

-- no list came or went
pub copied_does : (old new : SpaceViews) (x : Value) → AreSound new.vars → new.vars ≡ record old.vars { values = x } → Does {T = Unit {0}} Done x old (Ok tt) new
copied_does old new x sound is =
    let rows : lists_in x < old.vars.rows = subst (λ (v : Variables). lists_in v.values < v.rows) is sound.rows in
    let kept_rows : max old.vars.rows (lists_in x + 1) ≡ old.vars.rows = omega (arith, rows) in
    let same : with_values x old.vars ≡ new.vars = ap (λ n. record old.vars { values = x; rows = n }) kept_rows ∙ sym is in
    (subst (λ v. footprint_of v ≤ pool_size) (sym same) sound.pool, sym same, tt)

-- the numbers stay where the variables are
pub numbers_stay : (s : Variables) (i n k : ℕ) (c : IsCluster s i n) (j : ℕ) (v : Variables) (m : ℕ) → Copies s i j v m → k < n → is_number (shape_of v (i + 1 + k)) ≡ true
numbers_stay s i n k c j v m e less = ap (λ (y : Variables). is_number (shape_of y (i + 1 + k))) e.vars ∙ member_number s i n k c less
