-- Parts of values by their paths.
use Rattle.std.proofs.Common.{◌≡◌, ◌⊎◌, inl, inr, ⊎_elim, ℕ, zero, suc, ◌+◌, ◌-◌, true, List, [], ◌∷◌, ◌++◌, get_or, set, Some, None, refl, sym, ap, ◌∙◌, subst, arith}
use Rattle.std.specs.Prelude.{pos, slice_index_or}
use Rattle.std.specs.List.{list_all}
use Rattle.std.proofs.lemmas.Bool.{and_parts}
use Rattle.std.proofs.lemmas.List.{set-get_or, get_or-set_other}
use Rattle.nxt_types.specs.Names.{Name, size, name_in, name_among}
use Rattle.nxt_types.specs.Shapes.{Shape, Void, Number, Array, Cluster, Mutex, Members, no_members, member, shapes_of, is_number}
use Rattle.nxt_model.specs.Values.{Value, Num, ListOf, GroupOf, values, items, list_of, group_of, elements, part, with_part}
use Rattle.nxt_model.proofs.Laws.Values.{items-values, values-items}
use Rattle.nxt_space.proofs.Laws.Members.{first_or_behind}

-- ---- a part of a part

pub part_append : (p q : List ℕ) (v : Value) → part (p ++ q) v ≡ part q (part p v)
part_append [] q v = refl
part_append (k ∷ p) q v = part_append p q (get_or (elements v) k (Num (pos 0)))

-- an element that is changed twice
set_twice : (vs : List Value) (k : ℕ) (d : Value) (f g : Value → Value) → set (set vs k (f (get_or vs k d))) k (g (get_or (set vs k (f (get_or vs k d))) k d)) ≡ set vs k (g (f (get_or vs k d)))
set_twice [] k d f g = refl
set_twice (v ∷ vs) zero d f g = refl
set_twice (v ∷ vs) (suc k) d f g = ap (λ ws. v ∷ ws) (set_twice vs k d f g)

-- a function of one element
abbrev pub at_element : ℕ → (Value → Value) → List Value → List Value
at_element k f vs = set vs k (f (get_or vs k (Num (pos 0))))

pub element_twice : (k : ℕ) (f g : Value → Value) (vs : List Value) → at_element k g (items (values (at_element k f vs))) ≡ at_element k (λ v. g (f v)) vs
element_twice k f g vs = ap (at_element k g) (items-values (at_element k f vs)) ∙ set_twice vs k (Num (pos 0)) f g

-- a part in a part that was put there
pub put_in_put : (p q : List ℕ) (w m v : Value) → with_part (p ++ q) w (with_part p m v) ≡ with_part p (with_part q w m) v
put_in_put [] q w m v = refl
put_in_put (k ∷ p) q w m (Num z) = refl
put_in_put (k ∷ p) q w m (ListOf vs) =
    ap list_of (element_twice k (with_part p m) (with_part (p ++ q) w) (items vs) ∙ ap (set (items vs) k) (put_in_put p q w m (get_or (items vs) k (Num (pos 0)))))
put_in_put (k ∷ p) q w m (GroupOf vs) =
    ap group_of (element_twice k (with_part p m) (with_part (p ++ q) w) (items vs) ∙ ap (set (items vs) k) (put_in_put p q w m (get_or (items vs) k (Num (pos 0)))))

-- ---- the same part again

pub put_same : (p : List ℕ) (v : Value) → with_part p (part p v) v ≡ v
put_same [] v = refl
put_same (k ∷ p) (Num z) = refl
put_same (k ∷ p) (ListOf vs) =
    ap list_of (ap (set (items vs) k) (put_same p (get_or (items vs) k (Num (pos 0)))) ∙ set-get_or (items vs) k (Num (pos 0))) ∙ ap ListOf (values-items vs)
put_same (k ∷ p) (GroupOf vs) =
    ap group_of (ap (set (items vs) k) (put_same p (get_or (items vs) k (Num (pos 0)))) ∙ set-get_or (items vs) k (Num (pos 0))) ∙ ap GroupOf (values-items vs)

-- ---- shapes along paths

-- the shape of the part that the positions of members lead to
abbrev pub shape_along : Shape → List ℕ → Shape
shape_along s [] = s
shape_along (Cluster ss) (k ∷ p) = shape_along (slice_index_or (shapes_of ss) k Void) p
shape_along s (k ∷ p) = Void

-- a path that leads from member k of a group on
record Leads (ss : Members) (k : ℕ) (n : Name) : Type 0 where
  at : ℕ
  more : List ℕ
  path : n.path ≡ (k + at) ∷ more
  shape : shape_along (slice_index_or (shapes_of ss) at Void) more ≡ n.shape

whole_along : (s : Shape) (n : Name) → Some (record { path = []; shape = s }) ≡ Some n → shape_along s n.path ≡ n.shape
whole_along s n e = let same : record { path = []; shape = s } ≡ n = cc in subst (λ (m : Name). shape_along s m.path ≡ m.shape) same refl

none_along : (s : Shape) (n : Name) → None ≡ Some n → shape_along s n.path ≡ n.shape
none_along s n e = let f : ⊥ = cc in absurd f

from_first : (ss : Members) (n : Name) → Leads ss 0 n → shape_along (Cluster ss) n.path ≡ n.shape
from_first ss n l =
    let at : 0 + l.at ≡ l.at = omega arith in
    ap (shape_along (Cluster ss)) (l.path ∙ ap (λ k. k ∷ l.more) at) ∙ l.shape

mutual
  along_in : (s : Shape) (i : ℕ) (n : Name) → name_in s i ≡ Some n → shape_along s n.path ≡ n.shape
  along_in Void zero n e = whole_along Void n e
  along_in Void (suc i) n e = none_along Void n e
  along_in (Number k) zero n e = whole_along (Number k) n e
  along_in (Number k) (suc i) n e = none_along (Number k) n e
  along_in (Array stride s) zero n e = whole_along (Array stride s) n e
  along_in (Array stride s) (suc i) n e = none_along (Array stride s) n e
  along_in (Cluster ss) zero n e = whole_along (Cluster ss) n e
  along_in (Cluster ss) (suc i) n e = from_first ss n (along_among ss 0 i n e)
  along_in Mutex zero n e = whole_along Mutex n e
  along_in Mutex (suc i) n e = none_along Mutex n e

  along_among : (ss : Members) (k i : ℕ) (n : Name) → name_among ss k i ≡ Some n → Leads ss k n
  along_among no_members k i n e = let f : ⊥ = cc in absurd f
  along_among (member s ss) k i n e =
      elim (first_or_behind s ss k i n e) [
        | inl here ↦
            let at : k ≡ k + 0 = omega arith in
            record {
              at = 0;
              more = here.inner.path;
              path = ap (λ (m : Name). m.path) (sym here.same) ∙ ap (λ a. a ∷ here.inner.path) at;
              shape = along_in s i here.inner here.names ∙ ap (λ (m : Name). m.shape) here.same;
            }
        | inr there ↦
            let rest = along_among ss (k + 1) (i - size s) n there.names in
            let at : k + 1 + rest.at ≡ k + suc rest.at = omega arith in
            record { at = suc rest.at; more = rest.more; path = rest.path ∙ ap (λ a. a ∷ rest.more) at; shape = rest.shape }
      ]

-- a name's path leads to its shape
pub named_along : (ss : Members) (i : ℕ) (n : Name) → name_among ss 0 i ≡ Some n → shape_along (Cluster ss) n.path ≡ n.shape
named_along ss i n e = from_first ss n (along_among ss 0 i n e)

-- ---- clusters of numbers

-- nothing stands below a number, nor where there is no member
number_ends : (s : Shape) (p : List ℕ) (ss : Members) → is_number s ≡ true → shape_along s p ≡ Cluster ss → ⊥
number_ends (Number k) [] ss e f = cc
number_ends (Number k) (a ∷ p) ss e f = cc
number_ends Void p ss e f = cc
number_ends (Array stride s) p ss e f = cc
number_ends (Cluster ts) p ss e f = cc
number_ends Mutex p ss e f = cc

void_ends : (p : List ℕ) (ss : Members) → shape_along Void p ≡ Cluster ss → ⊥
void_ends [] ss f = cc
void_ends (a ∷ p) ss f = cc

member_ends : (shapes : List Shape) (a : ℕ) (p : List ℕ) (ss : Members) → list_all is_number shapes ≡ true → shape_along (slice_index_or shapes a Void) p ≡ Cluster ss → ⊥
member_ends [] a p ss e f = void_ends p ss f
member_ends (s ∷ shapes) zero p ss e f = number_ends s p ss (and_parts (is_number s) (list_all is_number shapes) e).0 f
member_ends (s ∷ shapes) (suc a) p ss e f = member_ends shapes a p ss (and_parts (is_number s) (list_all is_number shapes) e).1 f

-- so no cluster stands inside of one
inside_ends : (s : Shape) (a : ℕ) (p : List ℕ) (ts ss : Members) → s ≡ Cluster ts → list_all is_number (shapes_of ts) ≡ true → shape_along s (a ∷ p) ≡ Cluster ss → ⊥
inside_ends s a p ts ss is numbers f = member_ends (shapes_of ts) a p ss numbers (sym (ap (λ t. shape_along t (a ∷ p)) is) ∙ f)

-- ---- parts beside one another

-- what stands there is read as before, whatever is put in the other place
abbrev pub AreBeside : List ℕ → List ℕ → Type 0
AreBeside p q = (w v : Value) → part q (with_part p w v) ≡ part q v

same_element : (k : ℕ) (p q : List ℕ) (w : Value) (vs : List Value) → AreBeside p q → part q (get_or (set vs k (with_part p w (get_or vs k (Num (pos 0))))) k (Num (pos 0))) ≡ part q (get_or vs k (Num (pos 0)))
same_element k p q w [] beside = refl
same_element zero p q w (v ∷ vs) beside = beside w v
same_element (suc k) p q w (v ∷ vs) beside = same_element k p q w vs beside

beside_in : (k : ℕ) (p q : List ℕ) → AreBeside p q → AreBeside (k ∷ p) (k ∷ q)
beside_in k p q beside w (Num z) = refl
beside_in k p q beside w (ListOf vs) =
    ap (λ us. part q (get_or us k (Num (pos 0)))) (items-values (set (items vs) k (with_part p w (get_or (items vs) k (Num (pos 0)))))) ∙ same_element k p q w (items vs) beside
beside_in k p q beside w (GroupOf vs) =
    ap (λ us. part q (get_or us k (Num (pos 0)))) (items-values (set (items vs) k (with_part p w (get_or (items vs) k (Num (pos 0)))))) ∙ same_element k p q w (items vs) beside

other_element : (k j : ℕ) (x : Value) (q : List ℕ) (vs : List Value) → (j ≡ k → ⊥) → part q (get_or (items (values (set vs k x))) j (Num (pos 0))) ≡ part q (get_or vs j (Num (pos 0)))
other_element k j x q vs apart = ap (λ us. part q (get_or us j (Num (pos 0)))) (items-values (set vs k x)) ∙ ap (part q) (get_or-set_other vs k j x (Num (pos 0)) apart)

beside_there : (k j : ℕ) (p q : List ℕ) → (j ≡ k → ⊥) → AreBeside (k ∷ p) (j ∷ q)
beside_there k j p q apart w (Num z) = refl
beside_there k j p q apart w (ListOf vs) = other_element k j (with_part p w (get_or (items vs) k (Num (pos 0)))) q (items vs) apart
beside_there k j p q apart w (GroupOf vs) = other_element k j (with_part p w (get_or (items vs) k (Num (pos 0)))) q (items vs) apart

nowhere : {X : Type 0} (s : Shape) (k : ℕ) (p : List ℕ) (ts : Members) → Void ≡ Cluster ts → X
nowhere s k p ts e = let f : ⊥ = cc in absurd f

same_or_other : (j k : ℕ) → (j ≡ k) ⊎ (j ≡ k → ⊥)
same_or_other zero zero = inl refl
same_or_other zero (suc k) = inr (λ e. omega (arith, e))
same_or_other (suc j) zero = inr (λ e. omega (arith, e))
same_or_other (suc j) (suc k) =
    ⊎_elim
    (λ (same : j ≡ k). inl (ap suc same))
    (λ (other : j ≡ k → ⊥). inr (λ e. other (omega (arith, e))))
    (same_or_other j k)

-- two clusters of numbers are the same one, or stand beside one another
pub clusters_apart : (s : Shape) (p q : List ℕ) (ts us : Members) → shape_along s p ≡ Cluster ts → list_all is_number (shapes_of ts) ≡ true → shape_along s q ≡ Cluster us → list_all is_number (shapes_of us) ≡ true → (p ≡ q) ⊎ AreBeside p q
clusters_apart s [] [] ts us e n f m = inl refl
clusters_apart s [] (j ∷ q) ts us e n f m = absurd (inside_ends s j q ts us e n f)
clusters_apart s (k ∷ p) [] ts us e n f m = absurd (inside_ends s k p us ts f m e)
clusters_apart (Cluster ss) (k ∷ p) (j ∷ q) ts us e n f m =
    ⊎_elim
    (λ (same : j ≡ k).
    ⊎_elim
    (λ (equal : p ≡ q). inl (ap (λ i. i ∷ p) (sym same) ∙ ap (λ r. j ∷ r) equal))
    (λ (beside : AreBeside p q). inr (subst (λ i. AreBeside (k ∷ p) (i ∷ q)) (sym same) (beside_in k p q beside)))
    (clusters_apart (slice_index_or (shapes_of ss) k Void) p q ts us e n (ap (λ i. shape_along (slice_index_or (shapes_of ss) i Void) q) (sym same) ∙ f) m))
    (λ (other : j ≡ k → ⊥). inr (beside_there k j p q other))
    (same_or_other j k)
clusters_apart Void (k ∷ p) (j ∷ q) ts us e n f m = nowhere Void k p ts e
clusters_apart (Number kind) (k ∷ p) (j ∷ q) ts us e n f m = nowhere Void k p ts e
clusters_apart (Array stride s) (k ∷ p) (j ∷ q) ts us e n f m = nowhere Void k p ts e
clusters_apart Mutex (k ∷ p) (j ∷ q) ts us e n f m = nowhere Void k p ts e
