-- The first pair of leaves that share a byte.
use Rattle.std.proofs.Common.{◌≡◌, ℕ, ◌+◌, ◌<◌, ◌≤◌, List, [], ◌∷◌, refl, sym, ap, ◌∙◌, subst, arith, Bool, true, false, ◌&&◌, true≢false, cond, ◌⊎◌, inl, inr, ⊎_elim, Option, Some, None}
use Rattle.std.proofs.lemmas.Bool.{cases_lt, and_parts}
use Rattle.std.proofs.lemmas.Bool.Decides.{nat_tests}
use Rattle.std.specs.Prelude.{map, find, nat_lt, ◌==◌, IsTrue, option_map}
use Rattle.nxt_table.proofs.Laws.Passes.{comes}
use Rattle.nxt_types.specs.Refusals.{passes, comes_first}
use Rattle.nxt_table.specs.declared.leaves.PlacedLeaf as flats
use Rattle.nxt_table.specs.Leaves.{Leaf, leaf_of, end_of, are_together}
use Rattle.nxt_table.specs.TableRules.{share_a_byte}
use Rattle.nxt_table.specs.Inside.LeafPasses.{first_leaf, leaves_share, pair_or, first_pair}
use Rattle.nxt_table.proofs.Laws.Leaves.{flat, flat_share, Rising, first_entry, found_leaf, least_leaf, none_below}

-- the leaf of an entry has that entry
leaf_entry : (ls : List Leaf) (v : ℕ) (m : Leaf) → leaf_of ls v ≡ Some m → m.entry ≡ v
leaf_entry [] v m e = cc
leaf_entry (l ∷ ls) v m e = at (l.entry == v) refl (leaf_entry ls v m)
  where
    at : (b : Bool) → (l.entry == v) ≡ b → (leaf_of ls v ≡ Some m → m.entry ≡ v) → m.entry ≡ v
    at true f ih =
        let s : Some l ≡ Some m = sym (ap (λ b. cond b (Some l) (leaf_of ls v)) f) ∙ e in
        let same : l ≡ m = cc in
        let here : l.entry ≡ v = grind (arith, nat_tests) in
        sym (ap (λ (x : Leaf). x.entry) same) ∙ here
    at false f ih = ih (sym (ap (λ b. cond b (Some l) (leaf_of ls v)) f) ∙ e)

abbrev pub Shares : List Leaf → ℕ → ℕ → Type 0
Shares ls a b = IsTrue (passes (λ l. passes (share_a_byte l) (leaf_of ls b)) (leaf_of ls a))

record There (ls : List Leaf) (a b : ℕ) : Type 0 where
  first : Leaf
  second : Leaf
  is_first : leaf_of ls a ≡ Some first
  is_second : leaf_of ls b ≡ Some second
  share : IsTrue (share_a_byte first second)

there : (ls : List Leaf) (a b : ℕ) → Shares ls a b → There ls a b
there ls a b h = at (leaf_of ls a) refl (leaf_of ls b) refl h
  where
    at : (o : Option Leaf) → leaf_of ls a ≡ o → (p : Option Leaf) → leaf_of ls b ≡ p → IsTrue (passes (λ l. passes (share_a_byte l) p) o) → There ls a b
    at None e p f h = absurd (true≢false (sym h))
    at (Some l) e None f h = absurd (true≢false (sym h))
    at (Some l) e (Some m) f h = record { first = l; second = m; is_first = e; is_second = f; share = h }

entries_rise : (l m : Leaf) → IsTrue (share_a_byte l m) → l.entry < m.entry
entries_rise l m h =
    let a = and_parts (nat_lt l.entry m.entry && are_together l.arrays m.arrays && nat_lt l.place (end_of m)) (nat_lt m.place (end_of l)) h in
    let b = and_parts (nat_lt l.entry m.entry && are_together l.arrays m.arrays) (nat_lt l.place (end_of m)) a.0 in
    let c = and_parts (nat_lt l.entry m.entry) (are_together l.arrays m.arrays) b.0 in
    let lt : nat_lt l.entry m.entry ≡ true = c.0 in
    grind (arith, nat_tests, lt)

-- the first is before the second, and neither before the list's beginning
in_order : (ls : List Leaf) (a b : ℕ) → There ls a b → a < b
in_order ls a b t =
    let f = leaf_entry ls a t.first t.is_first in
    let g = leaf_entry ls b t.second t.is_second in
    omega (arith, entries_rise t.first t.second t.share, f, g)

from_on : (ls : List Leaf) (i v : ℕ) (m : Leaf) → Rising i ls → leaf_of ls v ≡ Some m → i ≤ v
from_on ls i v m r e = ⊎_elim (λ (h : v < i). absurd (let n = none_below ls i v r h in let s : None ≡ Some m = sym n ∙ e in cc)) (λ (h : i ≤ v). h) (cases_lt v i)

-- the leaf of a later entry
later : (l : Leaf) (ls : List Leaf) (v : ℕ) → l.entry < v → leaf_of (l ∷ ls) v ≡ leaf_of ls v
later l ls v h = let t : (l.entry == v) ≡ false = grind (arith, nat_tests) in ap (λ b. cond b (Some l) (leaf_of ls v)) t

itself : (l : Leaf) (ls : List Leaf) → leaf_of (l ∷ ls) l.entry ≡ Some l
itself l ls = let t : (l.entry == l.entry) ≡ true = grind (arith, nat_tests) in ap (λ b. cond b (Some l) (leaf_of ls l.entry)) t

-- the first later leaf that shares a byte with one
partner : (l : Leaf) (ls : List Leaf) (i : ℕ) → l.entry < i → Rising i ls → first_leaf (leaves_share (flat l)) (map flat ls) ≡ first_entry (share_a_byte l) ls
partner l [] i h r = refl
partner l (m ∷ ls) i h r =
    ap (λ b. option_map (λ (x : flats.PlacedLeaf). x.entry) (cond b (Some (flat m)) (find (leaves_share (flat l)) (map flat ls)))) (flat_share l m (omega (arith, h, r.0)))
    ∙ at (share_a_byte l m) (partner l ls (m.entry + 1) (omega (arith, h, r.0)) r.1)
  where
    at : (b : Bool) → first_leaf (leaves_share (flat l)) (map flat ls) ≡ first_entry (share_a_byte l) ls →
        option_map (λ (x : flats.PlacedLeaf). x.entry) (cond b (Some (flat m)) (find (leaves_share (flat l)) (map flat ls))) ≡ option_map (λ (x : Leaf). x.entry) (cond b (Some m) (find (share_a_byte l) ls))
    at true e = refl
    at false e = e

pair_step : (l : Leaf) (ls : List Leaf) (i : ℕ) → Rising i (l ∷ ls) → first_pair (map flat (l ∷ ls)) ≡ pair_or l.entry (first_entry (share_a_byte l) ls) (first_pair (map flat ls))
pair_step l ls i r = ap (λ o. pair_or l.entry o (first_pair (map flat ls))) (partner l ls (l.entry + 1) (omega arith) r.1)

-- both shared, in the longer list
kept : (l : Leaf) (ls : List Leaf) (a b : ℕ) → l.entry < a → l.entry < b → Shares ls a b → Shares (l ∷ ls) a b
kept l ls a b p q h =
    ap (λ o. passes (λ x. passes (share_a_byte x) o) (leaf_of (l ∷ ls) a)) (later l ls b q)
    ∙ ap (passes (λ x. passes (share_a_byte x) (leaf_of ls b))) (later l ls a p) ∙ h

first_of : ℕ × ℕ → ℕ
first_of p = p.0

second_of : ℕ × ℕ → ℕ
second_of p = p.1

pair_passes : (ls : List Leaf) (i a b : ℕ) → Rising i ls → first_pair (map flat ls) ≡ Some (a, b) → (i ≤ a) × Shares ls a b
unfolding first_of second_of
pair_passes [] i a b r e = cc
pair_passes (l ∷ ls) i a b r e = at (first_entry (share_a_byte l) ls) refl (pair_passes ls (l.entry + 1) a b r.1)
  where
    at : (o : Option ℕ) → first_entry (share_a_byte l) ls ≡ o → (first_pair (map flat ls) ≡ Some (a, b) → (l.entry + 1 ≤ a) × Shares ls a b) → (i ≤ a) × Shares (l ∷ ls) a b
    at (Some w) f ih =
        let s : Some (l.entry, w) ≡ Some (a, b) = sym (pair_step l ls i r ∙ ap (λ o. pair_or l.entry o (first_pair (map flat ls))) f) ∙ e in
        let t : (l.entry, w) ≡ (a, b) = cc in
        let one : l.entry ≡ a = ap first_of t in
        let two : w ≡ b = ap second_of t in
        let g = found_leaf (share_a_byte l) ls (l.entry + 1) w r.1 f in
        let lt : l.entry < w = omega (arith, g.0) in (
          omega (arith, r.0, one),
          subst (λ n. Shares (l ∷ ls) n b) one
              (subst (λ n. Shares (l ∷ ls) l.entry n) two
              (ap (passes (λ x. passes (share_a_byte x) (leaf_of (l ∷ ls) w))) (itself l ls) ∙ ap (passes (share_a_byte l)) (later l ls w lt) ∙ g.1)),
        )
    at None f ih =
        let s : first_pair (map flat ls) ≡ Some (a, b) = sym (pair_step l ls i r ∙ ap (λ o. pair_or l.entry o (first_pair (map flat ls))) f) ∙ e in
        let g = ih s in
        let lt = in_order ls a b (there ls a b g.1) in
        (omega (arith, r.0, g.0), kept l ls a b (omega (arith, g.0)) (omega (arith, g.0, lt)) g.1)

record Least (ls : List Leaf) (a b : ℕ) : Type 0 where
  one : ℕ
  two : ℕ
  is_pair : first_pair (map flat ls) ≡ Some (one, two)
  order : IsTrue (comes_first (one ∷ two ∷ []) (a ∷ b ∷ []))

pair_least : (ls : List Leaf) (i a b : ℕ) → Rising i ls → Shares ls a b → Least ls a b
pair_least [] i a b r h = absurd (true≢false (sym h))
pair_least (l ∷ ls) i a b r h = by (cases_lt l.entry a) (pair_least ls (l.entry + 1) a b r.1)
  where
    t : There (l ∷ ls) a b
    t = there (l ∷ ls) a b h

    lt : a < b
    lt = in_order (l ∷ ls) a b t

    low : l.entry ≤ a
    low = from_on (l ∷ ls) l.entry a t.first (omega arith, r.1) t.is_first

    -- the second in the rest
    second : leaf_of ls b ≡ Some t.second
    second = sym (later l ls b (omega (arith, low, lt))) ∙ t.is_second

    first_partner : a ≤ l.entry → (w : ℕ) × (first_entry (share_a_byte l) ls ≡ Some w) × (w ≤ b)
    first_partner c =
        let same : a ≡ l.entry = omega (arith, low, c) in
        let here : Some l ≡ Some t.first = sym (itself l ls) ∙ ap (λ n. leaf_of (l ∷ ls) n) (sym same) ∙ t.is_first in
        let is : t.first ≡ l = cc in
        least_leaf (share_a_byte l) ls (l.entry + 1) b r.1 (ap (passes (share_a_byte l)) second ∙ ap (λ x. share_a_byte x t.second) (sym is) ∙ t.share)

    found : (w : ℕ) → first_entry (share_a_byte l) ls ≡ Some w → (l.entry < a) ⊎ (a ≤ l.entry) → (l.entry < a) ⊎ ((l.entry ≡ a) × (w ≤ b))
    found w f c = ⊎_elim (λ (p : l.entry < a). inl p) (λ (p : a ≤ l.entry).
        let x = first_partner p in
        let s : Some w ≡ Some x.0 = sym f ∙ x.1 in
        let same : w ≡ x.0 = cc in
        inr (omega (arith, low, p), omega (arith, same, x.2))) c

    none : first_entry (share_a_byte l) ls ≡ None → (l.entry < a) ⊎ (a ≤ l.entry) → (Shares ls a b → Least ls a b) → Least (l ∷ ls) a b
    none f c ih = ⊎_elim (λ (p : l.entry < a).
        let shorter : Shares ls a b =
        sym (ap (λ o. passes (λ x. passes (share_a_byte x) o) (leaf_of (l ∷ ls) a)) (later l ls b (omega (arith, p, lt)))
        ∙ ap (passes (λ x. passes (share_a_byte x) (leaf_of ls b))) (later l ls a p)) ∙ h in
        let x = ih shorter in
        record {
          one = x.one;
          two = x.two;
          is_pair = pair_step l ls i r ∙ ap (λ o. pair_or l.entry o (first_pair (map flat ls))) f ∙ x.is_pair;
          order = x.order;
        })
        (λ (p : a ≤ l.entry). absurd (let x = first_partner p in let s : None ≡ Some x.0 = sym f ∙ x.1 in cc)) c

    by : (l.entry < a) ⊎ (a ≤ l.entry) → (Shares ls a b → Least ls a b) → Least (l ∷ ls) a b
    by c ih = at (first_entry (share_a_byte l) ls) refl
      where
        at : (o : Option ℕ) → first_entry (share_a_byte l) ls ≡ o → Least (l ∷ ls) a b
        at None f = none f c ih
        at (Some w) f =
            record {
              one = l.entry;
              two = w;
              is_pair = pair_step l ls i r ∙ ap (λ o. pair_or l.entry o (first_pair (map flat ls))) f;
              order = comes l.entry w a b (found w f c);
            }

-- what is found is the least pair
pub first_pair_passes : (ls : List Leaf) (a b : ℕ) → Rising 0 ls → first_pair (map flat ls) ≡ Some (a, b) → Shares ls a b
first_pair_passes ls a b r e = (pair_passes ls 0 a b r e).1

pub first_pair_least : (ls : List Leaf) (a b c d : ℕ) → Rising 0 ls → first_pair (map flat ls) ≡ Some (a, b) → Shares ls c d → IsTrue (comes_first (a ∷ b ∷ []) (c ∷ d ∷ []))
unfolding first_of second_of
first_pair_least ls a b c d r e h =
    let x = pair_least ls 0 c d r h in
    let s : Some (x.one, x.two) ≡ Some (a, b) = sym x.is_pair ∙ e in
    let t : (x.one, x.two) ≡ (a, b) = cc in
    let one : x.one ≡ a = ap first_of t in
    let two : x.two ≡ b = ap second_of t in
    subst (λ n. IsTrue (comes_first (n ∷ b ∷ []) (c ∷ d ∷ []))) one (subst (λ n. IsTrue (comes_first (x.one ∷ n ∷ []) (c ∷ d ∷ []))) two x.order)

pub no_pair_passes : (ls : List Leaf) (c d : ℕ) → Rising 0 ls → first_pair (map flat ls) ≡ None → Shares ls c d → ⊥
no_pair_passes ls c d r e h = let x = pair_least ls 0 c d r h in let s : None ≡ Some (x.one, x.two) = sym e ∙ x.is_pair in cc
