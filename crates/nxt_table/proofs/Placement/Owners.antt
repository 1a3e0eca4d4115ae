-- The least owner of a leaf's bytes is the first leaf that shares one.
use Rattle.std.proofs.Common.{◌≡◌, ℕ, zero, suc, ◌+◌, ◌-◌, ◌<◌, ◌≤◌, max, List, [], ◌∷◌, refl, sym, ap, ◌∙◌, length, arith, drop, drop-cons, get_or, Bool, true, false, ◌&&◌, true≢false, cond, All, Option, Some, None}
use Rattle.std.proofs.lemmas.Bool.{and_parts, and_from, false_from_ne_true, le-leb, lt-ltb}
use Rattle.std.proofs.lemmas.Bool.Decides.{nat_tests}
use Rattle.std.proofs.lemmas.List.Elements.{All-nil, All-cons, All-append, All-head, All-tail}
use Rattle.std.specs.Prelude.{find, nat_lt, nat_le, ◌==◌, option_map, if◌then◌else◌}
use Rattle.std.proofs.Common.{Less, Equal, Greater}
use Rattle.std.specs.Ordering.{nat_cmp, ordering_then, is_eq}
use Rattle.nxt_table.proofs.Laws.Rising.{rising_drop}
use Rattle.nxt_types.specs.declared.kind.Kind.{Kind}
use Rattle.nxt_types.specs.declared.kind.Kind.TheVariants.{Ubyte, Sbyte, Uword, Sword, Ulong, Slong}
use Rattle.nxt_types.specs.Arithmetic.{leaf_size}
use Rattle.nxt_types.specs.Shapes.{outline}
use Rattle.nxt_table.specs.declared.item.Item.{Item}
use Rattle.nxt_table.specs.declared.item.Item.TheVariants as items
use Rattle.nxt_table.specs.declared.enclosing.NestedEntry.{NestedEntry}
use Rattle.nxt_table.specs.declared.leaves.PlacedLeaf.{PlacedLeaf}
use Rattle.nxt_table.specs.Inside.Items.{item}
use Rattle.nxt_table.specs.Inside.LeafPasses.{leaf_by, leaf_list, leaves_from, width_of, leaf_end, same_array, leaves_share, first_leaf, pair_or, first_pair}
use Rattle.nxt_table.specs.Inside.Owners.{Byte, byte_cmp, covers, IsLeastOwner, RisesFrom}

-- ---- keys

number_key : (x y : ℕ) → is_eq (nat_cmp x y) ≡ (x == y)
number_key x y = by (nat_lt x y) refl (x == y) refl
  where
    by : (b : Bool) → nat_lt x y ≡ b → (c : Bool) → (x == y) ≡ c → is_eq (cond (nat_lt x y) Less (cond (x == y) Equal Greater)) ≡ (x == y)
    by true e true f = let h : true ≡ false = grind (arith, nat_tests, e, f) in absurd (true≢false h)
    by true e false f = ap (λ b. is_eq (cond b Less (cond (x == y) Equal Greater))) e ∙ sym f
    by false e true f = ap (λ b. is_eq (cond b Less (cond (x == y) Equal Greater))) e ∙ ap (λ b. is_eq (cond b Equal Greater)) f ∙ sym f
    by false e false f = ap (λ b. is_eq (cond b Less (cond (x == y) Equal Greater))) e ∙ ap (λ b. is_eq (cond b Equal Greater)) f ∙ sym f

turned : (a b : ℕ) → (a == b) ≡ (b == a)
turned a b = grind (arith, nat_tests)

pub same_key : (a b : Option ℕ) (x y : ℕ) → is_eq (byte_cmp (a, x) (b, y)) ≡ (same_array b a && (x == y))
same_key None None x y = number_key x y
same_key None (Some b) x y = refl
same_key (Some a) None x y = refl
same_key (Some a) (Some b) x y = by (nat_lt a b) refl (a == b) refl
  where
    by : (p : Bool) → nat_lt a b ≡ p → (q : Bool) → (a == b) ≡ q → is_eq (ordering_then (cond (nat_lt a b) Less (cond (a == b) Equal Greater)) (nat_cmp x y)) ≡ ((b == a) && (x == y))
    by true e true f = let h : true ≡ false = grind (arith, nat_tests, e, f) in absurd (true≢false h)
    by true e false f = ap (λ p. is_eq (ordering_then (cond p Less (cond (a == b) Equal Greater)) (nat_cmp x y))) e ∙ ap (λ q. q && (x == y)) (sym f ∙ turned a b)
    by false e true f =
        ap (λ p. is_eq (ordering_then (cond p Less (cond (a == b) Equal Greater)) (nat_cmp x y))) e ∙ ap (λ q. is_eq (ordering_then (cond q Equal Greater) (nat_cmp x y))) f
        ∙ number_key x y ∙ ap (λ q. q && (x == y)) (sym f ∙ turned a b)
    by false e false f =
        ap (λ p. is_eq (ordering_then (cond p Less (cond (a == b) Equal Greater)) (nat_cmp x y))) e ∙ ap (λ q. is_eq (ordering_then (cond q Equal Greater) (nat_cmp x y))) f
        ∙ ap (λ q. q && (x == y)) (sym f ∙ turned a b)

-- one more byte of a leaf
pub one_more : (s : Bool) (place x at e : ℕ) (o : Option ℕ) → place ≤ at →
    cond (s && (at == x)) (Some e) (if s && nat_le place x && nat_lt x at then Some e else o) ≡ (if s && nat_le place x && nat_lt x (at + 1) then Some e else o)
one_more false place x at e o h = refl
one_more true place x at e o h = by (at == x) refl
  where
    by : (b : Bool) → (at == x) ≡ b → cond (at == x) (Some e) (if nat_le place x && nat_lt x at then Some e else o) ≡ (if nat_le place x && nat_lt x (at + 1) then Some e else o)
    by true f =
        let le : true ≡ nat_le place x = grind (arith, nat_tests, f) in
        let lt : true ≡ nat_lt x (at + 1) = grind (arith, nat_tests, f) in
        ap (λ b. cond b (Some e) (if nat_le place x && nat_lt x at then Some e else o)) f
        ∙ ap (λ b. if b && true then Some e else o) le ∙ ap (λ b. if nat_le place x && b then Some e else o) lt
    by false f =
        let same : nat_lt x at ≡ nat_lt x (at + 1) = grind (arith, nat_tests, f) in
        ap (λ b. cond b (Some e) (if nat_le place x && nat_lt x at then Some e else o)) f
        ∙ ap (λ b. if nat_le place x && b then Some e else o) same

-- ---- leaves that share

abbrev IsSolid : PlacedLeaf → Type 0
IsSolid l = 0 < width_of l

-- a leaf that covers a byte of another shares it
covering : (l m : PlacedLeaf) (x : ℕ) → l.place ≤ x → x < leaf_end l → covers (l.array, x) m ≡ true → leaves_share l m ≡ true
covering l m x p q h =
    let a = and_parts (same_array l.array m.array && nat_le m.place x) (nat_lt x (leaf_end m)) h in
    let b = and_parts (same_array l.array m.array) (nat_le m.place x) a.0 in
    let le : nat_le m.place x ≡ true = b.1 in
    let lt : nat_lt x (leaf_end m) ≡ true = a.1 in
    let one : nat_lt l.place (leaf_end m) ≡ true = grind (arith, nat_tests, lt) in
    let two : nat_lt m.place (leaf_end l) ≡ true = grind (arith, nat_tests, le) in
    and_from (same_array l.array m.array && nat_lt l.place (leaf_end m)) (nat_lt m.place (leaf_end l)) (and_from (same_array l.array m.array) (nat_lt l.place (leaf_end m)) b.0 one) two

record Shared (l m : PlacedLeaf) : Type 0 where
  at : ℕ
  from : l.place ≤ at
  before : at < leaf_end l
  covered : covers (l.array, at) m ≡ true

shared : (l m : PlacedLeaf) → IsSolid l → IsSolid m → leaves_share l m ≡ true → Shared l m
shared l m s t h =
    let a = and_parts (same_array l.array m.array && nat_lt l.place (leaf_end m)) (nat_lt m.place (leaf_end l)) h in
    let b = and_parts (same_array l.array m.array) (nat_lt l.place (leaf_end m)) a.0 in
    let one : nat_lt l.place (leaf_end m) ≡ true = b.1 in
    let two : nat_lt m.place (leaf_end l) ≡ true = a.1 in
    let x : l.place < leaf_end m = grind (arith, nat_tests, one) in
    let y : m.place < leaf_end l = grind (arith, nat_tests, two) in
    record {
      at = max l.place m.place;
      from = omega arith;
      before = omega (arith, y, s);
      covered =
          and_from (same_array l.array m.array && nat_le m.place (max l.place m.place)) (nat_lt (max l.place m.place) (leaf_end m))
          (and_from (same_array l.array m.array) (nat_le m.place (max l.place m.place)) b.0 (le-leb m.place (max l.place m.place) (omega arith)))
          (lt-ltb (max l.place m.place) (leaf_end m) (omega (arith, x, t)));
    }

-- ---- the first on a byte

pub first_here : (test : PlacedLeaf → Bool) (l : PlacedLeaf) (ls : List PlacedLeaf) → first_leaf test (l ∷ ls) ≡ (if test l then Some l.entry else first_leaf test ls)
first_here test l ls = by (test l)
  where
    by : (b : Bool) → option_map (λ (m : PlacedLeaf). m.entry) (cond b (Some l) (find test ls)) ≡ (if b then Some l.entry else first_leaf test ls)
    by true = refl
    by false = refl

entry_from : (test : PlacedLeaf → Bool) (ls : List PlacedLeaf) (i e : ℕ) → RisesFrom i ls → first_leaf test ls ≡ Some e → i ≤ e
entry_from test [] i e r h = cc
entry_from test (l ∷ ls) i e r h = by (test l) refl (entry_from test ls (l.entry + 1) e r.1)
  where
    by : (b : Bool) → test l ≡ b → (first_leaf test ls ≡ Some e → l.entry + 1 ≤ e) → i ≤ e
    by true f ih =
        let s : Some l.entry ≡ Some e = sym (first_here test l ls ∙ ap (λ b. if b then Some l.entry else first_leaf test ls) f) ∙ h in
        let same : l.entry ≡ e = cc in
        omega (arith, r.0, same)
    by false f ih =
        let s : first_leaf test ls ≡ Some e = sym (first_here test l ls ∙ ap (λ b. if b then Some l.entry else first_leaf test ls) f) ∙ h in
        let le = ih s in
        omega (arith, r.0, le)

abbrev first_on : List PlacedLeaf → Byte → Option ℕ
first_on ls b = first_leaf (covers b) ls

module _ (l : PlacedLeaf) (solid : IsSolid l) where
  -- the first leaf on its bytes is that of the rest, where the first shares none
  passed : (m : PlacedLeaf) (ls : List PlacedLeaf) → leaves_share l m ≡ false → (x : ℕ) → l.place ≤ x → x < leaf_end l → first_on (m ∷ ls) (l.array, x) ≡ first_on ls (l.array, x)
  passed m ls f x p q =
      let n : covers (l.array, x) m ≡ false = false_from_ne_true (covers (l.array, x) m) (λ t. true≢false (sym (covering l m x p q t) ∙ f)) in
      first_here (covers (l.array, x)) m ls ∙ ap (λ b. if b then Some m.entry else first_on ls (l.array, x)) n

  rest_owns : (m : PlacedLeaf) (ls : List PlacedLeaf) (o : Option ℕ) → leaves_share l m ≡ false → IsLeastOwner (first_on (m ∷ ls)) l (leaf_end l) o → IsLeastOwner (first_on ls) l (leaf_end l) o
  rest_owns m ls None f h = λ x p q. sym (passed m ls f x p q) ∙ h x p q
  rest_owns m ls (Some e) f h =
      record {
        at = h.at;
        from = h.from;
        before = h.before;
        owns = sym (passed m ls f h.at h.from h.before) ∙ h.owns;
        least = λ x d p q o. h.least x d p q (passed m ls f x p q ∙ o);
      }

  first_owns : (m : PlacedLeaf) (ls : List PlacedLeaf) (i : ℕ) (o : Option ℕ) → RisesFrom i (m ∷ ls) → IsSolid m → leaves_share l m ≡ true → IsLeastOwner (first_on (m ∷ ls)) l (leaf_end l) o → o ≡ Some m.entry
  first_owns m ls i None r t f h =
      let x = shared l m solid t f in
      let here : first_on (m ∷ ls) (l.array, x.at) ≡ Some m.entry = first_here (covers (l.array, x.at)) m ls ∙ ap (λ b. if b then Some m.entry else first_on ls (l.array, x.at)) x.covered in
      sym (h x.at x.from x.before) ∙ here
  first_owns m ls i (Some e) r t f h =
      let x = shared l m solid t f in
      let here : first_on (m ∷ ls) (l.array, x.at) ≡ Some m.entry = first_here (covers (l.array, x.at)) m ls ∙ ap (λ b. if b then Some m.entry else first_on ls (l.array, x.at)) x.covered in
      let low : e ≤ m.entry = h.least x.at m.entry x.from x.before here in
      let high : m.entry ≤ e = entry_from (covers (l.array, h.at)) (m ∷ ls) m.entry e (omega arith, r.1) h.owns in
      let same : e ≡ m.entry = omega (arith, low, high) in
      ap Some same

  owner_is : (ls : List PlacedLeaf) (i : ℕ) (o : Option ℕ) → RisesFrom i ls → All IsSolid ls → IsLeastOwner (first_on ls) l (leaf_end l) o → o ≡ first_leaf (leaves_share l) ls
  owner_is [] i None r t h = refl
  owner_is [] i (Some e) r t h = let o : None ≡ Some e = h.owns in cc
  owner_is (m ∷ ls) i o r t h = by (leaves_share l m) refl (owner_is ls (m.entry + 1) o r.1 (All-tail IsSolid m ls t))
    where
      by : (b : Bool) → leaves_share l m ≡ b → (IsLeastOwner (first_on ls) l (leaf_end l) o → o ≡ first_leaf (leaves_share l) ls) → o ≡ first_leaf (leaves_share l) (m ∷ ls)
      by true f ih =
          first_owns m ls i o r (All-head IsSolid m ls t) f h
          ∙ sym (first_here (leaves_share l) m ls ∙ ap (λ b. if b then Some m.entry else first_leaf (leaves_share l) ls) f)
      by false f ih =
          ih (rest_owns m ls o f h) ∙ sym (first_here (leaves_share l) m ls ∙ ap (λ b. if b then Some m.entry else first_leaf (leaves_share l) ls) f)

-- the same of owners that are the first on each byte
by_owners : (owner : Byte → Option ℕ) (l : PlacedLeaf) (ls : List PlacedLeaf) (o : Option ℕ) → ((a : Option ℕ) (x : ℕ) → owner (a, x) ≡ first_leaf (covers (a, x)) ls) →
    IsLeastOwner owner l (leaf_end l) o → IsLeastOwner (first_on ls) l (leaf_end l) o
by_owners owner l ls None same h = λ x p q. sym (same l.array x) ∙ h x p q
by_owners owner l ls (Some e) same h =
    record {
      at = h.at;
      from = h.from;
      before = h.before;
      owns = sym (same l.array h.at) ∙ h.owns;
      least = λ x d p q o. h.least x d p q (same l.array x ∙ o);
    }

pub least_owner : (owner : Byte → Option ℕ) (l : PlacedLeaf) (ls : List PlacedLeaf) (i : ℕ) (o : Option ℕ) → 0 < width_of l → RisesFrom i ls → All IsSolid ls →
    ((a : Option ℕ) (x : ℕ) → owner (a, x) ≡ first_leaf (covers (a, x)) ls) → IsLeastOwner owner l (leaf_end l) o → o ≡ first_leaf (leaves_share l) ls
least_owner owner l ls i o s r t same h = owner_is l s ls i o r t (by_owners owner l ls o same h)

-- ---- the leaves of a table

wide : (k : Kind) → 0 < leaf_size k
wide Ubyte = omega arith
wide Sbyte = omega arith
wide Uword = omega arith
wide Sword = omega arith
wide Ulong = omega arith
wide Slong = omega arith

solid_list : (i : ℕ) (p : NestedEntry) (o : Option Item) → All IsSolid (leaf_list i p o)
solid_list i p None = All-nil IsSolid
solid_list i p (Some items.Void) = All-nil IsSolid
solid_list i p (Some (items.Number k)) = All-cons IsSolid (leaf_by i p (items.Number k)) [] (wide k) (All-nil IsSolid)
solid_list i p (Some items.Array) = All-cons IsSolid (leaf_by i p items.Array) [] (omega arith) (All-nil IsSolid)
solid_list i p (Some (items.Cluster m)) = All-nil IsSolid
solid_list i p (Some items.Mutex) = All-cons IsSolid (leaf_by i p items.Mutex) [] (omega arith) (All-nil IsSolid)

pub solid_leaves : (i : ℕ) (ps : List NestedEntry) → All IsSolid (leaves_from i ps)
solid_leaves i [] = All-nil IsSolid
solid_leaves i (p ∷ ps) = All-append IsSolid (leaf_list i p (item (outline p.entry))) (leaves_from (i + 1) ps) (solid_list i p (item (outline p.entry))) (solid_leaves (i + 1) ps)

-- ---- one more leaf

-- the leaf before the last ones
drop_before : (ls : List PlacedLeaf) (n : ℕ) (d : PlacedLeaf) → 0 < n → n ≤ length ls → drop (n - 1) ls ≡ get_or ls (n - 1) d ∷ drop n ls
drop_before ls n d p h =
    let lt : n - 1 < length ls = omega (arith, p, h) in
    let s : suc (n - 1) ≡ n = omega (arith, p) in
    drop-cons ls (n - 1) d lt ∙ ap (λ k. get_or ls (n - 1) d ∷ drop k ls) s

solid_drop : (n : ℕ) (ls : List PlacedLeaf) → All IsSolid ls → All IsSolid (drop n ls)
solid_drop zero ls a = a
solid_drop (suc n) [] a = a
solid_drop (suc n) (l ∷ ls) a = solid_drop n ls (All-tail IsSolid l ls a)

pub pair_more : (ls : List PlacedLeaf) (n : ℕ) (d : PlacedLeaf) (owner : Byte → Option ℕ) (o : Option ℕ) (found : Option (ℕ × ℕ)) → 0 < n → n ≤ length ls → RisesFrom 0 ls → All IsSolid ls →
    ((a : Option ℕ) (x : ℕ) → owner (a, x) ≡ first_leaf (covers (a, x)) (drop n ls)) → IsLeastOwner owner (get_or ls (n - 1) d) (leaf_end (get_or ls (n - 1) d)) o → found ≡ first_pair (drop n ls) →
    pair_or (get_or ls (n - 1) d).entry o found ≡ first_pair (drop (n - 1) ls)
pair_more ls n d owner o found p h r s same least e =
    let lt : n - 1 < length ls = omega (arith, p, h) in
    ap (λ q. pair_or (get_or ls (n - 1) d).entry q found) (least_owner owner (get_or ls (n - 1) d) (drop n ls) 0 o (s (n - 1) d lt) (rising_drop 0 n ls r) (solid_drop n ls s) same least)
    ∙ ap (pair_or (get_or ls (n - 1) d).entry (first_leaf (leaves_share (get_or ls (n - 1) d)) (drop n ls))) e
    ∙ sym (ap first_pair (drop_before ls n d p h))

pub owners_more : (ls : List PlacedLeaf) (n : ℕ) (d : PlacedLeaf) (owner : Byte → Option ℕ) → 0 < n → n ≤ length ls →
    ((a : Option ℕ) (x : ℕ) → owner (a, x) ≡ first_leaf (covers (a, x)) (drop n ls)) → (a : Option ℕ) (x : ℕ) →
    (if covers (a, x) (get_or ls (n - 1) d) then Some (get_or ls (n - 1) d).entry else owner (a, x)) ≡ first_leaf (covers (a, x)) (drop (n - 1) ls)
owners_more ls n d owner p h same a x =
    ap (λ o. if covers (a, x) (get_or ls (n - 1) d) then Some (get_or ls (n - 1) d).entry else o) (same a x)
    ∙ sym (ap (first_leaf (covers (a, x))) (drop_before ls n d p h) ∙ first_here (covers (a, x)) (get_or ls (n - 1) d) (drop n ls))
