-- The leaves that the passes go over are the table's.
use Rattle.std.proofs.Common.{◌≡◌, ℕ, ◌+◌, ◌%◌, ◌<◌, ◌≤◌, List, [], ◌∷◌, ◌++◌, refl, sym, ap, ◌∙◌, arith, Bool, true, false, ◌&&◌, true≢false, cond, ⊎_elim, Option, Some, None}
use Rattle.std.proofs.lemmas.Bool.{cases_lt}
use Rattle.std.proofs.lemmas.Bool.Decides.{nat_tests}
use Rattle.std.proofs.lemmas.List.{map-append}
use Rattle.std.specs.Prelude.{map, find, zip, flat_map, nat_lt, ◌==◌, IsTrue, option_map, is_none, if◌then◌else◌}
use Rattle.std.specs.List.{enumerate_from}
use Rattle.nxt_types.specs.declared.shape.TocEntry.{TocEntry}
use Rattle.nxt_types.specs.Refusals.{passes}
use Rattle.nxt_types.specs.Shapes.{Shape, Void, Number, Array, Cluster, Mutex, Members, count, outline}
use Rattle.nxt_types.specs.Names.{is_leaf}
use Rattle.nxt_table.specs.declared.item.Item.{Item}
use Rattle.nxt_table.specs.declared.item.Item.TheVariants as items
use Rattle.nxt_table.specs.declared.leaves.PlacedLeaf as flats
use Rattle.nxt_table.specs.declared.enclosing.NestedEntry.{NestedEntry}
use Rattle.nxt_table.specs.Inside.Items.{item}
use Rattle.nxt_table.specs.Leaves.{Site, Leaf, sites, leaf_at, leaves, leaf_of, bytes_of_leaf, end_of, is_outside, are_together, AreShapes}
use Rattle.nxt_table.specs.TableRules.{is_misplaced, share_a_byte}
use Rattle.nxt_table.specs.Inside.Enclosing.{placed_by, placed_entries}
use Rattle.nxt_table.specs.Inside.LeafPasses.{bytes_of, leaf_list, leaf_by, leaves_from, width_of, leaf_end, passes_end, first_leaf, same_array, leaves_share}
use Rattle.nxt_table.proofs.Entries.Spelled.{number_item}
use Rattle.nxt_table.proofs.Laws.Enclosed.{next_of, mark_of, shape_head, site_head, table_marks, table_heads}

-- ---- leaf by leaf

abbrev pub item_of_shape : Shape → Item
item_of_shape Void = items.Void
item_of_shape (Number k) = items.Number k
item_of_shape (Array n s) = items.Array
item_of_shape (Cluster ss) = items.Cluster (count ss)
item_of_shape Mutex = items.Mutex

pub item_head : (s : Shape) → item (shape_head s) ≡ Some (item_of_shape s)
item_head Void = refl
item_head (Number k) = number_item k
item_head (Array n s) = refl
item_head (Cluster ss) = refl
item_head Mutex = refl

-- a leaf as the passes see it
abbrev pub flat : Leaf → flats.PlacedLeaf
flat l = record { entry = l.entry; place = l.place; item = item_of_shape l.shape; array = next_of l.arrays; has_default = l.has_default }

pub none_outside : (arrays : List ℕ) → is_none (next_of arrays) ≡ is_outside arrays
none_outside [] = refl
none_outside (a ∷ more) = refl

abbrev pub leaf_here : ℕ × (TocEntry × Site) → List Leaf
leaf_here x = if is_leaf x.1.1.shape then leaf_at x.0 x.1.0 x.1.1 ∷ [] else []

one_leaf : (i : ℕ) (e : TocEntry) (s : Site) → outline e ≡ site_head s →
    leaf_list i (record { entry = e; depth = s.depth; array = next_of s.arrays }) (item (outline e)) ≡ map flat (leaf_here (i, (e, s)))
one_leaf i e s h = ap (leaf_list i p) (ap item h ∙ item_head s.shape) ∙ at s.shape refl
  where
    p : NestedEntry
    p = record { entry = e; depth = s.depth; array = next_of s.arrays }

    default : (is_none (next_of s.arrays) && (e.flags % 2 == 0)) ≡ (is_outside s.arrays && (e.flags % 2 == 0))
    default = ap (λ b. b && (e.flags % 2 == 0)) (none_outside s.arrays)

    -- with a default by either test
    same : (x : Item) → leaf_by i p x ≡ record { entry = i; place = e.desc; item = x; array = next_of s.arrays; has_default = is_outside s.arrays && (e.flags % 2 == 0) }
    same x = ap (λ b. record { entry = i; place = e.desc; item = x; array = next_of s.arrays; has_default = b }) default

    at : (t : Shape) → t ≡ s.shape → leaf_list i p (Some (item_of_shape t)) ≡ map flat (if is_leaf t then record { entry = i; place = e.desc; shape = t; arrays = s.arrays; has_default = is_outside s.arrays && (e.flags % 2 == 0) } ∷ [] else [])
    at Void f = refl
    at (Number k) f = ap (λ x. x ∷ []) (same (items.Number k))
    at (Array n q) f = ap (λ x. x ∷ []) (same items.Array)
    at (Cluster ss) f = refl
    at Mutex f = ap (λ x. x ∷ []) (same items.Mutex)

abbrev pub head_of : List (ℕ × ℕ) → ℕ × ℕ
head_of [] = (0, 0)
head_of (x ∷ xs) = x

abbrev pub tail_of : List (ℕ × ℕ) → List (ℕ × ℕ)
tail_of [] = []
tail_of (x ∷ xs) = xs

leaves_same : (es : List TocEntry) (sts : List Site) (i : ℕ) → map outline es ≡ map site_head sts →
    leaves_from i (placed_by es (map mark_of sts)) ≡ map flat (flat_map leaf_here (enumerate_from i (zip es sts)))
leaves_same [] sts i h = refl
leaves_same (e ∷ es) [] i h = refl
leaves_same (e ∷ es) (s ∷ sts) i h =
    let first = ap head_of h in
    let rest = ap tail_of h in
    ap (λ l. l ++ leaves_from (i + 1) (placed_by es (map mark_of sts))) (one_leaf i e s first)
    ∙ ap (λ l. map flat (leaf_here (i, (e, s))) ++ l) (leaves_same es sts (i + 1) rest)
    ∙ sym (map-append flat (leaf_here (i, (e, s))) (flat_map leaf_here (enumerate_from (i + 1) (zip es sts))))

pub table_leaves : (table : List TocEntry) (ss : Members) → AreShapes table ss → leaves_from 0 (placed_entries table) ≡ map flat (leaves table ss)
table_leaves table ss h =
    ap (λ ms. leaves_from 0 (placed_by table ms)) (table_marks table ss h) ∙ leaves_same table (sites ss) 0 (table_heads table ss h)

-- ---- tests

pub flat_width : (l : Leaf) → width_of (flat l) ≡ bytes_of_leaf l.shape
flat_width l = at l.shape
  where
    at : (s : Shape) → bytes_of (item_of_shape s) ≡ bytes_of_leaf s
    at Void = refl
    at (Number k) = refl
    at (Array n s) = refl
    at (Cluster ss) = refl
    at Mutex = refl

pub flat_end : (l : Leaf) → leaf_end (flat l) ≡ end_of l
flat_end l = ap (λ w. l.place + w) (flat_width l)

pub flat_misplaced : (n : ℕ) (l : Leaf) → passes_end n (flat l) ≡ is_misplaced n l
flat_misplaced n l =
    ap (λ e. nat_lt (if is_none (next_of l.arrays) then n else 32768) e) (flat_end l)
    ∙ ap (λ b. nat_lt (if b then n else 32768) (end_of l)) (none_outside l.arrays)

together : (a b : List ℕ) → same_array (next_of a) (next_of b) ≡ are_together a b
together [] [] = refl
together [] (y ∷ ys) = refl
together (x ∷ xs) [] = refl
together (x ∷ xs) (y ∷ ys) = refl

pub flat_share : (a b : Leaf) → a.entry < b.entry → leaves_share (flat a) (flat b) ≡ share_a_byte a b
flat_share a b h =
    let t : true ≡ nat_lt a.entry b.entry = grind (arith, nat_tests) in
    ap (λ e. same_array (next_of a.arrays) (next_of b.arrays) && nat_lt a.place e && nat_lt b.place (leaf_end (flat a))) (flat_end b)
    ∙ ap (λ e. same_array (next_of a.arrays) (next_of b.arrays) && nat_lt a.place (end_of b) && nat_lt b.place e) (flat_end a)
    ∙ ap (λ c. c && nat_lt a.place (end_of b) && nat_lt b.place (end_of a)) (together a.arrays b.arrays)
    ∙ ap (λ c. c && are_together a.arrays b.arrays && nat_lt a.place (end_of b) && nat_lt b.place (end_of a)) t

-- ---- leaves in order

-- the entries rise, from i on
abbrev pub Rising : ℕ → List Leaf → Type 0
Rising i [] = Unit {0}
Rising i (l ∷ ls) = (i ≤ l.entry) × Rising (l.entry + 1) ls

pub rising_from : (i j : ℕ) (ls : List Leaf) → j ≤ i → Rising i ls → Rising j ls
rising_from i j [] h r = tt
rising_from i j (l ∷ ls) h r = (omega (arith, r.0), r.1)

rising_leaves : (es : List TocEntry) (sts : List Site) (i : ℕ) → Rising i (flat_map leaf_here (enumerate_from i (zip es sts)))
rising_leaves [] sts i = tt
rising_leaves (e ∷ es) [] i = tt
rising_leaves (e ∷ es) (s ∷ sts) i = at (is_leaf s.shape) (rising_leaves es sts (i + 1))
  where
    at : (b : Bool) → Rising (i + 1) (flat_map leaf_here (enumerate_from (i + 1) (zip es sts))) →
        Rising i ((if b then leaf_at i e s ∷ [] else []) ++ flat_map leaf_here (enumerate_from (i + 1) (zip es sts)))
    at true r = (omega arith, r)
    at false r = rising_from (i + 1) i (flat_map leaf_here (enumerate_from (i + 1) (zip es sts))) (omega arith) r

pub table_rises : (table : List TocEntry) (ss : Members) → Rising 0 (leaves table ss)
table_rises table ss = rising_leaves table (sites ss) 0

-- ---- the first leaf

abbrev pub first_entry : (Leaf → Bool) → List Leaf → Option ℕ
first_entry test ls = option_map (λ l. l.entry) (find test ls)

pub flat_first : (test : Leaf → Bool) (seen : flats.PlacedLeaf → Bool) → ((l : Leaf) → seen (flat l) ≡ test l) → (ls : List Leaf) →
    first_leaf seen (map flat ls) ≡ first_entry test ls
flat_first test seen same [] = refl
flat_first test seen same (l ∷ ls) =
    ap (λ b. option_map (λ (m : flats.PlacedLeaf). m.entry) (cond b (Some (flat l)) (find seen (map flat ls)))) (same l) ∙ at (test l) (flat_first test seen same ls)
  where
    at : (b : Bool) → first_leaf seen (map flat ls) ≡ first_entry test ls →
        option_map (λ (m : flats.PlacedLeaf). m.entry) (cond b (Some (flat l)) (find seen (map flat ls))) ≡ option_map (λ (m : Leaf). m.entry) (cond b (Some l) (find test ls))
    at true h = refl
    at false h = h

pub none_below : (ls : List Leaf) (i v : ℕ) → Rising i ls → v < i → leaf_of ls v ≡ None
none_below [] i v r h = refl
none_below (l ∷ ls) i v r h =
    let t : (l.entry == v) ≡ false = grind (arith, nat_tests, r.0) in
    ap (λ b. cond b (Some l) (leaf_of ls v)) t ∙ none_below ls (l.entry + 1) v r.1 (omega (arith, r.0))

pub found_leaf : (test : Leaf → Bool) (ls : List Leaf) (i w : ℕ) → Rising i ls → first_entry test ls ≡ Some w → (i ≤ w) × IsTrue (passes test (leaf_of ls w))
found_leaf test [] i w r e = cc
found_leaf test (l ∷ ls) i w r e = at (test l) refl (found_leaf test ls (l.entry + 1) w r.1)
  where
    at : (b : Bool) → test l ≡ b → (first_entry test ls ≡ Some w → (l.entry + 1 ≤ w) × IsTrue (passes test (leaf_of ls w))) → (i ≤ w) × IsTrue (passes test (leaf_of (l ∷ ls) w))
    at true f ih =
        let s : Some l.entry ≡ Some w = sym (ap (λ b. option_map (λ (m : Leaf). m.entry) (cond b (Some l) (find test ls))) f) ∙ e in
        let same : l.entry ≡ w = cc in
        let t : (l.entry == w) ≡ true = grind (arith, nat_tests) in
        (omega (arith, r.0, same), ap (λ b. passes test (cond b (Some l) (leaf_of ls w))) t ∙ f)
    at false f ih =
        let s : first_entry test ls ≡ Some w = sym (ap (λ b. option_map (λ (m : Leaf). m.entry) (cond b (Some l) (find test ls))) f) ∙ e in
        let g = ih s in
        let t : (l.entry == w) ≡ false = grind (arith, nat_tests, g.0) in
        (omega (arith, r.0, g.0), ap (λ b. passes test (cond b (Some l) (leaf_of ls w))) t ∙ g.1)

pub least_leaf : (test : Leaf → Bool) (ls : List Leaf) (i v : ℕ) → Rising i ls → IsTrue (passes test (leaf_of ls v)) →
    (w : ℕ) × (first_entry test ls ≡ Some w) × (w ≤ v)
least_leaf test [] i v r h = absurd (true≢false (sym h))
least_leaf test (l ∷ ls) i v r h = at (test l) refl (l.entry == v) refl (least_leaf test ls (l.entry + 1) v r.1)
  where
    at : (b : Bool) → test l ≡ b → (c : Bool) → (l.entry == v) ≡ c → (IsTrue (passes test (leaf_of ls v)) → (w : ℕ) × (first_entry test ls ≡ Some w) × (w ≤ v)) →
        (w : ℕ) × (first_entry test (l ∷ ls) ≡ Some w) × (w ≤ v)
    at true f true g ih =
        let same : l.entry ≡ v = grind (arith, nat_tests) in
        (l.entry, ap (λ b. option_map (λ (m : Leaf). m.entry) (cond b (Some l) (find test ls))) f, omega (arith, same))
    at true f false g ih =
        let later : IsTrue (passes test (leaf_of ls v)) = sym (ap (λ b. passes test (cond b (Some l) (leaf_of ls v))) g) ∙ h in
        let lt = ih later in
        (l.entry, ap (λ b. option_map (λ (m : Leaf). m.entry) (cond b (Some l) (find test ls))) f, at_most (leaf_of ls v) refl later)
      where
        at_most : (o : Option Leaf) → leaf_of ls v ≡ o → IsTrue (passes test (leaf_of ls v)) → l.entry ≤ v
        at_most o e p = ⊎_elim (λ (q : v < l.entry). absurd (let n = none_below ls (l.entry + 1) v r.1 (omega (arith, q)) in true≢false (sym p ∙ ap (passes test) n))) (λ (q : l.entry ≤ v). q) (cases_lt v l.entry)
    at false f true g ih =
        let s : IsTrue (test l) = sym (ap (λ b. passes test (cond b (Some l) (leaf_of ls v))) g) ∙ h in
        absurd (true≢false (sym s ∙ f))
    at false f false g ih =
        let later : IsTrue (passes test (leaf_of ls v)) = sym (ap (λ b. passes test (cond b (Some l) (leaf_of ls v))) g) ∙ h in
        let x = ih later in
        (x.0, ap (λ b. option_map (λ (m : Leaf). m.entry) (cond b (Some l) (find test ls))) f ∙ x.1, x.2)

pub first_leaf_passes : (test : Leaf → Bool) (ls : List Leaf) (w : ℕ) → Rising 0 ls → first_entry test ls ≡ Some w → IsTrue (passes test (leaf_of ls w))
first_leaf_passes test ls w r e = (found_leaf test ls 0 w r e).1

pub first_leaf_least : (test : Leaf → Bool) (ls : List Leaf) (w v : ℕ) → Rising 0 ls → first_entry test ls ≡ Some w → IsTrue (passes test (leaf_of ls v)) → w ≤ v
first_leaf_least test ls w v r e h =
    let x = least_leaf test ls 0 v r h in
    let s : Some w ≡ Some x.0 = sym e ∙ x.1 in
    let same : w ≡ x.0 = cc in
    omega (arith, same, x.2)

pub no_leaf_passes : (test : Leaf → Bool) (ls : List Leaf) (v : ℕ) → Rising 0 ls → first_entry test ls ≡ None → IsTrue (passes test (leaf_of ls v)) → ⊥
no_leaf_passes test ls v r e h = let x = least_leaf test ls 0 v r h in let s : None ≡ Some x.0 = sym e ∙ x.1 in cc
