-- The leaves of a table are those of its shapes by recursion, and each is found by its entry.
use Rattle.std.proofs.Common.{◌≡◌, ℕ, zero, suc, ◌+◌, ◌≤◌, ◌<◌, Bool, true, false, cond, ◌&&◌, List, [], ◌∷◌, ◌++◌, filter, flat_map, zip, drop, length, max, fold, slice_get, Option, Some, if◌then◌else◌, refl, sym, ap, ◌∙◌, arith, append_assoc, append-nil, eq-eqb, ne_eqb}
use Rattle.std.specs.List.{enumerate_from}
use Rattle.nxt_types.specs.Shapes.{Shape, Void, Number, Array, Cluster, Mutex, Members, no_members, member}
use Rattle.nxt_types.specs.Names.{size, sizes, is_leaf}
use Rattle.nxt_types.specs.declared.shape.TocEntry.{TocEntry}
use Rattle.nxt_model.specs.Reading.{desc_of}
use Rattle.nxt_table.specs.Leaves.{Site, site, Leaf, is_outside, leaves, leaf_of, sites, sites_in, sites_among, end_of, extent, stands_in}
use Rattle.nxt_table.proofs.Laws.Leaves.{leaf_here, Rising, rising_from, table_rises}
use Rattle.nxt_facts.proofs.Each.{Each, each_then, each_both}
use Rattle.nxt_layout.proofs.Start.Leaves.{takes_default, leaf_in, leaves_in, leaves_among}

-- ---- by recursion

-- those from entry i on
abbrev leaves_from : List TocEntry → ℕ → List Site → List Leaf
leaves_from table i more = flat_map leaf_here (enumerate_from i (zip (drop i table) more))

abbrev Front : List TocEntry → ℕ → Type 0
Front table i = (e : TocEntry) × (drop i table ≡ e ∷ drop (i + 1) table) × (slice_get table i ≡ Some e)

front_more : (x : TocEntry) (xs : List TocEntry) (i : ℕ) → Front xs i → Front (x ∷ xs) (suc i)
front_more x xs i r =
    let n : suc (i + 1) ≡ suc i + 1 = omega arith in
    (r.0, r.1 ∙ ap (λ k. r.0 ∷ drop k (x ∷ xs)) n, r.2)

front : (table : List TocEntry) (i : ℕ) → i < length table → Front table i
front [] i h = let f : ⊥ = omega (arith, h) in absurd f
front (x ∷ xs) zero h = (x, refl, refl)
front (x ∷ xs) (suc i) h = front_more x xs i (front xs i (omega (arith, h)))

abbrev leaf_with : Option TocEntry → ℕ → Site → Leaf
leaf_with o i s =
    record {
      entry = i;
      place = desc_of o;
      shape = s.shape;
      arrays = s.arrays;
      has_default = is_outside s.arrays && takes_default o;
    }

-- one entry more
step : (table : List TocEntry) (i : ℕ) (s : Site) (more : List Site) → i < length table → leaves_from table i (s ∷ more) ≡ (if is_leaf s.shape then leaf_in table s.shape i s.arrays ∷ [] else []) ++ leaves_from table (i + 1) more
step table i s more h =
    let f = front table i h in
    ap (λ es. flat_map leaf_here (enumerate_from i (zip es (s ∷ more)))) f.1
    ∙ ap (λ o. (if is_leaf s.shape then leaf_with o i s ∷ [] else []) ++ leaves_from table (i + 1) more) (sym f.2)

mutual
  shape_front : (table : List TocEntry) (s : Shape) (i depth : ℕ) (arrays : List ℕ) (more : List Site) → i + size s ≤ length table → leaves_from table i (sites_in s i depth arrays ++ more) ≡ leaves_in table s i arrays ++ leaves_from table (i + size s) more
  shape_front table Void i depth arrays more h = step table i (site Void depth arrays) more (omega (arith, h))
  shape_front table (Number k) i depth arrays more h = step table i (site (Number k) depth arrays) more (omega (arith, h))
  shape_front table (Array n s) i depth arrays more h =
      let rest = shape_front table s (i + 1) (depth + 1) (i ∷ arrays) more (omega (arith, h)) in
      let same : i + 1 + size s ≡ i + (size s + 1) = omega arith in
      step table i (site (Array n s) depth arrays) (sites_in s (i + 1) (depth + 1) (i ∷ arrays) ++ more) (omega (arith, h))
      ∙ ap (λ ls. leaf_in table (Array n s) i arrays ∷ ls) (rest ∙ ap (λ k. leaves_in table s (i + 1) (i ∷ arrays) ++ leaves_from table k more) same)
  shape_front table (Cluster ss) i depth arrays more h =
      let rest = members_front table ss (i + 1) (depth + 1) arrays more (omega (arith, h)) in
      let same : i + 1 + sizes ss ≡ i + (sizes ss + 1) = omega arith in
      step table i (site (Cluster ss) depth arrays) (sites_among ss (i + 1) (depth + 1) arrays ++ more) (omega (arith, h))
      ∙ (rest ∙ ap (λ k. leaves_among table ss (i + 1) arrays ++ leaves_from table k more) same)
  shape_front table Mutex i depth arrays more h = step table i (site Mutex depth arrays) more (omega (arith, h))

  members_front : (table : List TocEntry) (ss : Members) (i depth : ℕ) (arrays : List ℕ) (more : List Site) → i + sizes ss ≤ length table → leaves_from table i (sites_among ss i depth arrays ++ more) ≡ leaves_among table ss i arrays ++ leaves_from table (i + sizes ss) more
  members_front table no_members i depth arrays more h =
      let same : i ≡ i + 0 = omega arith in ap (λ k. leaves_from table k more) same
  members_front table (member s ss) i depth arrays more h =
      let here = sites_in s i depth arrays in
      let others = sites_among ss (i + size s) depth arrays in
      let rest = members_front table ss (i + size s) depth arrays more (omega (arith, h)) in
      let same : i + size s + sizes ss ≡ i + (size s + sizes ss) = omega arith in
      ap (leaves_from table i) (append_assoc here others more)
      ∙ shape_front table s i depth arrays (others ++ more) (omega (arith, h))
      ∙ ap (λ ls. leaves_in table s i arrays ++ ls) (rest ∙ ap (λ k. leaves_among table ss (i + size s) arrays ++ leaves_from table k more) same)
      ∙ sym (append_assoc (leaves_in table s i arrays) (leaves_among table ss (i + size s) arrays) (leaves_from table (i + (size s + sizes ss)) more))

zip_none : (es : List TocEntry) → zip {X = Site} es [] ≡ []
zip_none [] = refl
zip_none (e ∷ es) = refl

pub leaves_are : (table : List TocEntry) (ss : Members) → length table ≡ sizes ss → leaves table ss ≡ leaves_among table ss 0 []
leaves_are table ss h =
    ap (leaves_from table 0) (sym (append-nil (sites ss)))
    ∙ members_front table ss 0 0 [] [] (omega (arith, h))
    ∙ ap (λ xs. leaves_among table ss 0 [] ++ flat_map leaf_here (enumerate_from (0 + sizes ss) xs)) (zip_none (drop (0 + sizes ss) table))
    ∙ append-nil (leaves_among table ss 0 [])

-- ---- found by entry

rising_kept : (l : Leaf) (i : ℕ) (ls : List Leaf) (b : Bool) → i ≤ l.entry → Rising (l.entry + 1) ls → Rising i (cond b (l ∷ ls) ls)
rising_kept l i ls true h r = (h, r)
rising_kept l i ls false h r = rising_from (l.entry + 1) i ls (omega (arith, h)) r

pub rising_filter : (p : Leaf → Bool) (i : ℕ) (ls : List Leaf) → Rising i ls → Rising i (filter p ls)
rising_filter p i [] r = tt
rising_filter p i (l ∷ ls) r = rising_kept l i (filter p ls) (p l) r.0 (rising_filter p (l.entry + 1) ls r.1)

all_later : (i : ℕ) (ls : List Leaf) → Rising i ls → Each (λ l. i ≤ l.entry) ls
all_later i [] r = tt
all_later i (l ∷ ls) r =
    (r.0, each_then (λ k. l.entry + 1 ≤ k.entry) (λ k. i ≤ k.entry) (λ k h. omega (arith, h, r.0)) ls (all_later (l.entry + 1) ls r.1))

found_from : (i : ℕ) (ls : List Leaf) → Rising i ls → Each (λ l. leaf_of ls l.entry ≡ Some l) ls
found_from i [] r = tt
found_from i (l ∷ ls) r = (
  ap (λ b. cond b (Some l) (leaf_of ls l.entry)) (eq-eqb l.entry l.entry refl),
  each_both
      (λ k. l.entry + 1 ≤ k.entry)
      (λ k. leaf_of ls k.entry ≡ Some k)
      (λ k. leaf_of (l ∷ ls) k.entry ≡ Some k)
      (λ k later e. ap (λ b. cond b (Some l) (leaf_of ls k.entry)) (ne_eqb l.entry k.entry (λ same. omega (arith, later, same))) ∙ e)
      ls
      (all_later (l.entry + 1) ls r.1)
      (found_from (l.entry + 1) ls r.1),
)

-- each leaf of a table is found by its entry, also among those that pass a test
pub leaves_found : (table : List TocEntry) (ss : Members) → Each (λ l. leaf_of (leaves table ss) l.entry ≡ Some l) (leaves table ss)
leaves_found table ss = found_from 0 (leaves table ss) (table_rises table ss)

pub some_found : (p : Leaf → Bool) (table : List TocEntry) (ss : Members) → Each (λ l. leaf_of (filter p (leaves table ss)) l.entry ≡ Some l) (filter p (leaves table ss))
some_found p table ss =
    found_from 0 (filter p (leaves table ss)) (rising_filter p 0 (leaves table ss) (table_rises table ss))

-- ---- extents

abbrev wider : ℕ → ℕ → Leaf → ℕ
wider a most l = if stands_in a l.arrays then max most (end_of l) else most

no_less : (b : Bool) (most end : ℕ) → most ≤ (if b then max most end else most)
no_less true most end = omega arith
no_less false most end = omega arith

grows : (a most : ℕ) (ls : List Leaf) → most ≤ fold (wider a) most ls
grows a most [] = omega arith
grows a most (l ∷ ls) = omega (arith, no_less (stands_in a l.arrays) most (end_of l), grows a (wider a most l) ls)

holds_it : (b : Bool) (most end : ℕ) → b ≡ true → end ≤ (if b then max most end else most)
holds_it true most end e = omega arith
holds_it false most end e = let f : ⊥ = cc in absurd f

all_held : (ls : List Leaf) → Each (λ l. (a most : ℕ) → stands_in a l.arrays ≡ true → end_of l ≤ fold (wider a) most ls) ls
all_held [] = tt
all_held (l ∷ ls) = (
  λ a most e. omega (arith, holds_it (stands_in a l.arrays) most (end_of l) e, grows a (wider a most l) ls),
  each_then
      (λ k. (a most : ℕ) → stands_in a k.arrays ≡ true → end_of k ≤ fold (wider a) most ls)
      (λ k. (a most : ℕ) → stands_in a k.arrays ≡ true → end_of k ≤ fold (wider a) most (l ∷ ls))
      (λ k h a most e. h a (wider a most l) e)
      ls
      (all_held ls),
)

-- each leaf ends in the extent of the array around it
pub in_extent : (ls : List Leaf) → Each (λ l. (a : ℕ) → stands_in a l.arrays ≡ true → end_of l ≤ extent ls a) ls
in_extent ls =
    each_then
    (λ l. (a most : ℕ) → stands_in a l.arrays ≡ true → end_of l ≤ fold (wider a) most ls)
    (λ l. (a : ℕ) → stands_in a l.arrays ≡ true → end_of l ≤ extent ls a)
    (λ l h a e. h a 0 e)
    ls
    (all_held ls)
