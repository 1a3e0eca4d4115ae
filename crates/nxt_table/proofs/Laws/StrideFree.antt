-- The dataspace and the spelling don't depend on strides.
use Rattle.std.proofs.Common.{◌≡◌, ℕ, ◌+◌, ◌-◌, ◌≤◌, Bool, true, false, cond, ◌&&◌, not, nat_lt, List, [], ◌∷◌, ◌++◌, map, filter, flat_map, zip, fold, replicate, sum_by, length, slice_range, if◌then◌else◌, refl, sym, ap, ap₂, ◌∙◌, subst, arith, length-append, length-take, length-drop}
use Rattle.std.specs.List.{enumerate_from}
use Rattle.std.proofs.lemmas.List.{map-append, length-map, length-replicate}
use Rattle.nxt_types.specs.Shapes.{Shape, Void, Number, Array, Cluster, Mutex, Members, no_members, member, count, bare, bares, outline, spelling, spellings, is_filled, are_filled, SpellsAll}
use Rattle.nxt_types.specs.Names.{size, sizes, is_leaf}
use Rattle.nxt_types.specs.declared.shape.TocEntry.{TocEntry}
use Rattle.nxt_rxe.specs.declared.parts.Parts.{Parts}
use Rattle.nxt_table.specs.Leaves.{Site, site, sites, sites_in, sites_among, Leaf, leaf_at, leaves, width, bytes_of_leaf, is_mutex}
use Rattle.nxt_table.specs.Dataspace.{default_place, default_end, set_leaves, static_bytes, dynamic_bytes, dataspace}
use Rattle.nxt_facts.specs.PutAt.{put_at}
use Rattle.nxt_table.specs.Strides.{with_strides, all_with_strides}
use Rattle.nxt_table.proofs.Laws.Leaves.{leaf_here}
use Rattle.nxt_table.proofs.Entries.Variables.{length-spellings}

-- ---- shapes

mutual
  bare-with_strides : (f : ℕ → ℕ) (i : ℕ) (s : Shape) → bare (with_strides f i s) ≡ bare s
  bare-with_strides f i Void = refl
  bare-with_strides f i (Number k) = refl
  bare-with_strides f i (Array n s) = ap (Array 0) (bare-with_strides f (i + 1) s)
  bare-with_strides f i (Cluster ss) = ap Cluster (bares-with_strides f (i + 1) ss)
  bare-with_strides f i Mutex = refl

  pub bares-with_strides : (f : ℕ → ℕ) (i : ℕ) (ss : Members) → bares (all_with_strides f i ss) ≡ bares ss
  bares-with_strides f i no_members = refl
  bares-with_strides f i (member s ss) = ap₂ member (bare-with_strides f i s) (bares-with_strides f (i + size s) ss)

count-with_strides : (f : ℕ → ℕ) (i : ℕ) (ss : Members) → count (all_with_strides f i ss) ≡ count ss
count-with_strides f i no_members = refl
count-with_strides f i (member s ss) = ap (λ n. n + 1) (count-with_strides f (i + size s) ss)

mutual
  spelling-with_strides : (f : ℕ → ℕ) (i : ℕ) (s : Shape) → spelling (with_strides f i s) ≡ spelling s
  spelling-with_strides f i Void = refl
  spelling-with_strides f i (Number k) = refl
  spelling-with_strides f i (Array n s) = ap (λ l. (7, 0) ∷ l) (spelling-with_strides f (i + 1) s)
  spelling-with_strides f i (Cluster ss) =
      ap₂ (λ (n : ℕ) (l : List (ℕ × ℕ)). (8, n) ∷ l) (count-with_strides f (i + 1) ss) (spellings-with_strides f (i + 1) ss)
  spelling-with_strides f i Mutex = refl

  pub spellings-with_strides : (f : ℕ → ℕ) (i : ℕ) (ss : Members) → spellings (all_with_strides f i ss) ≡ spellings ss
  spellings-with_strides f i no_members = refl
  spellings-with_strides f i (member s ss) =
      ap₂ (λ (a b : List (ℕ × ℕ)). a ++ b) (spelling-with_strides f i s) (spellings-with_strides f (i + size s) ss)

mutual
  filled-with_strides : (f : ℕ → ℕ) (i : ℕ) (s : Shape) → is_filled (with_strides f i s) ≡ is_filled s
  filled-with_strides f i Void = refl
  filled-with_strides f i (Number k) = refl
  filled-with_strides f i (Array n s) = filled-with_strides f (i + 1) s
  filled-with_strides f i (Cluster ss) =
      ap₂ (λ (n : ℕ) (b : Bool). nat_lt 0 n && b) (count-with_strides f (i + 1) ss) (all_filled-with_strides f (i + 1) ss)
  filled-with_strides f i Mutex = refl

  pub all_filled-with_strides : (f : ℕ → ℕ) (i : ℕ) (ss : Members) → are_filled (all_with_strides f i ss) ≡ are_filled ss
  all_filled-with_strides f i no_members = refl
  all_filled-with_strides f i (member s ss) =
      ap₂ (λ (a b : Bool). a && b) (filled-with_strides f i s) (all_filled-with_strides f (i + size s) ss)

-- the same table spells the shapes with strides
pub spells_with_strides : (table : List TocEntry) (f : ℕ → ℕ) (ss : Members) → SpellsAll table ss → SpellsAll table (all_with_strides f 0 ss)
spells_with_strides table f ss h =
    record {
      entries = h.entries ∙ sym (spellings-with_strides f 0 ss);
      filled = all_filled-with_strides f 0 ss ∙ h.filled;
    }

-- ---- as many entries

mutual
  pub size-with_strides : (f : ℕ → ℕ) (i : ℕ) (s : Shape) → size (with_strides f i s) ≡ size s
  size-with_strides f i Void = refl
  size-with_strides f i (Number k) = refl
  size-with_strides f i (Array n s) = ap (λ n. n + 1) (size-with_strides f (i + 1) s)
  size-with_strides f i (Cluster ss) = ap (λ n. n + 1) (sizes-with_strides f (i + 1) ss)
  size-with_strides f i Mutex = refl

  pub sizes-with_strides : (f : ℕ → ℕ) (i : ℕ) (ss : Members) → sizes (all_with_strides f i ss) ≡ sizes ss
  sizes-with_strides f i no_members = refl
  sizes-with_strides f i (member s ss) =
      rw (size-with_strides f i s, sizes-with_strides f (i + size s) ss)

pub size_of_table : (table : List TocEntry) (ss : Members) → SpellsAll table ss → length table ≡ sizes ss
size_of_table table ss h = sym (length-map table outline) ∙ ap length h.entries ∙ length-spellings ss

-- ---- leaves

mutual
  size-bare : (s : Shape) → size (bare s) ≡ size s
  size-bare Void = refl
  size-bare (Number k) = refl
  size-bare (Array n s) = ap (λ n. n + 1) (size-bare s)
  size-bare (Cluster ss) = ap (λ n. n + 1) (sizes-bares ss)
  size-bare Mutex = refl

  sizes-bares : (ss : Members) → sizes (bares ss) ≡ sizes ss
  sizes-bares no_members = refl
  sizes-bares (member s ss) = ap₂ (λ (a b : ℕ). a + b) (size-bare s) (sizes-bares ss)

abbrev bare_site : Site → Site
bare_site s = site (bare s.shape) s.depth s.arrays

abbrev bare_leaf : Leaf → Leaf
bare_leaf l = record l { shape = bare l.shape }

mutual
  sites_of_bare : (s : Shape) (i depth : ℕ) (arrays : List ℕ) → map bare_site (sites_in s i depth arrays) ≡ sites_in (bare s) i depth arrays
  sites_of_bare Void i depth arrays = refl
  sites_of_bare (Number k) i depth arrays = refl
  sites_of_bare (Array n s) i depth arrays =
      ap (λ l. site (Array 0 (bare s)) depth arrays ∷ l) (sites_of_bare s (i + 1) (depth + 1) (i ∷ arrays))
  sites_of_bare (Cluster ss) i depth arrays =
      ap (λ l. site (Cluster (bares ss)) depth arrays ∷ l) (sites_of_bares ss (i + 1) (depth + 1) arrays)
  sites_of_bare Mutex i depth arrays = refl

  sites_of_bares : (ss : Members) (i depth : ℕ) (arrays : List ℕ) → map bare_site (sites_among ss i depth arrays) ≡ sites_among (bares ss) i depth arrays
  sites_of_bares no_members i depth arrays = refl
  sites_of_bares (member s ss) i depth arrays =
      map-append bare_site (sites_in s i depth arrays) (sites_among ss (i + size s) depth arrays)
      ∙ ap₂ (λ (a b : List Site). a ++ b) (sites_of_bare s i depth arrays) (sites_of_bares ss (i + size s) depth arrays)
      ∙ ap (λ n. sites_in (bare s) i depth arrays ++ sites_among (bares ss) (i + n) depth arrays) (sym (size-bare s))

leaf-bare : (s : Shape) → is_leaf s ≡ is_leaf (bare s)
leaf-bare Void = refl
leaf-bare (Number k) = refl
leaf-bare (Array n s) = refl
leaf-bare (Cluster ss) = refl
leaf-bare Mutex = refl

bytes-bare : (s : Shape) → bytes_of_leaf (bare s) ≡ bytes_of_leaf s
bytes-bare Void = refl
bytes-bare (Number k) = refl
bytes-bare (Array n s) = refl
bytes-bare (Cluster ss) = refl
bytes-bare Mutex = refl

mutex-bare : (s : Shape) → is_mutex (bare s) ≡ is_mutex s
mutex-bare Void = refl
mutex-bare (Number k) = refl
mutex-bare (Array n s) = refl
mutex-bare (Cluster ss) = refl
mutex-bare Mutex = refl

one_bare : (b : Bool) (l : Leaf) (ls : List Leaf) → map bare_leaf ((if b then l ∷ [] else []) ++ ls) ≡ (if b then bare_leaf l ∷ [] else []) ++ map bare_leaf ls
one_bare true l ls = refl
one_bare false l ls = refl

leaves_of_bare : (i : ℕ) (es : List TocEntry) (ss : List Site) → map bare_leaf (flat_map leaf_here (enumerate_from i (zip es ss))) ≡ flat_map leaf_here (enumerate_from i (zip es (map bare_site ss)))
leaves_of_bare i [] ss = refl
leaves_of_bare i (e ∷ es) [] = refl
leaves_of_bare i (e ∷ es) (s ∷ ss) =
    one_bare (is_leaf s.shape) (leaf_at i e s) (flat_map leaf_here (enumerate_from (i + 1) (zip es ss)))
    ∙ ap₂ (λ (b : Bool) (ls : List Leaf). (if b then bare_leaf (leaf_at i e s) ∷ [] else []) ++ ls) (leaf-bare s.shape) (leaves_of_bare (i + 1) es ss)

pub leaves_with_strides : (table : List TocEntry) (f : ℕ → ℕ) (ss : Members) → bares ss ≡ ss → map bare_leaf (leaves table (all_with_strides f 0 ss)) ≡ leaves table ss
leaves_with_strides table f ss plain =
    leaves_of_bare 0 table (sites (all_with_strides f 0 ss))
    ∙ ap (λ xs. flat_map leaf_here (enumerate_from 0 (zip table xs))) (sites_of_bares (all_with_strides f 0 ss) 0 0 [])
    ∙ ap (λ ts. leaves table ts) (bares-with_strides f 0 ss ∙ plain)

-- ---- static bytes

moved : {X : Type 0} (b : Bool) (h : X → X) (x : X) (xs : List X) → cond b (h x ∷ map h xs) (map h xs) ≡ map h (cond b (x ∷ xs) xs)
moved true h x xs = refl
moved false h x xs = refl

filter-map : {X : Type 0} (p : X → Bool) (h : X → X) → ((x : X) → p (h x) ≡ p x) → (xs : List X) → filter p (map h xs) ≡ map h (filter p xs)
filter-map p h e [] = refl
filter-map p h e (x ∷ xs) =
    ap₂ (λ b ys. cond b (h x ∷ ys) ys) (e x) (filter-map p h e xs) ∙ moved (p x) h x (filter p xs)

fold-map : {X A : Type 0} (F G : A → X → A) (h : X → X) → ((a : A) (x : X) → F a (h x) ≡ G a x) → (a : A) (xs : List X) → fold F a (map h xs) ≡ fold G a xs
fold-map F G h e a [] = refl
fold-map F G h e a (x ∷ xs) = fold-map F G h e (F a (h x)) xs ∙ ap (λ b. fold G b xs) (e a x)

place_of_bare : (ls : List Leaf) (l : Leaf) → default_place (map bare_leaf ls) (bare_leaf l) ≡ default_place ls l
place_of_bare ls l =
    ap (sum_by width) (filter-map (λ m. m.has_default && nat_lt m.entry l.entry) bare_leaf (λ m. refl) ls)
    ∙ fold-map
    (λ a m. a + width m)
    (λ a m. a + width m)
    bare_leaf
    (λ a m. ap (λ n. a + n) (bytes-bare m.shape))
    0
    (filter (λ m. m.has_default && nat_lt m.entry l.entry) ls)

static_of_bare : (p : Parts) (ls : List Leaf) → static_bytes p (map bare_leaf ls) ≡ static_bytes p ls
static_of_bare p ls =
    ap
    (fold
    (λ bytes l. put_at l.place (slice_range p.defaults (default_place (map bare_leaf ls) l) (default_end (map bare_leaf ls) l)) bytes)
    (replicate p.header.static_size 0))
    (filter-map
    (λ l. l.has_default && not (is_mutex l.shape))
    bare_leaf
    (λ l. ap (λ b. l.has_default && not b) (mutex-bare l.shape))
    ls)
    ∙ fold-map
    (λ bytes l. put_at l.place (slice_range p.defaults (default_place (map bare_leaf ls) l) (default_end (map bare_leaf ls) l)) bytes)
    (λ bytes l. put_at l.place (slice_range p.defaults (default_place ls l) (default_end ls l)) bytes)
    bare_leaf
    (λ bytes l.
    ap₂
    (λ (at n : ℕ). put_at l.place (slice_range p.defaults at (at + n)) bytes)
    (place_of_bare ls l)
    (bytes-bare l.shape))
    (replicate p.header.static_size 0)
    (set_leaves ls)

pub dataspace_with_strides : (p : Parts) (f : ℕ → ℕ) (ss : Members) → bares ss ≡ ss → dataspace p (all_with_strides f 0 ss) ≡ dataspace p ss
dataspace_with_strides p f ss plain =
    let same : static_bytes p (leaves p.toc (all_with_strides f 0 ss)) ≡ static_bytes p (leaves p.toc ss) =
    sym (static_of_bare p (leaves p.toc (all_with_strides f 0 ss))) ∙ ap (static_bytes p) (leaves_with_strides p.toc f ss plain) in
    ap
    (λ static. static ++ dynamic_bytes p ++ replicate (p.header.initial - (p.header.static_size + p.header.dyn_size)) 0)
    same

-- ---- length

put_grows : (at : ℕ) (bytes into : List ℕ) → length into ≤ length (put_at at bytes into)
put_grows at bytes into = simp (length-append, length-take, length-drop) (omega arith)

fold_grows : {X : Type 0} (F : List ℕ → X → List ℕ) → ((bytes : List ℕ) (x : X) → length bytes ≤ length (F bytes x)) → (bytes : List ℕ) (xs : List X) → length bytes ≤ length (fold F bytes xs)
fold_grows F h bytes [] = omega arith
fold_grows F h bytes (x ∷ xs) = omega (arith, h bytes x, fold_grows F h (F bytes x) xs)

within : (a b c : List ℕ) (n : ℕ) → n ≤ length a → n ≤ length (a ++ b ++ c)
within a b c n h = omega (arith, length-append (a ++ b) c, length-append a b)

pub static_within : (p : Parts) (ss : Members) → p.header.static_size ≤ length (dataspace p ss)
static_within p ss =
    let ls = leaves p.toc ss in
    let grown =
    fold_grows
    (λ bytes l. put_at l.place (slice_range p.defaults (default_place ls l) (default_end ls l)) bytes)
    (λ bytes l. put_grows l.place (slice_range p.defaults (default_place ls l) (default_end ls l)) bytes)
    (replicate p.header.static_size 0)
    (set_leaves ls)
    in
    let zeros = length-replicate p.header.static_size 0 in
    within
    (static_bytes p ls)
    (dynamic_bytes p)
    (replicate (p.header.initial - (p.header.static_size + p.header.dyn_size)) 0)
    p.header.static_size
    (subst (λ n. n ≤ length (static_bytes p ls)) zeros grown)
