-- The extent of an array's element is the sum of its leaves' bytes.
use Rattle.std.proofs.Common.{◌≡◌, ◌≢◌, ℕ, ◌+◌, ◌<◌, ◌≤◌, ◌⊎◌, inl, inr, Bool, true, false, cond, List, [], ◌∷◌, ◌++◌, drop, fold, length, max, slice_index, if◌then◌else◌, refl, sym, ap, ap₂, ◌∙◌, arith, eq-eqb, ne_eqb}
use Rattle.std.specs.Prelude.{⊤}
use Rattle.nxt_types.specs.Arithmetic.{leaf_size}
use Rattle.nxt_types.specs.Shapes.{Shape, Void, Number, Array, Cluster, Mutex, Members, no_members, member, bare, leaf_bytes}
use Rattle.nxt_types.specs.Names.{size, sizes}
use Rattle.nxt_types.specs.declared.kind.Kind.{Kind}
use Rattle.nxt_types.specs.declared.kind.Kind.TheVariants.{Ubyte, Sbyte, Uword, Sword, Ulong, Slong}
use Rattle.nxt_model.specs.Assembled.{leaf_sizes, leaves_sizes, places}
use Rattle.nxt_table.specs.Leaves.{Leaf, end_of, extent, stands_in}
use Rattle.nxt_facts.proofs.Each.{Each, each_join, each_then}
use Rattle.nxt_asm_laws_layout.proofs.Spots.{spots, spots-append}
use Rattle.nxt_asm_laws_layout.proofs.OwnLeaves.{leaf, own, all_own}
use Rattle.nxt_asm_laws_layout.proofs.Placed.{Before, Stands, all_own_stand, before_more, own_stand, plain, sizes_total}
use Rattle.nxt_asm_laws_layout.proofs.Reaches.{top, top-append, top_is}

-- ---- how far leaves reach

abbrev reach : ℕ → Leaf → ℕ
reach a l = cond (stands_in a l.arrays) (end_of l) 0

-- the leaves in the element of array a
abbrev pub far : ℕ → List Leaf → ℕ
far a [] = 0
far a (l ∷ ls) = max (reach a l) (far a ls)

farther : (a most : ℕ) (ls : List Leaf) → fold (λ most l. if stands_in a l.arrays then max most (end_of l) else most) most ls ≡ max most (far a ls)
farther a most [] = omega arith
farther a most (l ∷ ls) = farther a (if stands_in a l.arrays then max most (end_of l) else most) ls ∙ by (stands_in a l.arrays)
  where
    by : (b : Bool) → max (if b then max most (end_of l) else most) (far a ls) ≡ max most (max (cond b (end_of l) 0) (far a ls))
    by true = omega arith
    by false = omega arith

pub extent_is : (ls : List Leaf) (a : ℕ) → extent ls a ≡ far a ls
extent_is ls a = let none : max 0 (far a ls) ≡ far a ls = omega arith in farther a 0 ls ∙ none

far-append : (a : ℕ) (xs ys : List Leaf) → far a (xs ++ ys) ≡ max (far a xs) (far a ys)
far-append a [] ys = omega arith
far-append a (x ∷ xs) ys = omega (arith, far-append a xs ys)

none_far : (a : ℕ) (ls : List Leaf) → Each (λ l. stands_in a l.arrays ≡ false) ls → far a ls ≡ 0
none_far a [] h = refl
none_far a (l ∷ ls) h = ap₂ (λ (m n : ℕ). max m n) (ap (λ b. cond b (end_of l) 0) h.0) (none_far a ls h.1) ∙ zeros
  where
    zeros : max 0 0 ≡ 0
    zeros = omega arith

-- ---- leaves of other arrays

abbrev IsOther : ℕ → List ℕ → Type 0
IsOther a arrays = stands_in a arrays ≡ false

before_other : (i a : ℕ) (arrays : List ℕ) → Before i arrays → i ≤ a → IsOther a arrays
before_other i a [] h le = refl
before_other i a (b ∷ around) h le = ne_eqb a b (λ e. omega (arith, e, h, le))

stands_other : (a i j : ℕ) (arrays : List ℕ) (l : Leaf) → IsOther a arrays → (a < i) ⊎ (j ≤ a) → Stands (λ p. Unit {0}) i j arrays l → stands_in a l.arrays ≡ false
stands_other a i j arrays l other out (inl h) = ap (stands_in a) h.0 ∙ other
stands_other a i j arrays l other (inl low) (inr h) = ap (stands_in a) h.2 ∙ ne_eqb a h.0 (λ e. omega (arith, e, low, h.3))
stands_other a i j arrays l other (inr high) (inr h) = ap (stands_in a) h.2 ∙ ne_eqb a h.0 (λ e. omega (arith, e, high, h.4))

pub own_other : (a : ℕ) (s : Shape) (ps : List ℕ) (i : ℕ) (arrays : List ℕ) → IsOther a arrays → (a < i) ⊎ (i + size s ≤ a) → far a (own s ps i arrays) ≡ 0
own_other a s ps i arrays other out =
    none_far a (own s ps i arrays)
    (each_then (Stands (λ p. Unit {0}) i (i + size s) arrays) (λ l. stands_in a l.arrays ≡ false) (λ l h. stands_other a i (i + size s) arrays l other out h)
    (own s ps i arrays) (own_stand (λ p. Unit {0}) s ps i arrays (plain ps (leaf_sizes s))))

pub all_other : (a : ℕ) (ss : Members) (ps : List ℕ) (i : ℕ) (arrays : List ℕ) → IsOther a arrays → (a < i) ⊎ (i + sizes ss ≤ a) → far a (all_own ss ps i arrays) ≡ 0
all_other a ss ps i arrays other out =
    none_far a (all_own ss ps i arrays)
    (each_then (Stands (λ p. Unit {0}) i (i + sizes ss) arrays) (λ l. stands_in a l.arrays ≡ false) (λ l h. stands_other a i (i + sizes ss) arrays l other out h)
    (all_own ss ps i arrays) (all_own_stand (λ p. Unit {0}) ss ps i arrays (plain ps (leaves_sizes ss))))

-- ---- the leaves of one element

own_reach : (a end : ℕ) (around : List ℕ) → cond (stands_in a (a ∷ around)) end 0 ≡ end
own_reach a end around = ap (λ b. cond b end 0) (eq-eqb a a refl)

mutual
  far_top : (s : Shape) (ps : List ℕ) (j a : ℕ) (around : List ℕ) → a < j → far a (own s ps j (a ∷ around)) ≡ top (spots ps (leaf_sizes s))
  far_top Void ps j a around less = refl
  far_top (Number k) ps j a around less = ap (λ n. max n 0) (own_reach a (slice_index ps 0 + leaf_size k) around)
  far_top (Array n s) ps j a around less =
      let here : a ≢ j = λ e. omega (arith, e, less) in
      ap₂ (λ (m n : ℕ). max m n) (own_reach a (slice_index ps 0 + 2) around)
      (own_other a s (places (leaf_sizes s)) (j + 1) (j ∷ a ∷ around) (ne_eqb a j here) (inl (omega (arith, less))))
  far_top (Cluster ss) ps j a around less = all_far_top ss ps (j + 1) a around (omega (arith, less))
  far_top Mutex ps j a around less = ap (λ n. max n 0) (own_reach a (slice_index ps 0 + 4) around)

  all_far_top : (ss : Members) (ps : List ℕ) (j a : ℕ) (around : List ℕ) → a < j → far a (all_own ss ps j (a ∷ around)) ≡ top (spots ps (leaves_sizes ss))
  all_far_top no_members ps j a around less = refl
  all_far_top (member s ss) ps j a around less =
      let rest = drop (length (leaf_sizes s)) ps in
      far-append a (own s ps j (a ∷ around)) (all_own ss rest (j + size s) (a ∷ around))
      ∙ ap₂ (λ (m n : ℕ). max m n) (far_top s ps j a around less) (all_far_top ss rest (j + size s) a around (omega (arith, less)))
      ∙ sym (top-append (spots ps (leaf_sizes s)) (spots rest (leaves_sizes ss)))
      ∙ ap top (sym (spots-append ps (leaf_sizes s) (leaves_sizes ss)))

-- ---- sizes of leaves

some_bytes : (k : Kind) → 1 ≤ leaf_size k
some_bytes Ubyte = omega arith
some_bytes Sbyte = omega arith
some_bytes Uword = omega arith
some_bytes Sword = omega arith
some_bytes Ulong = omega arith
some_bytes Slong = omega arith

mutual
  some_size : (s : Shape) → Each (λ n. 1 ≤ n) (leaf_sizes s)
  some_size Void = tt
  some_size (Number k) = (some_bytes k, tt)
  some_size (Array n s) = (omega arith, tt)
  some_size (Cluster ss) = some_sizes ss
  some_size Mutex = (omega arith, tt)

  some_sizes : (ss : Members) → Each (λ n. 1 ≤ n) (leaves_sizes ss)
  some_sizes no_members = tt
  some_sizes (member s ss) = each_join (λ n. 1 ≤ n) (leaf_sizes s) (leaves_sizes ss) (some_size s) (some_sizes ss)

-- ---- all arrays

-- f gives the bytes of each array's element, by the array's entry
abbrev mutual
  pub Extents : (ℕ → ℕ) → Shape → ℕ → Type 0
  Extents f Void i = ⊤
  Extents f (Number k) i = ⊤
  Extents f (Array n s) i = (f i ≡ leaf_bytes s) × Extents f s (i + 1)
  Extents f (Cluster ss) i = AllExtents f ss (i + 1)
  Extents f Mutex i = ⊤

  pub AllExtents : (ℕ → ℕ) → Members → ℕ → Type 0
  AllExtents f no_members i = ⊤
  AllExtents f (member s ss) i = Extents f s i × AllExtents f ss (i + size s)

first_none : (m n : ℕ) → m ≡ 0 → max m n ≡ n
first_none m n e = omega (arith, e)

second_none : (m n : ℕ) → n ≡ 0 → max m n ≡ m
second_none m n e = omega (arith, e)

mutual
  extents_are : (f : ℕ → ℕ) (s : Shape) (ps : List ℕ) (i : ℕ) (arrays : List ℕ) → ((e : ℕ) → i ≤ e → e < i + size s → f e ≡ far e (own s ps i arrays)) → Before i arrays → Extents f s i
  extents_are f Void ps i arrays h before = tt
  extents_are f (Number k) ps i arrays h before = tt
  extents_are f (Array n s) ps i arrays h before =
      let inside = places (leaf_sizes s) in
      let first : Leaf = leaf (Array 0 (bare s)) (slice_index ps 0) i arrays in
      let rest : (e : ℕ) → i ≤ e → far e (own (Array n s) ps i arrays) ≡ far e (own s inside (i + 1) (i ∷ arrays)) =
      λ e le. first_none (reach e first) (far e (own s inside (i + 1) (i ∷ arrays))) (ap (λ b. cond b (end_of first) 0) (before_other i e arrays before le)) in (
        h i (omega arith) (omega arith) ∙ rest i (omega arith) ∙ far_top s inside (i + 1) i arrays (omega arith) ∙ top_is (leaf_sizes s) (some_size s) ∙ sizes_total s,
        extents_are f s inside (i + 1) (i ∷ arrays) (λ e low high. h e (omega (arith, low)) (omega (arith, high)) ∙ rest e (omega (arith, low))) (omega arith),
      )
  extents_are f (Cluster ss) ps i arrays h before =
      all_extents_are f ss ps (i + 1) arrays (λ e low high. h e (omega (arith, low)) (omega (arith, high))) (before_more i (i + 1) arrays (omega arith) before)
  extents_are f Mutex ps i arrays h before = tt

  pub all_extents_are : (f : ℕ → ℕ) (ss : Members) (ps : List ℕ) (i : ℕ) (arrays : List ℕ) → ((e : ℕ) → i ≤ e → e < i + sizes ss → f e ≡ far e (all_own ss ps i arrays)) → Before i arrays
      → AllExtents f ss i
  all_extents_are f no_members ps i arrays h before = tt
  all_extents_are f (member s ss) ps i arrays h before =
      let rest = drop (length (leaf_sizes s)) ps in
      let first = own s ps i arrays in
      let later = all_own ss rest (i + size s) arrays in (
        extents_are f s ps i arrays
            (λ e low high. h e low (omega (arith, high)) ∙ far-append e first later
            ∙ second_none (far e first) (far e later) (all_other e ss rest (i + size s) arrays (before_other i e arrays before low) (inl high))) before,
        all_extents_are f ss rest (i + size s) arrays
            (λ e low high. h e (omega (arith, low)) (omega (arith, high)) ∙ far-append e first later
            ∙ first_none (far e first) (far e later) (own_other e s ps i arrays (before_other i e arrays before (omega (arith, low))) (inr low)))
            (before_more i (i + size s) arrays (omega arith) before),
      )
