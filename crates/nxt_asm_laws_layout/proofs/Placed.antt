-- Where the leaves of a table stand: each ends where it may, no two share a byte, and each has its default.
use Rattle.std.proofs.Common.{◌≡◌, ℕ, ◌+◌, ◌<◌, ◌≤◌, ◌⊎◌, inl, inr, true, List, [], ◌∷◌, drop, length, slice_index, if◌then◌else◌, refl, sym, ap, subst, ◌∙◌, arith, true≢false}
use Rattle.std.proofs.lemmas.Bool.Decides.{nat_tests}
use Rattle.nxt_types.specs.Shapes.{Shape, Void, Number, Array, Cluster, Mutex, Members, no_members, member, bare, leaf_bytes, leaves_bytes}
use Rattle.nxt_types.specs.Names.{size, sizes}
use Rattle.nxt_model.specs.Assembled.{leaf_sizes, leaves_sizes, places}
use Rattle.nxt_model.specs.Spans.{Span, IsApart, AreApart}
use Rattle.nxt_model.specs.Spans as spans
use Rattle.nxt_asm_parts.specs.Elements.{elements_in, elements_among}
use Rattle.nxt_table.specs.Leaves.{Leaf, end_of, width, is_outside, are_together}
use Rattle.nxt_facts.specs.Pairs.{EachPair}
use Rattle.nxt_facts.proofs.Each.{Each, each_apart, each_from, each_join, each_then}
use Rattle.nxt_facts.proofs.Pairs.{pair_join, pair_parts}
use Rattle.nxt_facts.proofs.Sums.{total, total-append}
use Rattle.nxt_asm_laws_layout.proofs.Spots.{spots, spots-append, spots_apart, spots_end}
use Rattle.nxt_asm_laws_layout.proofs.OwnLeaves.{leaf, own, all_own}

-- ---- the bytes of leaves

mutual
  pub sizes_total : (s : Shape) → total (λ (x : ℕ). x) (leaf_sizes s) ≡ leaf_bytes s
  sizes_total Void = refl
  sizes_total (Number k) = omega arith
  sizes_total (Array n s) = refl
  sizes_total (Cluster ss) = all_sizes_total ss
  sizes_total Mutex = refl

  pub all_sizes_total : (ss : Members) → total (λ (x : ℕ). x) (leaves_sizes ss) ≡ leaves_bytes ss
  all_sizes_total no_members = refl
  all_sizes_total (member s ss) =
      omega (arith, total-append (λ (x : ℕ). x) (leaf_sizes s) (leaves_sizes ss), sizes_total s, all_sizes_total ss)

-- ---- ends

-- where a leaf may end, by what encloses it
abbrev pub bound : ℕ → List ℕ → ℕ
bound static_size arrays = if is_outside arrays then static_size else 32768

module _ (static_size : ℕ) where
  abbrev pub EndsThere : Leaf → Type 0
  EndsThere l = end_of l ≤ bound static_size l.arrays

  mutual
    own_end : (s : Shape) (ps : List ℕ) (i : ℕ) (arrays : List ℕ) (m : ℕ) → m ≤ bound static_size arrays → Each (λ n. n ≤ 32768) (elements_in s)
        → Each (λ p. spans.end_of p ≤ m) (spots ps (leaf_sizes s)) → Each EndsThere (own s ps i arrays)
    own_end Void ps i arrays m within low ends = tt
    own_end (Number k) ps i arrays m within low ends = (omega (arith, ends.0, within), tt)
    own_end (Array n s) ps i arrays m within low ends = (
      omega (arith, ends.0, within),
      own_end s (places (leaf_sizes s)) (i + 1) (i ∷ arrays) (total (λ (x : ℕ). x) (leaf_sizes s)) (omega (arith, sizes_total s, low.0)) low.1 (spots_end (leaf_sizes s)),
    )
    own_end (Cluster ss) ps i arrays m within low ends = all_own_end ss ps (i + 1) arrays m within low ends
    own_end Mutex ps i arrays m within low ends = (omega (arith, ends.0, within), tt)

    pub all_own_end : (ss : Members) (ps : List ℕ) (i : ℕ) (arrays : List ℕ) (m : ℕ) → m ≤ bound static_size arrays → Each (λ n. n ≤ 32768) (elements_among ss)
        → Each (λ p. spans.end_of p ≤ m) (spots ps (leaves_sizes ss)) → Each EndsThere (all_own ss ps i arrays)
    all_own_end no_members ps i arrays m within low ends = tt
    all_own_end (member s ss) ps i arrays m within low ends =
        let rest = drop (length (leaf_sizes s)) ps in
        let parts = each_apart (λ n. n ≤ 32768) (elements_in s) (elements_among ss) low in
        let both = each_apart (λ p. spans.end_of p ≤ m) (spots ps (leaf_sizes s)) (spots rest (leaves_sizes ss))
        (subst (Each (λ p. spans.end_of p ≤ m)) (spots-append ps (leaf_sizes s) (leaves_sizes ss)) ends) in
        each_join EndsThere (own s ps i arrays) (all_own ss rest (i + size s) arrays)
        (own_end s ps i arrays m within parts.0 both.0) (all_own_end ss rest (i + size s) arrays m within parts.1 both.1)

-- ---- apart

abbrev pub span_of : Leaf → Span
span_of l = record { place = l.place; width = width l }

-- if both are outside, or in the element of one array, they share no byte
abbrev pub AreBeside : Leaf → Leaf → Type 0
AreBeside a b = are_together a.arrays b.arrays ≡ true → IsApart (span_of a) (span_of b)

-- a leaf with just these arrays around it, with a span of which something holds, or one in the element of an array from i on
abbrev pub Stands : (Span → Type 0) → ℕ → ℕ → List ℕ → Leaf → Type 0
Stands P i j arrays l =
    ((l.arrays ≡ arrays) × P (span_of l)) ⊎ ((a : ℕ) × (around : List ℕ) × (l.arrays ≡ a ∷ around) × (i ≤ a) × (a < j))

stands_more : (P : Span → Type 0) (i j n m : ℕ) (arrays : List ℕ) (l : Leaf) → n ≤ i → j ≤ m → Stands P i j arrays l → Stands P n m arrays l
stands_more P i j n m arrays l low high (inl h) = inl h
stands_more P i j n m arrays l low high (inr h) = inr (h.0, h.1, h.2, omega (arith, h.3, low), omega (arith, h.4, high))

-- what stands in the elements of an array stands in elements from it on
inner_stands : (P : Span → Type 0) (i n : ℕ) (arrays : List ℕ) (l : Leaf) → Stands (λ p. Unit {0}) (i + 1) (i + 1 + n) (i ∷ arrays) l → Stands P i (i + (n + 1)) arrays l
inner_stands P i n arrays l (inl h) = inr (i, arrays, h.0, omega arith, omega arith)
inner_stands P i n arrays l (inr h) = inr (h.0, h.1, h.2, omega (arith, h.3), omega (arith, h.4))

mutual
  pub own_stand : (P : Span → Type 0) (s : Shape) (ps : List ℕ) (i : ℕ) (arrays : List ℕ) → Each P (spots ps (leaf_sizes s)) → Each (Stands P i (i + size s) arrays) (own s ps i arrays)
  own_stand P Void ps i arrays h = tt
  own_stand P (Number k) ps i arrays h = (inl (refl, h.0), tt)
  own_stand P (Array n s) ps i arrays h = (
    inl (refl, h.0),
    each_then (Stands (λ p. Unit {0}) (i + 1) (i + 1 + size s) (i ∷ arrays)) (Stands P i (i + (size s + 1)) arrays)
        (inner_stands P i (size s) arrays)
        (own s (places (leaf_sizes s)) (i + 1) (i ∷ arrays))
        (own_stand (λ p. Unit {0}) s (places (leaf_sizes s)) (i + 1) (i ∷ arrays) (each_from (λ p. Unit {0}) (λ p. tt) (spots (places (leaf_sizes s)) (leaf_sizes s)))),
  )
  own_stand P (Cluster ss) ps i arrays h =
      each_then (Stands P (i + 1) (i + 1 + sizes ss) arrays) (Stands P i (i + (sizes ss + 1)) arrays)
      (λ l. stands_more P (i + 1) (i + 1 + sizes ss) i (i + (sizes ss + 1)) arrays l (omega arith) (omega arith))
      (all_own ss ps (i + 1) arrays) (all_own_stand P ss ps (i + 1) arrays h)
  own_stand P Mutex ps i arrays h = (inl (refl, h.0), tt)

  pub all_own_stand : (P : Span → Type 0) (ss : Members) (ps : List ℕ) (i : ℕ) (arrays : List ℕ) → Each P (spots ps (leaves_sizes ss))
      → Each (Stands P i (i + sizes ss) arrays) (all_own ss ps i arrays)
  all_own_stand P no_members ps i arrays h = tt
  all_own_stand P (member s ss) ps i arrays h =
      let rest = drop (length (leaf_sizes s)) ps in
      let first = own s ps i arrays in
      let later = all_own ss rest (i + size s) arrays in
      let both = each_apart P (spots ps (leaf_sizes s)) (spots rest (leaves_sizes ss)) (subst (Each P) (spots-append ps (leaf_sizes s) (leaves_sizes ss)) h) in
      each_join (Stands P i (i + (size s + sizes ss)) arrays) first later
      (each_then (Stands P i (i + size s) arrays) (Stands P i (i + (size s + sizes ss)) arrays)
      (λ l. stands_more P i (i + size s) i (i + (size s + sizes ss)) arrays l (omega arith) (omega arith))
      first (own_stand P s ps i arrays both.0))
      (each_then (Stands P (i + size s) (i + size s + sizes ss) arrays) (Stands P i (i + (size s + sizes ss)) arrays)
      (λ l. stands_more P (i + size s) (i + size s + sizes ss) i (i + (size s + sizes ss)) arrays l (omega arith) (omega arith))
      later (all_own_stand P ss rest (i + size s) arrays both.1))

-- the next array around stands before entry i
abbrev pub Before : ℕ → List ℕ → Type 0
Before i [] = Unit {0}
Before i (a ∷ around) = a < i

pub before_more : (i j : ℕ) (arrays : List ℕ) → i ≤ j → Before i arrays → Before j arrays
before_more i j [] le h = tt
before_more i j (a ∷ around) le h = omega (arith, le, h)

-- two arrays' elements are not one
other_element : (a b : ℕ) (xs ys : List ℕ) → a < b → are_together (a ∷ xs) (b ∷ ys) ≡ true → ⊥
other_element a b xs ys less e = let f : ⊥ = grind (arith, nat_tests) in f

outer_inner : (arrays : List ℕ) (i b : ℕ) (ys : List ℕ) → Before i arrays → i ≤ b → are_together arrays (b ∷ ys) ≡ true → ⊥
outer_inner [] i b ys before le e = true≢false (sym e)
outer_inner (a ∷ xs) i b ys before le e = other_element a b xs ys (omega (arith, before, le)) e

inner_outer : (arrays : List ℕ) (i b : ℕ) (ys : List ℕ) → Before i arrays → i ≤ b → are_together (b ∷ ys) arrays ≡ true → ⊥
inner_outer [] i b ys before le e = true≢false (sym e)
inner_outer (a ∷ xs) i b ys before le e = let less : a < b = omega (arith, before, le) in let f : ⊥ = grind (arith, nat_tests) in f

-- a leaf of its own, and one further behind
own_two : (i j k : ℕ) (arrays : List ℕ) (a b : Leaf) → Before i arrays → i ≤ j → a.arrays ≡ arrays → Stands (IsApart (span_of a)) j k arrays b → AreBeside a b
own_two i j k arrays a b before le same (inl h) together = h.1
own_two i j k arrays a b before le same (inr h) together =
    absurd (outer_inner arrays i h.0 h.1 before (omega (arith, le, h.3)) (sym (ap (λ xs. are_together xs b.arrays) same ∙ ap (are_together arrays) h.2) ∙ together))

-- and one in an array's element
inner_two : (i j k n : ℕ) (arrays around : List ℕ) (a b : Leaf) → Before i arrays → a.arrays ≡ n ∷ around → i ≤ n → n < j → Stands (λ p. Unit {0}) j k arrays b → AreBeside a b
inner_two i j k n arrays around a b before same low high (inl h) together =
    absurd (inner_outer arrays i n around before low (sym (ap (λ xs. are_together xs b.arrays) same ∙ ap (are_together (n ∷ around)) h.0) ∙ together))
inner_two i j k n arrays around a b before same low high (inr h) together =
    absurd (other_element n h.0 around h.1 (omega (arith, high, h.3)) (sym (ap (λ xs. are_together xs b.arrays) same ∙ ap (are_together (n ∷ around)) h.2) ∙ together))

pub plain : (ps ns : List ℕ) → Each (λ p. Unit {0}) (spots ps ns)
plain ps ns = each_from (λ p. Unit {0}) (λ p. tt) (spots ps ns)

-- a leaf of a shape, and those of the members behind it
across : (ss : Members) (rest : List ℕ) (i j : ℕ) (arrays : List ℕ) → Before i arrays → i ≤ j → (a : Leaf)
    → Stands (λ p. Each (IsApart p) (spots rest (leaves_sizes ss))) i j arrays a → Each (AreBeside a) (all_own ss rest j arrays)
across ss rest i j arrays before le a (inl h) =
    each_then (Stands (IsApart (span_of a)) j (j + sizes ss) arrays) (AreBeside a)
    (λ b w. own_two i j (j + sizes ss) arrays a b before le h.0 w)
    (all_own ss rest j arrays) (all_own_stand (IsApart (span_of a)) ss rest j arrays h.1)
across ss rest i j arrays before le a (inr h) =
    each_then (Stands (λ p. Unit {0}) j (j + sizes ss) arrays) (AreBeside a)
    (λ b w. inner_two i j (j + sizes ss) h.0 arrays h.1 a b before h.2 h.3 h.4 w)
    (all_own ss rest j arrays) (all_own_stand (λ p. Unit {0}) ss rest j arrays (plain rest (leaves_sizes ss)))

mutual
  own_beside : (s : Shape) (ps : List ℕ) (i : ℕ) (arrays : List ℕ) → Before i arrays → AreApart (spots ps (leaf_sizes s)) → EachPair AreBeside (own s ps i arrays)
  own_beside Void ps i arrays before apart = tt
  own_beside (Number k) ps i arrays before apart = (tt, tt)
  own_beside (Array n s) ps i arrays before apart =
      let inside = places (leaf_sizes s) in
      let first = leaf (Array 0 (bare s)) (slice_index ps 0) i arrays in (
        each_then (Stands (λ p. Unit {0}) (i + 1) (i + 1 + size s) (i ∷ arrays)) (AreBeside first)
            (λ b h. one i (i + 1 + size s) arrays first b before refl h)
            (own s inside (i + 1) (i ∷ arrays)) (own_stand (λ p. Unit {0}) s inside (i + 1) (i ∷ arrays) (plain inside (leaf_sizes s))),
        own_beside s inside (i + 1) (i ∷ arrays) (omega arith) (spots_apart (leaf_sizes s)),
      )
    where
      one : (i k : ℕ) (arrays : List ℕ) (a b : Leaf) → Before i arrays → a.arrays ≡ arrays → Stands (λ p. Unit {0}) (i + 1) k (i ∷ arrays) b → AreBeside a b
      one i k arrays a b before same (inl h) together =
          absurd (outer_inner arrays i i arrays before (omega arith) (sym (ap (λ xs. are_together xs b.arrays) same ∙ ap (are_together arrays) h.0) ∙ together))
      one i k arrays a b before same (inr h) together =
          absurd (outer_inner arrays i h.0 h.1 before (omega (arith, h.3)) (sym (ap (λ xs. are_together xs b.arrays) same ∙ ap (are_together arrays) h.2) ∙ together))
  own_beside (Cluster ss) ps i arrays before apart = all_own_beside ss ps (i + 1) arrays (before_more i (i + 1) arrays (omega arith) before) apart
  own_beside Mutex ps i arrays before apart = (tt, tt)

  -- no two leaves share a byte
  pub all_own_beside : (ss : Members) (ps : List ℕ) (i : ℕ) (arrays : List ℕ) → Before i arrays → AreApart (spots ps (leaves_sizes ss)) → EachPair AreBeside (all_own ss ps i arrays)
  all_own_beside no_members ps i arrays before apart = tt
  all_own_beside (member s ss) ps i arrays before apart =
      let rest = drop (length (leaf_sizes s)) ps in
      let j = i + size s in
      let first = own s ps i arrays in
      let later = all_own ss rest j arrays in
      let here = spots ps (leaf_sizes s) in
      let behind = spots rest (leaves_sizes ss) in
      let parts = pair_parts IsApart here behind (subst AreApart (spots-append ps (leaf_sizes s) (leaves_sizes ss)) apart) in
      let le : i ≤ j = omega arith in
      pair_join AreBeside first later
      (own_beside s ps i arrays before parts.first)
      (all_own_beside ss rest j arrays (before_more i j arrays le before) parts.rest)
      (each_then (Stands (λ p. Each (IsApart p) behind) i j arrays) (λ a. Each (AreBeside a) later)
      (across ss rest i j arrays before le) first (own_stand (λ p. Each (IsApart p) behind) s ps i arrays parts.across))
