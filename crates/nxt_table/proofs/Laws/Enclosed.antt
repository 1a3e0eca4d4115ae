-- The marks of a table are those of its sites.
use Rattle.std.proofs.Common.{◌≡◌, ℕ, suc, ◌+◌, ◌-◌, ◌<◌, ◌≤◌, List, [], ◌∷◌, ◌++◌, refl, sym, ap, ◌∙◌, length, arith, append_assoc, append-nil, true, false, Option, Some, None}
use Rattle.std.proofs.lemmas.Bool.{and_parts}
use Rattle.std.proofs.lemmas.List.{map-append}
use Rattle.std.proofs.lemmas.Bool.Decides.{nat_tests}
use Rattle.std.specs.Prelude.{map, max, nat_lt, IsTrue}
use Rattle.nxt_types.specs.declared.shape.TocEntry.{TocEntry}
use Rattle.nxt_types.specs.Shapes.{Shape, Void, Number, Array, Cluster, Mutex, Members, no_members, member, count, code_of, outline, spelling, spellings, is_filled, are_filled}
use Rattle.nxt_types.specs.Names.{size, sizes}
use Rattle.nxt_table.specs.declared.item.Item.{Item}
use Rattle.nxt_table.specs.declared.item.Item.TheVariants as items
use Rattle.nxt_table.specs.declared.enclosing.Frame.{Frame}
use Rattle.nxt_table.specs.Inside.Items.{item, needs_behind}
use Rattle.nxt_table.specs.Leaves.{Site, sites, sites_in, sites_among, AreShapes}
use Rattle.nxt_table.specs.Inside.Enclosing.{Mark, around, still_open, opened, mark, marks_from, marks}
use Rattle.nxt_table.proofs.Entries.Spelled.{number_item}

abbrev pub next_of : List ℕ → Option ℕ
next_of [] = None
next_of (a ∷ more) = Some a

-- what encloses a site
abbrev pub mark_of : Site → Mark
mark_of s = record { depth = s.depth; array = next_of s.arrays }

-- these frames are open where a variable needs more than n shapes
abbrev IsOver : ℕ → List Frame → Type 0
IsOver n [] = Unit {0}
IsOver n (f ∷ fs) = f.floor ≤ n

keeps : (n m : ℕ) (fs : List Frame) → IsOver n fs → n < m → still_open m fs ≡ fs
keeps n m [] h lt = refl
keeps n m (f ∷ fs) h lt = let t : nat_lt f.floor m ≡ true = grind (arith, nat_tests) in rw t refl

over_more : (n m : ℕ) (fs : List Frame) → IsOver n fs → n ≤ m → IsOver m fs
over_more n m [] h le = tt
over_more n m (f ∷ fs) h le = omega (arith, h, le)

ends : (n : ℕ) (a : Option ℕ) (fs : List Frame) → still_open n (record { floor = n; array = a } ∷ fs) ≡ still_open n fs
ends n a fs = let t : nat_lt n n ≡ false = grind (arith, nat_tests) in rw t refl

-- an entry, after which the variable needs m shapes with these frames
entry : (n m i : ℕ) (fs gs : List Frame) (o : ℕ × ℕ) (x : Option Item) (os : List (ℕ × ℕ)) → item o ≡ x → needs_behind n x ≡ m → still_open m (opened n fs i x) ≡ gs →
    marks_from n fs i (o ∷ os) ≡ mark fs ∷ marks_from m gs (i + 1) os
entry n m i fs gs o x os e f g =
    ap (λ y. mark fs ∷ marks_from (needs_behind n y) (still_open (needs_behind n y) (opened n fs i y)) (i + 1) os) e
    ∙ ap (λ k. mark fs ∷ marks_from k (still_open k (opened n fs i x)) (i + 1) os) f
    ∙ ap (λ l. mark fs ∷ marks_from m l (i + 1) os) g

at_place : (n i j : ℕ) (fs : List Frame) (os : List (ℕ × ℕ)) → i ≡ j → marks_from n fs i os ≡ marks_from n fs j os
at_place n i j fs os e = ap (λ k. marks_from n fs k os) e

-- the same mark
site_mark : (fs : List Frame) (arrays : List ℕ) → around fs ≡ next_of arrays → mark fs ≡ record { depth = length fs; array = next_of arrays }
site_mark fs arrays e = ap (λ a. record { depth = length fs; array = a }) e

mutual
  -- the entries of a shape, before which n shapes are needed, and behind it k
  marks_of : (s : Shape) (n k i : ℕ) (fs : List Frame) (arrays : List ℕ) (os : List (ℕ × ℕ)) → max n 1 ≡ suc k → IsTrue (is_filled s) →
      IsOver k fs → around fs ≡ next_of arrays →
      marks_from n fs i (spelling s ++ os) ≡ map mark_of (sites_in s i (length fs) arrays) ++ marks_from k (still_open k fs) (i + size s) os
  marks_of Void n k i fs arrays os h f over a =
      let less : n - 1 ≡ k = omega (arith, h) in
      entry n k i fs (still_open k fs) (0, 0) (Some items.Void) os refl less refl ∙ ap (λ m. m ∷ marks_from k (still_open k fs) (i + 1) os) (site_mark fs arrays a)
  marks_of (Number kind) n k i fs arrays os h f over a =
      let less : n - 1 ≡ k = omega (arith, h) in
      entry n k i fs (still_open k fs) (code_of kind, 0) (Some (items.Number kind)) os (number_item kind) less refl ∙ ap (λ m. m ∷ marks_from k (still_open k fs) (i + 1) os) (site_mark fs arrays a)
  marks_of Mutex n k i fs arrays os h f over a =
      let less : n - 1 ≡ k = omega (arith, h) in
      entry n k i fs (still_open k fs) (9, 0) (Some items.Mutex) os refl less refl ∙ ap (λ m. m ∷ marks_from k (still_open k fs) (i + 1) os) (site_mark fs arrays a)
  marks_of (Array stride s) n k i fs arrays os h f over a =
      let less : n - 1 ≡ k = omega (arith, h) in
      let frame : Frame = record { floor = k; array = Some i } in
      let now : still_open (suc k) (record { floor = n - 1; array = Some i } ∷ fs) ≡ frame ∷ fs =
      ap (λ b. still_open (suc k) (record { floor = b; array = Some i } ∷ fs)) less ∙ keeps k (suc k) (frame ∷ fs) (omega arith) (omega arith) in
      let one : max (suc k) 1 ≡ suc k = omega arith in
      let deeper : length (frame ∷ fs) ≡ length fs + 1 = omega arith in
      entry n (suc k) i fs (frame ∷ fs) (7, 0) (Some items.Array) (spelling s ++ os) refl h now
      ∙ ap (λ l. mark fs ∷ l) (marks_of s (suc k) k (i + 1) (frame ∷ fs) (i ∷ arrays) os one f (omega arith) refl)
      ∙ ap (λ d. mark fs ∷ (map mark_of (sites_in s (i + 1) d (i ∷ arrays)) ++ marks_from k (still_open k (frame ∷ fs)) (i + 1 + size s) os)) deeper
      ∙ ap (λ l. mark fs ∷ (map mark_of (sites_in s (i + 1) (length fs + 1) (i ∷ arrays)) ++ l))
      (ap (λ l. marks_from k l (i + 1 + size s) os) (ends k (Some i) fs) ∙ at_place k (i + 1 + size s) (i + (size s + 1)) (still_open k fs) os (omega arith))
      ∙ ap (λ m. m ∷ (map mark_of (sites_in s (i + 1) (length fs + 1) (i ∷ arrays)) ++ marks_from k (still_open k fs) (i + (size s + 1)) os)) (site_mark fs arrays a)
  marks_of (Cluster ss) n k i fs arrays os h f over a =
      let g = and_parts (nat_lt 0 (count ss)) (are_filled ss) f in
      let less : n - 1 ≡ k = omega (arith, h) in
      let frame : Frame = record { floor = k; array = around fs } in
      let pos : 0 < count ss = grind (arith, nat_tests, g.0) in
      let more : n - 1 + count ss ≡ k + count ss = omega (arith, less) in
      let now : still_open (k + count ss) (record { floor = n - 1; array = around fs } ∷ fs) ≡ frame ∷ fs =
      ap (λ b. still_open (k + count ss) (record { floor = b; array = around fs } ∷ fs)) less ∙ keeps k (k + count ss) (frame ∷ fs) (omega arith) (omega arith) in
      let deeper : length (frame ∷ fs) ≡ length fs + 1 = omega arith in
      entry n (k + count ss) i fs (frame ∷ fs) (8, count ss) (Some (items.Cluster (count ss))) (spellings ss ++ os) refl more now
      ∙ ap (λ l. mark fs ∷ l) (marks_among ss k (i + 1) (frame ∷ fs) arrays os pos g.1 (omega arith) a)
      ∙ ap (λ d. mark fs ∷ (map mark_of (sites_among ss (i + 1) d arrays) ++ marks_from k (still_open k (frame ∷ fs)) (i + 1 + sizes ss) os)) deeper
      ∙ ap (λ l. mark fs ∷ (map mark_of (sites_among ss (i + 1) (length fs + 1) arrays) ++ l))
      (ap (λ l. marks_from k l (i + 1 + sizes ss) os) (ends k (around fs) fs) ∙ at_place k (i + 1 + sizes ss) (i + (sizes ss + 1)) (still_open k fs) os (omega arith))
      ∙ ap (λ m. m ∷ (map mark_of (sites_among ss (i + 1) (length fs + 1) arrays) ++ marks_from k (still_open k fs) (i + (sizes ss + 1)) os)) (site_mark fs arrays a)

  -- those of members, the first of which is there
  marks_among : (ss : Members) (k i : ℕ) (fs : List Frame) (arrays : List ℕ) (os : List (ℕ × ℕ)) → 0 < count ss → IsTrue (are_filled ss) →
      IsOver k fs → around fs ≡ next_of arrays →
      marks_from (k + count ss) fs i (spellings ss ++ os) ≡ map mark_of (sites_among ss i (length fs) arrays) ++ marks_from k (still_open k fs) (i + sizes ss) os
  marks_among no_members k i fs arrays os pos f over a = absurd (omega (arith, pos))
  marks_among (member s no_members) k i fs arrays os pos f over a =
      let g = and_parts (is_filled s) true f in
      let one : max (k + 1) 1 ≡ suc k = omega arith in
      let here : i + size s ≡ i + (size s + 0) = omega arith in
      ap (λ l. marks_from (k + 1) fs i (l ++ os)) (append-nil (spelling s))
      ∙ marks_of s (k + 1) k i fs arrays os one g.0 over a
      ∙ ap (λ l. map mark_of l ++ marks_from k (still_open k fs) (i + size s) os) (sym (append-nil (sites_in s i (length fs) arrays)))
      ∙ ap (λ j. map mark_of (sites_in s i (length fs) arrays ++ []) ++ marks_from k (still_open k fs) j os) here
  marks_among (member s (member t ts)) k i fs arrays os pos f over a =
      let g = and_parts (is_filled s) (are_filled (member t ts)) f in
      let one : max (k + count (member s (member t ts))) 1 ≡ suc (k + count (member t ts)) = omega arith in
      let here : i + size s + sizes (member t ts) ≡ i + sizes (member s (member t ts)) = omega arith in
      let first : List Mark = map mark_of (sites_in s i (length fs) arrays) in
      let more : List Mark = map mark_of (sites_among (member t ts) (i + size s) (length fs) arrays) in
      ap (marks_from (k + count (member s (member t ts))) fs i) (append_assoc (spelling s) (spellings (member t ts)) os)
      ∙ marks_of s (k + count (member s (member t ts))) (k + count (member t ts)) i fs arrays (spellings (member t ts) ++ os) one g.0 (over_more k (k + count (member t ts)) fs over (omega arith)) a
      ∙ ap (λ l. first ++ marks_from (k + count (member t ts)) l (i + size s) (spellings (member t ts) ++ os)) (keeps k (k + count (member t ts)) fs over (omega arith))
      ∙ ap (λ l. first ++ l) (marks_among (member t ts) k (i + size s) fs arrays os (omega arith) g.1 over a)
      ∙ sym (append_assoc first more (marks_from k (still_open k fs) (i + size s + sizes (member t ts)) os))
      ∙ ap (λ l. l ++ marks_from k (still_open k fs) (i + size s + sizes (member t ts)) os) (sym (map-append mark_of (sites_in s i (length fs) arrays) (sites_among (member t ts) (i + size s) (length fs) arrays)))
      ∙ ap (λ j. map mark_of (sites_among (member s (member t ts)) i (length fs) arrays) ++ marks_from k (still_open k fs) j os) here

marks_of_variables : (ss : Members) (i : ℕ) → IsTrue (are_filled ss) → marks_from 0 [] i (spellings ss) ≡ map mark_of (sites_among ss i 0 [])
marks_of_variables no_members i f = refl
marks_of_variables (member s ss) i f =
    let g = and_parts (is_filled s) (are_filled ss) f in
    marks_of s 0 0 i [] [] (spellings ss) refl g.0 tt refl
    ∙ ap (λ l. map mark_of (sites_in s i 0 []) ++ l) (marks_of_variables ss (i + size s) g.1)
    ∙ sym (map-append mark_of (sites_in s i 0 []) (sites_among ss (i + size s) 0 []))

pub table_marks : (table : List TocEntry) (ss : Members) → AreShapes table ss → marks table ≡ map mark_of (sites ss)
table_marks table ss h = ap (marks_from 0 [] 0) h.spelled.entries ∙ marks_of_variables ss 0 h.spelled.filled

-- ---- entries and sites

-- the outline of a shape's first entry
abbrev pub shape_head : Shape → ℕ × ℕ
shape_head Void = (0, 0)
shape_head (Number k) = (code_of k, 0)
shape_head (Array n s) = (7, 0)
shape_head (Cluster ss) = (8, count ss)
shape_head Mutex = (9, 0)

abbrev pub site_head : Site → ℕ × ℕ
site_head s = shape_head s.shape

mutual
  heads_in : (s : Shape) (i d : ℕ) (arrays : List ℕ) → map site_head (sites_in s i d arrays) ≡ spelling s
  heads_in Void i d arrays = refl
  heads_in (Number k) i d arrays = refl
  heads_in (Array n s) i d arrays = ap (λ l. (7, 0) ∷ l) (heads_in s (i + 1) (d + 1) (i ∷ arrays))
  heads_in (Cluster ss) i d arrays = ap (λ l. (8, count ss) ∷ l) (heads_among ss (i + 1) (d + 1) arrays)
  heads_in Mutex i d arrays = refl

  heads_among : (ss : Members) (i d : ℕ) (arrays : List ℕ) → map site_head (sites_among ss i d arrays) ≡ spellings ss
  heads_among no_members i d arrays = refl
  heads_among (member s ss) i d arrays =
      map-append site_head (sites_in s i d arrays) (sites_among ss (i + size s) d arrays)
      ∙ ap (λ l. l ++ map site_head (sites_among ss (i + size s) d arrays)) (heads_in s i d arrays)
      ∙ ap (λ l. spelling s ++ l) (heads_among ss (i + size s) d arrays)

pub table_heads : (table : List TocEntry) (ss : Members) → AreShapes table ss → map outline table ≡ map site_head (sites ss)
table_heads table ss h = h.spelled.entries ∙ sym (heads_among ss 0 0 [])
