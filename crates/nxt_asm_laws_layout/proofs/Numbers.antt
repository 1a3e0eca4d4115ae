-- The numbers of the arrays of an assembled text: one row for each that stands outside, and none for those in elements.
use Rattle.std.proofs.Common.{◌≡◌, ℕ, zero, suc, ◌+◌, ◌<◌, ◌≤◌, Bool, List, [], ◌∷◌, ◌++◌, drop, filter, flat_map, length, slice_index, refl, sym, ap, ap₂, subst, ◌∙◌, append_assoc, arith, length-append}
use Rattle.std.specs.Int.{to_le_bytes, w16}
use Rattle.std.proofs.lemmas.List.Elements.{filter-append}
use Rattle.std.proofs.lemmas.List.Concat.{flat_map-append}
use Rattle.nxt_types.specs.Bytes.{u16_at}
use Rattle.nxt_types.specs.Shapes.{Shape, Void, Number, Array, Cluster, Mutex, Members, no_members, member, bare, count, leaf_bytes}
use Rattle.nxt_types.specs.Names.{size}
use Rattle.nxt_types.specs.declared.shape.TocEntry.{TocEntry}
use Rattle.nxt_model.specs.Assembled.{all_entries, entries_of, entry, leaf_sizes, places}
use Rattle.nxt_model.specs.Values.{Value, elements}
use Rattle.nxt_model.specs.Reading.{leaf_place, row_count}
use Rattle.nxt_asm_parts.specs.AssembledParts.{is_array, leaves_in, leaves_among}
use Rattle.nxt_asm_parts.specs.Lists.{lists_bytes}
use Rattle.nxt_table.specs.Leaves.{Leaf, extent}
use Rattle.nxt_layout.specs.Rows as rows
use Rattle.nxt_layout.specs.Rows.{Ground, element_places, elements_of, has_elements, names_row, numbers_at, numbers_of, read_rows, row}
use Rattle.nxt_facts.specs.Places.{places_from}
use Rattle.nxt_facts.proofs.Each.{Each, each_filter, each_join, each_then}
use Rattle.nxt_asm_rules.proofs.Laws.Counts.{entries_length}
use Rattle.nxt_asm_laws_layout.proofs.OwnLeaves.{leaf, own, all_own}
use Rattle.nxt_asm_laws_layout.proofs.Held.{AreHeld, AreItems, IsHeld}
use Rattle.nxt_asm_laws_layout.proofs.Writes.{window}
use Rattle.nxt_asm_laws_layout.proofs.Written.{AllWritten, Written}
use Rattle.nxt_asm_laws_layout.proofs.RowsRead.{ArrayIs, ArraysAre, arrays_parts, window_read}
use Rattle.nxt_asm_laws_layout.proofs.ReadBack.{leaf_there}
use Rattle.nxt_asm_laws_layout.proofs.Extents.{AllExtents, Extents}

abbrev pub is_list : Leaf → Bool
is_list l = rows.is_array l.shape

-- so many numbers from one on
abbrev pub counted : ℕ → ℕ → List ℕ
counted r zero = []
counted r (suc n) = r ∷ counted (r + 1) n

counted-append : (r m n : ℕ) → counted r (m + n) ≡ counted r m ++ counted (r + m) n
counted-append r zero n = let a : 0 + n ≡ n = omega arith in let b : r ≡ r + 0 = omega arith in ap (counted r) a ∙ ap (λ k. counted k n) b
counted-append r (suc m) n =
    let a : suc m + n ≡ suc (m + n) = omega arith in
    let b : r + 1 + m ≡ r + suc m = omega arith in
    ap (counted r) a ∙ ap (λ l. r ∷ l) (counted-append (r + 1) m n ∙ ap (λ k. counted (r + 1) m ++ counted k n) b)

-- nothing from each
flat_none : {X Y : Type 0} (f : X → List Y) (xs : List X) → Each (λ x. f x ≡ []) xs → flat_map f xs ≡ []
flat_none f [] h = refl
flat_none f (x ∷ xs) h = ap₂ (λ a b. a ++ b) h.0 (flat_none f xs h.1)

module _ (g : Ground) where
  -- ---- in elements

  no_number : (a : ℕ) (arrays : List ℕ) → element_places g arrays ≡ [] → numbers_at g a (element_places g arrays) ≡ []
  no_number a arrays e = ap (numbers_at g a) e

  no_places : (a : ℕ) (arrays : List ℕ) → element_places g arrays ≡ [] → element_places g (a ∷ arrays) ≡ []
  no_places a arrays e = ap (λ ps. flat_map (elements_of g) (read_rows g a (filter (names_row g) (numbers_at g a ps)))) e

  mutual
    none_inside : (s : Shape) (ps : List ℕ) (i : ℕ) (arrays : List ℕ) → element_places g arrays ≡ [] → Each (λ l. numbers_of g l ≡ []) (filter is_list (own s ps i arrays))
    none_inside Void ps i arrays e = tt
    none_inside (Number k) ps i arrays e = tt
    none_inside (Array n s) ps i arrays e = (no_number i arrays e, none_inside s (places (leaf_sizes s)) (i + 1) (i ∷ arrays) (no_places i arrays e))
    none_inside (Cluster ss) ps i arrays e = all_none_inside ss ps (i + 1) arrays e
    none_inside Mutex ps i arrays e = tt

    all_none_inside : (ss : Members) (ps : List ℕ) (i : ℕ) (arrays : List ℕ) → element_places g arrays ≡ [] → Each (λ l. numbers_of g l ≡ []) (filter is_list (all_own ss ps i arrays))
    all_none_inside no_members ps i arrays e = tt
    all_none_inside (member s ss) ps i arrays e =
        let rest = drop (length (leaf_sizes s)) ps in
        subst (Each (λ l. numbers_of g l ≡ [])) (sym (filter-append is_list (own s ps i arrays) (all_own ss rest (i + size s) arrays)))
        (each_join (λ l. numbers_of g l ≡ []) (filter is_list (own s ps i arrays)) (filter is_list (all_own ss rest (i + size s) arrays))
        (none_inside s ps i arrays e) (all_none_inside ss rest (i + size s) arrays e))

  -- ---- outside

  -- an array with a row of its own, whose stride is the extent of its element
  pub record HasRow (l : Leaf) : Type 0 where
    pub number : ℕ
    pub numbers : numbers_of g l ≡ number ∷ []
    pub some : 0 < number
    pub below : number < row_count g.memory
    pub stride : (row g number).stride ≡ extent g.leaves l.entry

  -- or one in elements, of which there are none
  pub data IsNumbered (l : Leaf) : Type 0 where
    Outside : HasRow l → IsNumbered l
    Inside : numbers_of g l ≡ [] → IsNumbered l

  no_elements : (a r : ℕ) → (row g r).count ≡ 0 → u16_at g.memory.bytes (leaf_place g.memory a 0) ≡ r → element_places g (a ∷ []) ≡ []
  no_elements a r none e =
      let gone : elements_of g r ≡ [] = ap (places_from (row g r).place (row g r).stride) none in
      let named = each_filter (λ q. elements_of g q ≡ []) (names_row g) (u16_at g.memory.bytes (leaf_place g.memory a 0) ∷ [])
      ((λ _. ap (elements_of g) e ∙ gone), tt) in
      flat_none (elements_of g) (read_rows g a (filter (names_row g) (numbers_at g a (0 ∷ []))))
      (each_filter (λ q. elements_of g q ≡ []) _ (filter (names_row g) (numbers_at g a (0 ∷ [])))
      (each_then (λ q. elements_of g q ≡ []) _ (λ q h _. h) (filter (names_row g) (numbers_at g a (0 ∷ []))) named))

  -- what stands in an outside array has no elements to stand in
  in_list : (s : Shape) (i r : ℕ) (v : Value) → AreItems s (elements v) → (row g r).count ≡ length (elements v) → u16_at g.memory.bytes (leaf_place g.memory i 0) ≡ r
      → Each (λ l. numbers_of g l ≡ []) (filter is_list (own s (places (leaf_sizes s)) (i + 1) (i ∷ [])))
  in_list (Number k) i r v h many e = tt
  in_list Void i r v h many e = tt
  in_list Mutex i r v h many e = tt
  in_list (Array n s) i r v h many e = none_inside (Array n s) (places (leaf_sizes (Array n s))) (i + 1) (i ∷ []) (no_elements i r (many ∙ ap length h) e)
  in_list (Cluster ss) i r v h many e = none_inside (Cluster ss) (places (leaf_sizes (Cluster ss))) (i + 1) (i ∷ []) (no_elements i r (many ∙ ap length h) e)

  -- the numbers of the arrays are those of the rows
  pub record AreNumbered (ls : List Leaf) (r n : ℕ) : Type 0 where
    pub each : Each IsNumbered (filter is_list ls)
    pub numbers : flat_map (numbers_of g) (filter is_list ls) ≡ counted r n

  join : (xs ys : List Leaf) (r m n : ℕ) → AreNumbered xs r m → AreNumbered ys (r + m) n → AreNumbered (xs ++ ys) r (m + n)
  join xs ys r m n a b =
      record {
        each = subst (Each IsNumbered) (sym (filter-append is_list xs ys)) (each_join IsNumbered (filter is_list xs) (filter is_list ys) a.each b.each);
        numbers =
            ap (flat_map (numbers_of g)) (filter-append is_list xs ys)
            ∙ flat_map-append (numbers_of g) (filter is_list xs) (filter is_list ys)
            ∙ ap₂ (λ (p q : List ℕ). p ++ q) a.numbers b.numbers
            ∙ sym (counted-append r m n);
      }

  array_numbered : (n : ℕ) (s : Shape) (q i r at : ℕ) (v : Value) (before behind : List TocEntry) → g.memory.entries ≡ before ++ (entry 7 q ∷ behind) → length before ≡ i
      → AreItems s (elements v) → window q 2 g.memory.bytes ≡ to_le_bytes w16 r → ArrayIs g.memory.bytes g.memory.table (row_count g.memory) r at (Array n s, v) → r < 65536
      → extent g.leaves i ≡ leaf_bytes s → AreNumbered (leaf (Array 0 (bare s)) q i [] ∷ own s (places (leaf_sizes s)) (i + 1) (i ∷ [])) r 1
  array_numbered n s q i r at v before behind whole long items written a small extents =
      let zero_plus : 0 + q ≡ q = omega arith in
      let place : leaf_place g.memory i 0 ≡ q = leaf_there g.memory before behind i (entry 7 q) 0 whole long ∙ zero_plus in
      let number : u16_at g.memory.bytes (leaf_place g.memory i 0) ≡ r = ap (u16_at g.memory.bytes) place ∙ window_read g.memory.bytes q r written (omega (arith, small)) in
      let inner = in_list s i r v items a.row.count_is number in
      record {
        each = (
          Outside (record { number = r; numbers = ap (λ k. k ∷ []) number; some = a.some; below = a.below; stride = a.row.stride_is ∙ sym extents }),
          each_then (λ l. numbers_of g l ≡ []) IsNumbered (λ l e. Inside e) (filter is_list (own s (places (leaf_sizes s)) (i + 1) (i ∷ []))) inner,
        );
        numbers =
            ap₂ (λ k l. k ∷ l) number (flat_none (numbers_of g) (filter is_list (own s (places (leaf_sizes s)) (i + 1) (i ∷ []))) inner);
      }

  none_numbered : (r : ℕ) → AreNumbered [] r 0
  none_numbered r = record { each = tt; numbers = refl }

  mutual
    own_numbered : (s : Shape) (ps : List ℕ) (i : ℕ) (v : Value) (r at : ℕ) (before behind : List TocEntry) → g.memory.entries ≡ before ++ (entries_of s ps ++ behind) → length before ≡ i
        → IsHeld s v → Written g.memory.bytes s ps v r → ArraysAre g.memory.bytes g.memory.table (row_count g.memory) r at (filter is_array (leaves_in s v))
        → r + length (filter is_array (leaves_in s v)) ≤ 65536 → Extents (extent g.leaves) s i → AreNumbered (own s ps i []) r (length (filter is_array (leaves_in s v)))
    own_numbered Void ps i v r at before behind whole long held written arrays few extents = none_numbered r
    own_numbered (Number k) ps i v r at before behind whole long held written arrays few extents = record { each = tt; numbers = refl }
    own_numbered (Array n s) ps i v r at before behind whole long held written arrays few extents =
        array_numbered n s (slice_index ps 0) i r at v before (entries_of s (places (leaf_sizes s)) ++ behind) whole long held.1 written arrays.0 (omega (arith, few)) extents.0
    own_numbered (Cluster ss) ps i v r at before behind whole long held written arrays few extents =
        let own_entry = entry 8 (count ss) in
        let inside : g.memory.entries ≡ (before ++ own_entry ∷ []) ++ (all_entries ss ps ++ behind) = whole ∙ sym (append_assoc before (own_entry ∷ []) (all_entries ss ps ++ behind)) in
        let next : length (before ++ own_entry ∷ []) ≡ i + 1 = length-append before (own_entry ∷ []) ∙ ap (λ k. k + 1) long in
        all_numbered ss ps (i + 1) (elements v) r at (before ++ own_entry ∷ []) behind inside next held.1 written arrays few extents
    own_numbered Mutex ps i v r at before behind whole long held written arrays few extents = record { each = tt; numbers = refl }

    pub all_numbered : (ss : Members) (ps : List ℕ) (i : ℕ) (vs : List Value) (r at : ℕ) (before behind : List TocEntry) → g.memory.entries ≡ before ++ (all_entries ss ps ++ behind) → length before ≡ i
        → AreHeld ss vs → AllWritten g.memory.bytes ss ps vs r → ArraysAre g.memory.bytes g.memory.table (row_count g.memory) r at (filter is_array (leaves_among ss vs))
        → r + length (filter is_array (leaves_among ss vs)) ≤ 65536 → AllExtents (extent g.leaves) ss i → AreNumbered (all_own ss ps i []) r (length (filter is_array (leaves_among ss vs)))
    all_numbered no_members ps i vs r at before behind whole long held written arrays few extents = none_numbered r
    all_numbered (member s ss) ps i [] r at before behind whole long held written arrays few extents = absurd held
    all_numbered (member s ss) ps i (v ∷ vs) r at before behind whole long held written arrays few extents =
        let x = filter is_array (leaves_in s v) in
        let y = filter is_array (leaves_among ss vs) in
        let rest = drop (length (leaf_sizes s)) ps in
        let es = entries_of s ps in
        let fs = all_entries ss rest in
        let joined : filter is_array (leaves_in s v ++ leaves_among ss vs) ≡ x ++ y = filter-append is_array (leaves_in s v) (leaves_among ss vs) in
        let here : g.memory.entries ≡ before ++ (es ++ (fs ++ behind)) = whole ∙ ap (λ l. before ++ l) (append_assoc es fs behind) in
        let later : g.memory.entries ≡ (before ++ es) ++ (fs ++ behind) = here ∙ sym (append_assoc before es (fs ++ behind)) in
        let longer : length (before ++ es) ≡ i + size s = length-append before es ∙ ap₂ (λ (a b : ℕ). a + b) long (entries_length s ps) in
        let both = arrays_parts g.memory.bytes g.memory.table (row_count g.memory) r at x y (subst (ArraysAre g.memory.bytes g.memory.table (row_count g.memory) r at) joined arrays) in
        let sum : length (filter is_array (leaves_in s v ++ leaves_among ss vs)) ≡ length x + length y = ap length joined ∙ length-append x y in
        subst (AreNumbered (all_own (member s ss) ps i []) r) (sym sum)
        (join (own s ps i []) (all_own ss rest (i + size s) []) r (length x) (length y)
        (own_numbered s ps i v r at before (fs ++ behind) here long held.0 written.0 both.0 (omega (arith, few, sum)) extents.0)
        (all_numbered ss rest (i + size s) vs (r + length x) (at + length (lists_bytes x)) (before ++ es) behind later longer held.1 written.1 both.1 (omega (arith, few, sum)) extents.1))
