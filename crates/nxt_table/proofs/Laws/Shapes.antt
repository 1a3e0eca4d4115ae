-- The shapes that are made from the last entry to the first are the table's.
use Rattle.std.proofs.Common.{◌≡◌, ℕ, zero, suc, ◌+◌, List, [], ◌∷◌, ◌++◌, refl, sym, ap, ap₂, ◌∙◌, length, arith, append_assoc, append-nil, take, drop, Option, Some, None}
use Rattle.std.proofs.Math.Seq.{take-append_seam, drop-append_seam}
use Rattle.std.proofs.lemmas.List.{length-map}
use Rattle.std.specs.Prelude.{map, replicate, is_none, if◌then◌else◌}
use Rattle.nxt_types.specs.declared.shape.TocEntry.{TocEntry}
use Rattle.nxt_types.specs.Shapes.{Shape, Void, Number, Array, Cluster, Mutex, Members, no_members, member, members, shapes_of, cluster_of, count, outline, spelling, spellings}
use Rattle.nxt_types.specs.Names.{size, sizes}
use Rattle.nxt_types.specs.Tables.{outside_of, outside_among}
use Rattle.nxt_table.specs.declared.item.Item.TheVariants as items
use Rattle.nxt_table.specs.declared.enclosing.NestedEntry.{NestedEntry}
use Rattle.nxt_table.specs.Inside.Items.{item}
use Rattle.nxt_table.specs.Leaves.{Site, sites, sites_in, sites_among, AreShapes}
use Rattle.nxt_table.specs.Inside.Enclosing.{Mark, placed_by, placed_entries}
use Rattle.nxt_table.specs.Inside.Shaping.{stacked, array_of_first, shapes_from, first_shape, outside_shapes}
use Rattle.nxt_table.specs.Strides.{with_strides, all_with_strides}
use Rattle.nxt_table.proofs.Laws.StrideFree.{size-with_strides}
use Rattle.nxt_table.proofs.Entries.Spelled.{number_item}
use Rattle.nxt_table.proofs.Laws.Enclosed.{mark_of, site_head, table_marks, table_heads}

-- ---- the stack

-- by outlines from entry i on
abbrev built : (ℕ → ℕ) → ℕ → List (ℕ × ℕ) → List Shape
built f i [] = []
built f i (o ∷ os) = stacked (f i) (item o) (built f (i + 1) os)

inner : (i n : ℕ) → i + 1 + n ≡ i + (n + 1)
inner i n = omega arith

behind : (i m n : ℕ) → i + m + n ≡ i + (m + n)
behind i m n = omega arith

here : (i : ℕ) → i ≡ i + 0
here i = omega arith

length-shapes_of : (f : ℕ → ℕ) (i : ℕ) (ss : Members) → length (shapes_of (all_with_strides f i ss)) ≡ count ss
length-shapes_of f i no_members = refl
length-shapes_of f i (member s ss) = let e = length-shapes_of f (i + size s) ss in omega (arith, e)

members_back : (ss : Members) → members (shapes_of ss) ≡ ss
members_back no_members = refl
members_back (member s ss) = ap (member s) (members_back ss)

cluster_built : (ts : Members) (n m : ℕ) (xs : List Shape) → length (shapes_of ts) ≡ m → stacked n (Some (items.Cluster m)) (shapes_of ts ++ xs) ≡ Cluster ts ∷ xs
cluster_built ts n m xs e =
    ap (λ k. cluster_of (take k (shapes_of ts ++ xs)) ∷ drop k (shapes_of ts ++ xs)) (sym e)
    ∙ ap (λ l. cluster_of l ∷ drop (length (shapes_of ts)) (shapes_of ts ++ xs)) (take-append_seam (shapes_of ts) xs)
    ∙ ap (λ l. cluster_of (shapes_of ts) ∷ l) (drop-append_seam (shapes_of ts) xs)
    ∙ ap (λ q. Cluster q ∷ xs) (members_back ts)

mutual
  built_shape : (f : ℕ → ℕ) (i : ℕ) (s : Shape) (os : List (ℕ × ℕ)) → built f i (spelling s ++ os) ≡ with_strides f i s ∷ built f (i + size s) os
  built_shape f i Void os = refl
  built_shape f i (Number k) os = ap (λ x. stacked (f i) x (built f (i + 1) os)) (number_item k)
  built_shape f i (Array n s) os =
      ap (array_of_first (f i)) (built_shape f (i + 1) s os) ∙ ap (λ j. with_strides f i (Array n s) ∷ built f j os) (inner i (size s))
  built_shape f i (Cluster ss) os =
      ap (stacked (f i) (Some (items.Cluster (count ss)))) (built_shapes f (i + 1) ss os)
      ∙ cluster_built (all_with_strides f (i + 1) ss) (f i) (count ss) (built f (i + 1 + sizes ss) os) (length-shapes_of f (i + 1) ss)
      ∙ ap (λ j. with_strides f i (Cluster ss) ∷ built f j os) (inner i (sizes ss))
  built_shape f i Mutex os = refl

  built_shapes : (f : ℕ → ℕ) (i : ℕ) (ss : Members) (os : List (ℕ × ℕ)) → built f i (spellings ss ++ os) ≡ shapes_of (all_with_strides f i ss) ++ built f (i + sizes ss) os
  built_shapes f i no_members os = ap (λ j. built f j os) (here i)
  built_shapes f i (member s ss) os =
      ap (built f i) (append_assoc (spelling s) (spellings ss) os)
      ∙ built_shape f i s (spellings ss ++ os)
      ∙ ap (λ l. with_strides f i s ∷ l) (built_shapes f (i + size s) ss os)
      ∙ ap (λ j. shapes_of (all_with_strides f i (member s ss)) ++ built f j os) (behind i (size s) (sizes ss))

-- ---- the shapes outside

-- by outlines and marks from entry i on
abbrev named : (ℕ → ℕ) → ℕ → List (ℕ × ℕ) → List Mark → List (Option Shape)
named f i [] ms = []
named f i (o ∷ os) [] = []
named f i (o ∷ os) (m ∷ ms) = (if is_none m.array then first_shape (built f i (o ∷ os)) else None) ∷ named f (i + 1) os ms

-- so many entries that spell no shape outside
abbrev hidden : ℕ → List (Option Shape) → List (Option Shape)
hidden n xs = replicate n None ++ xs

hidden_sum : (m n : ℕ) (xs : List (Option Shape)) → hidden m (hidden n xs) ≡ hidden (m + n) xs
hidden_sum zero n xs = let e : n ≡ 0 + n = omega arith in ap (λ k. hidden k xs) e
hidden_sum (suc m) n xs = let e : suc (m + n) ≡ suc m + n = omega arith in ap (λ l. None ∷ l) (hidden_sum m n xs) ∙ ap (λ k. hidden k xs) e

hidden_more : (n : ℕ) (xs : List (Option Shape)) → None ∷ hidden n xs ≡ hidden (n + 1) xs
hidden_more n xs = let e : suc n ≡ n + 1 = omega arith in ap (λ k. hidden k xs) e

mutual
  inside_shape : (f : ℕ → ℕ) (s : Shape) (i d a : ℕ) (more_arrays : List ℕ) (more : List Site) (os : List (ℕ × ℕ)) →
      named f i (spelling s ++ os) (map mark_of (sites_in s i d (a ∷ more_arrays) ++ more)) ≡ hidden (size s) (named f (i + size s) os (map mark_of more))
  inside_shape f Void i d a more_arrays more os = refl
  inside_shape f (Number k) i d a more_arrays more os = refl
  inside_shape f (Array n s) i d a more_arrays more os =
      ap (λ l. None ∷ l) (inside_shape f s (i + 1) (d + 1) i (a ∷ more_arrays) more os)
      ∙ hidden_more (size s) (named f (i + 1 + size s) os (map mark_of more))
      ∙ ap (λ j. hidden (size s + 1) (named f j os (map mark_of more))) (inner i (size s))
  inside_shape f (Cluster ss) i d a more_arrays more os =
      ap (λ l. None ∷ l) (inside_shapes f ss (i + 1) (d + 1) a more_arrays more os)
      ∙ hidden_more (sizes ss) (named f (i + 1 + sizes ss) os (map mark_of more))
      ∙ ap (λ j. hidden (sizes ss + 1) (named f j os (map mark_of more))) (inner i (sizes ss))
  inside_shape f Mutex i d a more_arrays more os = refl

  inside_shapes : (f : ℕ → ℕ) (ss : Members) (i d a : ℕ) (more_arrays : List ℕ) (more : List Site) (os : List (ℕ × ℕ)) →
      named f i (spellings ss ++ os) (map mark_of (sites_among ss i d (a ∷ more_arrays) ++ more)) ≡ hidden (sizes ss) (named f (i + sizes ss) os (map mark_of more))
  inside_shapes f no_members i d a more_arrays more os = ap (λ j. named f j os (map mark_of more)) (here i)
  inside_shapes f (member s ss) i d a more_arrays more os =
      ap (λ l. named f i l (map mark_of (sites_among (member s ss) i d (a ∷ more_arrays) ++ more))) (append_assoc (spelling s) (spellings ss) os)
      ∙ ap (λ l. named f i (spelling s ++ (spellings ss ++ os)) (map mark_of l)) (append_assoc (sites_in s i d (a ∷ more_arrays)) (sites_among ss (i + size s) d (a ∷ more_arrays)) more)
      ∙ inside_shape f s i d a more_arrays (sites_among ss (i + size s) d (a ∷ more_arrays) ++ more) (spellings ss ++ os)
      ∙ ap (hidden (size s)) (inside_shapes f ss (i + size s) d a more_arrays more os)
      ∙ hidden_sum (size s) (sizes ss) (named f (i + size s + sizes ss) os (map mark_of more))
      ∙ ap (λ j. hidden (size s + sizes ss) (named f j os (map mark_of more))) (behind i (size s) (sizes ss))

mutual
  named_shape : (f : ℕ → ℕ) (s : Shape) (i d : ℕ) (more : List Site) (os : List (ℕ × ℕ)) →
      named f i (spelling s ++ os) (map mark_of (sites_in s i d [] ++ more)) ≡ outside_of (with_strides f i s) ++ named f (i + size s) os (map mark_of more)
  named_shape f Void i d more os = refl
  named_shape f (Number k) i d more os = ap (λ l. first_shape l ∷ named f (i + 1) os (map mark_of more)) (built_shape f i (Number k) os)
  named_shape f (Array n s) i d more os =
      let t = with_strides f (i + 1) s in
      let rest : ℕ → List (Option Shape) = λ j. named f j os (map mark_of more) in
      ap (λ l. first_shape l ∷ named f (i + 1) (spelling s ++ os) (map mark_of (sites_in s (i + 1) (d + 1) (i ∷ []) ++ more))) (built_shape f i (Array n s) os)
      ∙ ap (λ l. Some (Array (f i) t) ∷ l) (inside_shape f s (i + 1) (d + 1) i [] more os)
      ∙ ap₂ (λ (k j : ℕ). Some (Array (f i) t) ∷ hidden k (rest j)) (sym (size-with_strides f (i + 1) s)) (inner i (size s))
  named_shape f (Cluster ss) i d more os =
      let ts = all_with_strides f (i + 1) ss in
      ap (λ l. first_shape l ∷ named f (i + 1) (spellings ss ++ os) (map mark_of (sites_among ss (i + 1) (d + 1) [] ++ more))) (built_shape f i (Cluster ss) os)
      ∙ ap (λ l. Some (Cluster ts) ∷ l) (named_shapes f ss (i + 1) (d + 1) more os)
      ∙ ap (λ j. Some (Cluster ts) ∷ (outside_among ts ++ named f j os (map mark_of more))) (inner i (sizes ss))
  named_shape f Mutex i d more os = refl

  named_shapes : (f : ℕ → ℕ) (ss : Members) (i d : ℕ) (more : List Site) (os : List (ℕ × ℕ)) →
      named f i (spellings ss ++ os) (map mark_of (sites_among ss i d [] ++ more)) ≡ outside_among (all_with_strides f i ss) ++ named f (i + sizes ss) os (map mark_of more)
  named_shapes f no_members i d more os = ap (λ j. named f j os (map mark_of more)) (here i)
  named_shapes f (member s ss) i d more os =
      let first = outside_of (with_strides f i s) in
      let later = outside_among (all_with_strides f (i + size s) ss) in
      ap (λ l. named f i l (map mark_of (sites_among (member s ss) i d [] ++ more))) (append_assoc (spelling s) (spellings ss) os)
      ∙ ap (λ l. named f i (spelling s ++ (spellings ss ++ os)) (map mark_of l)) (append_assoc (sites_in s i d []) (sites_among ss (i + size s) d []) more)
      ∙ named_shape f s i d (sites_among ss (i + size s) d [] ++ more) (spellings ss ++ os)
      ∙ ap (λ l. first ++ l) (named_shapes f ss (i + size s) d more os)
      ∙ sym (append_assoc first later (named f (i + size s + sizes ss) os (map mark_of more)))
      ∙ ap (λ j. (first ++ later) ++ named f j os (map mark_of more)) (behind i (size s) (sizes ss))

-- ---- the table

-- as many marks as entries
placed_outlines : (es : List TocEntry) (ms : List Mark) → length es ≡ length ms → map (λ (p : NestedEntry). outline p.entry) (placed_by es ms) ≡ map outline es
placed_outlines [] ms h = refl
placed_outlines (e ∷ es) [] h = absurd (omega (arith, h))
placed_outlines (e ∷ es) (m ∷ ms) h = ap (λ l. outline e ∷ l) (placed_outlines es ms (omega (arith, h)))

built_placed : (f : ℕ → ℕ) (i : ℕ) (ps : List NestedEntry) → shapes_from f i ps ≡ built f i (map (λ (p : NestedEntry). outline p.entry) ps)
built_placed f i [] = refl
built_placed f i (p ∷ ps) = ap (stacked (f i) (item (outline p.entry))) (built_placed f (i + 1) ps)

named_placed : (f : ℕ → ℕ) (i : ℕ) (es : List TocEntry) (ms : List Mark) → length es ≡ length ms → outside_shapes f i (placed_by es ms) ≡ named f i (map outline es) ms
named_placed f i [] ms h = refl
named_placed f i (e ∷ es) [] h = refl
named_placed f i (e ∷ es) (m ∷ ms) h =
    let rest : length es ≡ length ms = omega (arith, h) in
    let later = placed_by es ms in
    ap (λ l. (if is_none m.array then first_shape (stacked (f i) (item (outline e)) l) else None) ∷ outside_shapes f (i + 1) later) (built_placed f (i + 1) later ∙ ap (built f (i + 1)) (placed_outlines es ms rest))
    ∙ ap (λ l. (if is_none m.array then first_shape (built f i (outline e ∷ map outline es)) else None) ∷ l) (named_placed f (i + 1) es ms rest)

pub table_shapes : (table : List TocEntry) (f : ℕ → ℕ) (ss : Members) → AreShapes table ss → outside_shapes f 0 (placed_entries table) ≡ outside_among (all_with_strides f 0 ss)
table_shapes table f ss h =
    let heads = ap (λ l. length l) (table_heads table ss h) in
    let as_many : length table ≡ length (map mark_of (sites ss)) = omega (arith, heads, length-map table outline, length-map (sites ss) site_head, length-map (sites ss) mark_of) in
    ap (λ ms. outside_shapes f 0 (placed_by table ms)) (table_marks table ss h)
    ∙ named_placed f 0 table (map mark_of (sites ss)) as_many
    ∙ ap (λ l. named f 0 l (map mark_of (sites ss))) (h.spelled.entries ∙ sym (append-nil (spellings ss)))
    ∙ ap (λ l. named f 0 (spellings ss ++ []) (map mark_of l)) (sym (append-nil (sites ss)))
    ∙ named_shapes f ss 0 0 [] []
    ∙ append-nil (outside_among (all_with_strides f 0 ss))
