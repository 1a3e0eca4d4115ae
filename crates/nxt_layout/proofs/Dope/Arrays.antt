-- What is found through a table's arrays: their entries rise, and stand below the table's end.
use Rattle.std.proofs.Common.{◌≡◌, ℕ, zero, suc, ◌+◌, ◌<◌, ◌≤◌, Bool, true, false, cond, List, [], ◌∷◌, All, map, filter, length, take, get_or, Some, None, Option, refl, ap, ◌∙◌, arith, length-append, ◌≢◌}
use Rattle.std.specs.Prelude.{slice_set}
use Rattle.std.proofs.lemmas.List.{length-map, get_or-set_same, get_or-set_other}
use Rattle.std.proofs.lemmas.List.Elements.{All-from_recursion, recursion_from_All}
use Rattle.nxt_types.specs.declared.shape.TocEntry.{TocEntry}
use Rattle.nxt_types.specs.Shapes.{outline}
use Rattle.nxt_table.specs.declared.item.Item.{Item}
use Rattle.nxt_table.specs.declared.item.Item.TheVariants as items
use Rattle.nxt_table.specs.declared.enclosing.Frame.{Frame}
use Rattle.nxt_table.specs.declared.enclosing.NestedEntry.{NestedEntry}
use Rattle.nxt_table.specs.declared.leaves.PlacedLeaf.{PlacedLeaf}
use Rattle.nxt_layout.specs.declared.reach.ArrayRows.{ArrayRows}
use Rattle.nxt_rxe.specs.declared.parts.Parts.{Parts}
use Rattle.nxt_table.specs.Inside.Items.{item, needs_behind}
use Rattle.nxt_table.specs.Inside.Enclosing.{Mark, marks_from, marks, frames_behind, placed_by, placed_entries}
use Rattle.nxt_table.specs.Inside.LeafPasses.{leaf_list, leaves_from}
use Rattle.nxt_table.specs.Inside.Owners.{RisesFrom}
use Rattle.nxt_layout.specs.Rows.{Ground}
use Rattle.nxt_layout.specs.Inside.RowPasses.{Opened, is_array_item, array_leaves, extent_in, back_to, places_in, through_by, through_from, open_by, told, ArraysRise, HaveStrides}
use Rattle.nxt_table.specs.Inside.Checks.{leaves_of}
use Rattle.nxt_layout.specs.Inside.Passes.{arrays_in, ground_in}
use Rattle.nxt_facts.proofs.Each.{Each, each_then, each_join, each_filter}
use Rattle.nxt_table.proofs.Laws.Rising.{rises_later, rising_leaves}

-- ---- the bytes of elements

bytes_same : (g : Ground) (e f : ℕ → ℕ) (l : PlacedLeaf) (bases : List ℕ) → e l.entry ≡ f l.entry → through_by g e l bases ≡ through_by g f l bases
bytes_same g e f l bases h =
    let t = through_by g e l bases in
    ap (λ n. record { entry = t.entry; bytes = n; rows = t.rows; lists = t.lists; beyond = t.beyond }) h

-- the same is found where the bytes of these arrays' elements are the same
pub found_same : (g : Ground) (e f : ℕ → ℕ) (os : List Opened) (ls : List PlacedLeaf) → Each (λ l. e l.entry ≡ f l.entry) ls → through_from g e os ls ≡ through_from g f os ls
found_same g e f os [] h = refl
found_same g e f os (l ∷ ls) h =
    let around = back_to l.array os in
    let t = through_by g f l (places_in g around) in
    ap (λ t. t ∷ through_from g e (open_by g t ∷ around) ls) (bytes_same g e f l (places_in g around) h.0)
    ∙ ap (λ ts. t ∷ ts) (found_same g e f (open_by g t ∷ around) ls h.1)

-- the bytes of elements are known below n, and so are the arrays
pub found_below : (g : Ground) (n : ℕ) (e f : ℕ → ℕ) (ls : List PlacedLeaf) → All (λ l. l.entry < n) ls → ((a : ℕ) → a < n → e a ≡ f a) → through_from g e [] (array_leaves ls) ≡ through_from g f [] (array_leaves ls)
found_below g n e f ls below same =
    found_same g e f [] (array_leaves ls)
    (each_filter (λ l. e l.entry ≡ f l.entry) (λ l. is_array_item l.item) ls
    (each_then (λ l. l.entry < n) (λ l. is_array_item l.item ≡ true → e l.entry ≡ f l.entry) (λ l h _. same l.entry h) ls
    (recursion_from_All (λ l. l.entry < n) ls below)))

-- ---- entries

one_rises : (i : ℕ) (l : PlacedLeaf) (ls : List PlacedLeaf) (b : Bool) → i ≤ l.entry → RisesFrom (l.entry + 1) ls → RisesFrom i (cond b (l ∷ ls) ls)
one_rises i l ls true h r = (h, r)
one_rises i l ls false h r = rises_later (l.entry + 1) i ls (omega (arith, h)) r

some_rise : (p : PlacedLeaf → Bool) (i : ℕ) (ls : List PlacedLeaf) → RisesFrom i ls → RisesFrom i (filter p ls)
some_rise p i [] r = tt
some_rise p i (l ∷ ls) r = one_rises i l (filter p ls) (p l) r.0 (some_rise p (l.entry + 1) ls r.1)

pub found_rise : (g : Ground) (ext : ℕ → ℕ) (os : List Opened) (i n : ℕ) (ls : List PlacedLeaf) → RisesFrom i ls → Each (λ l. l.entry < n) ls → ArraysRise i n (map (told g) (through_from g ext os ls))
found_rise g ext os i n [] r h = tt
found_rise g ext os i n (l ∷ ls) r h =
    let around = back_to l.array os in
    let t = through_by g ext l (places_in g around) in
    (r.0, h.0, found_rise g ext (open_by g t ∷ around) (l.entry + 1) n ls r.1 h.1)

one_below : (i n : ℕ) (p : NestedEntry) (o : Option Item) → i < n → Each (λ l. l.entry < n) (leaf_list i p o)
one_below i n p None h = tt
one_below i n p (Some items.Void) h = tt
one_below i n p (Some (items.Number k)) h = (h, tt)
one_below i n p (Some items.Array) h = (h, tt)
one_below i n p (Some (items.Cluster m)) h = tt
one_below i n p (Some items.Mutex) h = (h, tt)

leaves_below : (i n : ℕ) (ps : List NestedEntry) → i + length ps ≤ n → Each (λ l. l.entry < n) (leaves_from i ps)
leaves_below i n [] h = tt
leaves_below i n (p ∷ ps) h =
    each_join (λ l. l.entry < n) (leaf_list i p (item (outline p.entry))) (leaves_from (i + 1) ps)
    (one_below i n p (item (outline p.entry)) (omega (arith, h)))
    (leaves_below (i + 1) n ps (omega (arith, h)))

one_few : (i : ℕ) (p : NestedEntry) (o : Option Item) → length (leaf_list i p o) ≤ 1
one_few i p None = omega arith
one_few i p (Some items.Void) = omega arith
one_few i p (Some (items.Number k)) = omega arith
one_few i p (Some items.Array) = omega arith
one_few i p (Some (items.Cluster m)) = omega arith
one_few i p (Some items.Mutex) = omega arith

leaves_few : (i : ℕ) (ps : List NestedEntry) → length (leaves_from i ps) ≤ length ps
leaves_few i [] = omega arith
leaves_few i (p ∷ ps) =
    omega (arith, length-append (leaf_list i p (item (outline p.entry))) (leaves_from (i + 1) ps), one_few i p (item (outline p.entry)), leaves_few (i + 1) ps)

-- ---- the table

count_marks : (n : ℕ) (fs : List Frame) (i : ℕ) (os : List (ℕ × ℕ)) → length (marks_from n fs i os) ≡ length os
count_marks n fs i [] = refl
count_marks n fs i (o ∷ os) = omega (arith, count_marks (needs_behind n (item o)) (frames_behind n fs i (item o)) (i + 1) os)

count_placed : (es : List TocEntry) (ms : List Mark) → length es ≡ length ms → length (placed_by es ms) ≡ length es
count_placed [] ms h = refl
count_placed (e ∷ es) [] h = absurd (omega (arith, h))
count_placed (e ∷ es) (m ∷ ms) h = omega (arith, count_placed es ms (omega (arith, h)))

pub count_entries : (es : List TocEntry) → length (placed_entries es) ≡ length es
count_entries es =
    count_placed es (marks es) (omega (arith, count_marks 0 [] 0 (map outline es), length-map es outline))

pub table_below : (p : Parts) → All (λ l. l.entry < length p.toc) (leaves_of p)
table_below p =
    All-from_recursion (λ l. l.entry < length p.toc) (leaves_of p)
    (leaves_below 0 (length p.toc) (placed_entries p.toc) (omega (arith, count_entries p.toc)))

pub table_few : (p : Parts) → length (leaves_of p) ≤ length p.toc
table_few p = omega (arith, leaves_few 0 (placed_entries p.toc), count_entries p.toc)

-- the arrays' entries rise, and are below the table's end
pub arrays_rise : (p : Parts) → ArraysRise 0 (length p.toc) (map (told (ground_in p)) (arrays_in p))
arrays_rise p =
    let below = recursion_from_All (λ l. l.entry < length p.toc) (leaves_of p) (table_below p) in
    found_rise (ground_in p) (extent_in (leaves_of p)) [] 0 (length p.toc) (array_leaves (leaves_of p))
    (some_rise (λ l. is_array_item l.item) 0 (leaves_of p) (rising_leaves 0 (placed_entries p.toc)))
    (each_filter (λ l. l.entry < length p.toc) (λ l. is_array_item l.item) (leaves_of p)
    (each_then (λ l. l.entry < length p.toc) (λ l. is_array_item l.item ≡ true → l.entry < length p.toc) (λ l h _. h) (leaves_of p) below))

-- ---- strides

-- the array at k is one from i on and below n
pub array_at : (i n k : ℕ) (xs : List ArrayRows) (d : ArrayRows) → ArraysRise i n xs → k < length xs → (i ≤ (get_or xs k d).entry) × ((get_or xs k d).entry < n)
array_at i n k [] d r h = absurd (omega (arith, h))
array_at i n zero (x ∷ xs) d r h = (r.0, r.1)
array_at i n (suc k) (x ∷ xs) d r h =
    let later = array_at (x.entry + 1) n k xs d r.2 (omega (arith, h)) in
    (omega (arith, r.0, later.0), later.1)

apart : (d e : ℕ) → e + 1 ≤ d → e ≢ d
apart d e h = omega (arith, h)

-- one more array has its stride
pub one_more_stride : (i n k : ℕ) (xs : List ArrayRows) (d : ArrayRows) (strides : List ℕ) → ArraysRise i n xs → n ≤ length strides → k < length xs → HaveStrides strides (take k xs) →
    HaveStrides (slice_set strides (get_or xs k d).entry (get_or xs k d).stride) (take (suc k) xs)
one_more_stride i n k [] d strides r few h have = absurd (omega (arith, h))
one_more_stride i n zero (x ∷ xs) d strides r few h have =
    (get_or-set_same strides x.entry x.stride 0 (omega (arith, few, r.1)), tt)
one_more_stride i n (suc k) (x ∷ xs) d strides r few h have =
    let a = get_or xs k d in
    let later = array_at (x.entry + 1) n k xs d r.2 (omega (arith, h)) in (
      get_or-set_other strides a.entry x.entry a.stride 0 (apart a.entry x.entry later.0) ∙ have.0,
      one_more_stride (x.entry + 1) n k xs d strides r.2 few (omega (arith, h)) have.1,
    )
