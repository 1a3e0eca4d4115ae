-- Where no rule of rows is broken, the passes tell the size of the start and the strides of the lists.
use Rattle.std.proofs.Common.{◌≡◌, ℕ, ◌+◌, ◌*◌, ◌≤◌, ◌<◌, Bool, true, false, cond, ◌&&◌, ◌||◌, not, ◌==◌, nat_lt, nat_le, None, Option, inl, inr, eqb-true, eq-eqb, lt-ltb, true≢false, List, [], ◌∷◌, map, flat_map, find, max, sum_by, length, Some, if◌then◌else◌, refl, sym, ap, ap₂, ◌∙◌, subst, arith}
use Rattle.std.specs.Prelude.{slice_index}
use Rattle.std.specs.List.{list_all, list_any}
use Rattle.std.proofs.lemmas.Bool.{and_parts, or_left, or_right, cases_order}
use Rattle.std.proofs.lemmas.List.Sums.{sum_by-cons}
use Rattle.nxt_types.specs.Shapes.{Members}
use Rattle.nxt_rxe.specs.declared.parts.Parts.{Parts}
use Rattle.nxt_model.specs.Values.{group_of}
use Rattle.nxt_types.specs.Pool.{round4}
use Rattle.nxt_model.specs.Reading.{Memory, row_count}
use Rattle.nxt_table.specs.declared.fault.TableFault.TheVariants.{Place}
use Rattle.nxt_layout.specs.declared.fault.LayoutFault.TheVariants.{Table}
use Rattle.nxt_table.specs.Leaves.{Leaf, AreShapes, leaves, leaf_of, extent}
use Rattle.nxt_layout.specs.Start.{memory, ground, stride_of, stride_through, file_rows}
use Rattle.nxt_layout.specs.Rows.{Ground, row, has_elements, stride_or, is_strided_by, is_array, numbers_of, reached_through, arrays_of, is_full_in, is_full}
use Rattle.nxt_layout.specs.Inside.RowPasses.{Through, all_rows, list_count, row_bytes, full_bytes, stride_in, told, HaveStrides}
use Rattle.nxt_table.specs.Strides.{all_with_strides}
use Rattle.nxt_layout.specs.LayoutRules.{Broken}
use Rattle.nxt_layout.specs.Layouts.{FileLayout, layout_of}
use Rattle.nxt_layout.specs.Inside.Passes.{ground_in, arrays_in, rows_in_file, size_of_start}
use Rattle.nxt_table.specs.Inside.Checks.{bytes_of_parts}
use Rattle.nxt_facts.proofs.Each.{Each, each_then, each_filter, each_passes}
use Rattle.nxt_facts.proofs.Sums.{tally, tally-append, is_it}
use Rattle.nxt_facts.proofs.SumsBelow.{sums_same}
use Rattle.nxt_layout.proofs.Start.Leaves.{leaves_among, HasFairRows, IsFair}
use Rattle.nxt_layout.proofs.Start.ValueAt.{values_among}
use Rattle.nxt_layout.proofs.Start.LeafOrder.{leaves_are, leaves_found}
use Rattle.nxt_layout.proofs.Dope.Counts.{arrays_among}
use Rattle.nxt_layout.proofs.Start.SameStrides.{same_strides}
use Rattle.nxt_table.proofs.Laws.StrideFree.{size_of_table}
use Rattle.nxt_layout.proofs.Laws.OneStart.{memory_with_strides}
use Rattle.nxt_layout.proofs.Start.RulesKept.{KeepsRows, are_kept, reached_once, fair_leaves}
use Rattle.nxt_table.proofs.Laws.Dataspace.{same_dataspace}
use Rattle.nxt_layout.proofs.Start.Size.{start_bytes, start_size, rows_with_strides}
use Rattle.nxt_layout.proofs.Start.SizeByRows.{start_by_row, numbers_in_places}
use Rattle.nxt_layout.proofs.Dope.Reached.{few_through, few_rows, leaf_rows_alike, NamesOnce, CountsAll, members_counted}
use Rattle.nxt_layout.proofs.Dope.NoneOneMany.{AreAlike, alike_any}
use Rattle.nxt_layout.proofs.Dope.Strides.{each_among, like_one}
use Rattle.nxt_layout.proofs.Dope.Scanned.{bare}
use Rattle.nxt_layout.proofs.Rules.Rows.{arrays_same, few, same_ground, same_arrays, full_same}

-- ---- as many elements as are reached

names_once : (g : Ground) (ls : List Leaf) → ((r : ℕ) → tally (is_it r) (flat_map (reached_through g) ls) ≤ 1) → Each (NamesOnce g) ls
names_once g [] once = tt
names_once g (l ∷ ls) once =
    let parts = λ (r : ℕ). tally-append (is_it r) (reached_through g l) (flat_map (reached_through g) ls) in
    (λ r. omega (arith, once r, parts r), names_once g ls (λ r. omega (arith, once r, parts r)))

arrays_counted : (p : Parts) (plain : Members) → AreShapes p.toc plain → KeepsRows p → Each (CountsAll (ground p plain)) (arrays_of (ground p plain))
arrays_counted p plain shapes rules =
    let g = ground p plain in
    let order : leaves p.toc plain ≡ leaves_among p.toc plain 0 [] = leaves_are p.toc plain (size_of_table p.toc plain shapes.spelled) in
    let once = names_once g (arrays_of g) (reached_once g (are_kept p plain shapes order rules)) in
    subst
    (λ ls. Each (CountsAll g) (arrays_among ls))
    (sym order)
    (members_counted g plain 0 [] refl (subst (λ ls. Each (NamesOnce g) (arrays_among ls)) order once))

-- ---- the size

lists_counted : (g : Ground) (ls : List Leaf) → Each (CountsAll g) ls → list_count (map (few_through g) ls) ≡ sum_by (λ l. length (numbers_of g l)) ls
lists_counted g [] exact = refl
lists_counted g (l ∷ ls) exact =
    omega (
      arith,
      sum_by-cons (λ (t : Through). t.lists) (few_through g l) (map (few_through g) ls),
      sum_by-cons (λ l. length (numbers_of g l)) l ls,
      numbers_in_places g l,
      exact.0,
      lists_counted g ls exact.1,
    )

rows_same : (p : Parts) (plain : Members) → AreShapes p.toc plain → rows_in_file p ≡ file_rows p plain
rows_same p plain shapes =
    ap₂
    (λ (b : Bool) (g : Ground). if b then row_count g.memory else 1)
    (arrays_same p.toc plain shapes)
    (same_ground p plain shapes)

full_bytes_same : (g : Ground) → full_bytes g (is_full_in g (all_rows (few g))) ≡ full_bytes g (is_full g)
full_bytes_same g =
    sums_same
    (λ r. if is_full_in g (all_rows (few g)) r then row_bytes g r else 0)
    (λ r. if is_full g r then row_bytes g r else 0)
    (row_count g.memory)
    (λ r less. ap (λ b. if b then row_bytes g r else 0) (full_same g r))

-- the bytes that the passes count
abbrev sized : Parts → ℕ → ℕ → ℕ → ℕ
sized p rows lists bytes = round4 p.header.static_size + round4 (10 * max rows (lists + 1)) + bytes

pub size_same : (p : Parts) (plain : Members) → AreShapes p.toc plain → KeepsRows p → size_of_start p ≡ start_bytes p plain
size_same p plain shapes rules =
    let g = ground p plain in
    ap (λ n. sized p n (list_count (arrays_in p)) (full_bytes (ground_in p) (is_full_in (ground_in p) (all_rows (arrays_in p))))) (rows_same p plain shapes)
    ∙ ap₂
    (λ (k : Ground) (ts : List Through). sized p (file_rows p plain) (list_count ts) (full_bytes k (is_full_in k (all_rows ts))))
    (same_ground p plain shapes)
    (same_arrays p plain shapes)
    ∙ ap₂ (sized p (file_rows p plain)) (lists_counted g (arrays_of g) (arrays_counted p plain shapes rules)) (full_bytes_same g)
    ∙ sym (start_by_row p plain shapes rules)

-- ---- the strides

-- the rows with elements of an array have one stride
abbrev AreEven : Ground → List ℕ → Type 0
AreEven g rows = (q r : ℕ) → list_any (is_it q) rows ≡ true → list_any (is_it r) rows ≡ true → has_elements g q ≡ true → has_elements g r ≡ true → (row g q).stride ≡ (row g r).stride

lesser_like : (g : Ground) (bytes : ℕ) (rows : List ℕ) (q r : ℕ) → q < r → is_strided_by g bytes rows r ≡ true → list_any (is_it q) rows ≡ true → has_elements g q ≡ true → has_elements g r ≡ true → (row g q).stride ≡ (row g r).stride
lesser_like g bytes rows q r less fits among some others =
    let like = λ (x : ℕ). not (nat_lt x r && has_elements g x) || ((row g x).stride == (row g r).stride) in
    let both : (nat_le bytes (row g r).stride && list_all like rows) ≡ true = sym (ap (λ b. not b || (nat_le bytes (row g r).stride && list_all like rows)) others) ∙ fits in
    let all = (and_parts (nat_le bytes (row g r).stride) (list_all like rows) both).1 in
    let here : like q ≡ true = each_among (λ x. like x ≡ true) rows q (each_passes like rows all) among in
    eqb-true (row g q).stride (row g r).stride (like_one (nat_lt q r) (has_elements g q) ((row g q).stride == (row g r).stride) (lt-ltb q r less) some here)

even_rows : (g : Ground) (bytes : ℕ) (rows : List ℕ) → Each (λ r. is_strided_by g bytes rows r ≡ true) rows → AreEven g rows
even_rows g bytes rows strided q r inq inr_ hasq hasr =
    elim (cases_order q r) [
      | inr (inl less) ↦ lesser_like g bytes rows q r less (each_among (λ x. is_strided_by g bytes rows x ≡ true) rows r strided inr_) inq hasq hasr
      | inl same ↦ ap (λ x. (row g x).stride) same
      | inr (inr more) ↦ sym (lesser_like g bytes rows r q more (each_among (λ x. is_strided_by g bytes rows x ≡ true) rows q strided inq) inr_ hasr hasq)
    ]

find_here : (p : ℕ → Bool) (xs : List ℕ) (r : ℕ) → find p xs ≡ Some r → (p r ≡ true) × (list_any (is_it r) xs ≡ true)
find_here p [] r e = let f : None ≡ Some r = e in cc
find_here p (x ∷ xs) r e = at (p x) refl (find_here p xs r)
  where
    at : (b : Bool) → p x ≡ b → (find p xs ≡ Some r → (p r ≡ true) × (list_any (is_it r) xs ≡ true)) → (p r ≡ true) × (list_any (is_it r) (x ∷ xs) ≡ true)
    at true f ih =
        let same : Some x ≡ Some r = sym (ap (λ b. cond b (Some x) (find p xs)) f) ∙ e in
        let here : x ≡ r = cc in
        (sym (ap p here) ∙ f, or_left (x == r) (list_any (is_it r) xs) (eq-eqb x r here))
    at false f ih =
        let later = ih (sym (ap (λ b. cond b (Some x) (find p xs)) f) ∙ e) in
        (later.0, or_right (x == r) (list_any (is_it r) xs) later.1)

find_some : (p : ℕ → Bool) (xs : List ℕ) (r : ℕ) → find p xs ≡ Some r → list_any p xs ≡ true
find_some p [] r e = let f : None ≡ Some r = e in cc
find_some p (x ∷ xs) r e = at (p x) refl (find_some p xs r)
  where
    at : (b : Bool) → p x ≡ b → (find p xs ≡ Some r → list_any p xs ≡ true) → (p x || list_any p xs) ≡ true
    at true f ih = or_left (p x) (list_any p xs) f
    at false f ih = or_right (p x) (list_any p xs) (ih (sym (ap (λ b. cond b (Some x) (find p xs)) f) ∙ e))

find_no : (p : ℕ → Bool) (xs : List ℕ) → find p xs ≡ None → list_any p xs ≡ false
find_no p [] e = refl
find_no p (x ∷ xs) e = at (p x) refl (find_no p xs)
  where
    at : (b : Bool) → p x ≡ b → (find p xs ≡ None → list_any p xs ≡ false) → (p x || list_any p xs) ≡ false
    at true f ih = let s : Some x ≡ None = sym (ap (λ b. cond b (Some x) (find p xs)) f) ∙ e in cc
    at false f ih = ap₂ (λ (a b : Bool). a || b) f (ih (sym (ap (λ b. cond b (Some x) (find p xs)) f) ∙ e))

-- the first with elements of either has the same stride
first_alike : (g : Ground) (bytes : ℕ) (xs ys : List ℕ) → AreAlike xs ys → AreEven g ys → stride_or g bytes (find (has_elements g) xs) ≡ stride_or g bytes (find (has_elements g) ys)
first_alike g bytes xs ys alike even = at (find (has_elements g) xs) (find (has_elements g) ys) refl refl
  where
    at : (a b : Option ℕ) → find (has_elements g) xs ≡ a → find (has_elements g) ys ≡ b → stride_or g bytes a ≡ stride_or g bytes b
    at None None e f = refl
    at None (Some r) e f = absurd (true≢false (sym (find_some (has_elements g) ys r f) ∙ sym (alike_any (has_elements g) xs ys alike) ∙ find_no (has_elements g) xs e))
    at (Some q) None e f = absurd (true≢false (sym (find_some (has_elements g) xs q e) ∙ alike_any (has_elements g) xs ys alike ∙ find_no (has_elements g) ys f))
    at (Some q) (Some r) e f =
        let one = find_here (has_elements g) xs q e in
        let two = find_here (has_elements g) ys r f in
        even q r (sym (alike_any (is_it q) xs ys alike) ∙ one.1) two.1 one.0 two.0

stride_found : (g : Ground) (l : Leaf) → HasFairRows g l → leaf_of g.leaves l.entry ≡ Some l → stride_in g (few_through g l) ≡ stride_of g l.entry
stride_found g l fair found =
    first_alike g (extent g.leaves l.entry) (few_rows g l.entry l.arrays) (reached_through g l) (leaf_rows_alike g l) (even_rows g (extent g.leaves l.entry) (reached_through g l) fair.strided)
    ∙ sym (ap (stride_through g) found)

strides_agree : (g : Ground) (strides : List ℕ) (ls : List Leaf) → Each (HasFairRows g) ls → Each (λ l. leaf_of g.leaves l.entry ≡ Some l) ls → HaveStrides strides (map (told (bare g)) (map (few_through g) ls)) → Each (λ l. slice_index strides l.entry ≡ stride_of g l.entry) ls
strides_agree g strides [] fair found have = tt
strides_agree g strides (l ∷ ls) fair found have =
    (have.0 ∙ stride_found g l fair.0 found.0, strides_agree g strides ls fair.1 found.1 have.1)

fair_arrays : (p : Parts) (plain : Members) → AreShapes p.toc plain → ((e : ℕ) → Broken p (Table (Place e)) → ⊥) → KeepsRows p → Each (HasFairRows (ground p plain)) (arrays_of (ground p plain))
fair_arrays p plain shapes place rules =
    let g = ground p plain in
    let order : leaves p.toc plain ≡ leaves_among p.toc plain 0 [] = leaves_are p.toc plain (size_of_table p.toc plain shapes.spelled) in
    let kept = are_kept p plain shapes order rules in
    each_filter (HasFairRows g) (λ l. is_array l.shape) (leaves p.toc plain)
    (each_then (IsFair g) (λ l. is_array l.shape ≡ true → HasFairRows g l) (λ l f. f.rows) (leaves p.toc plain) (fair_leaves p plain shapes place kept))

arrays_found : (p : Parts) (plain : Members) → Each (λ l. leaf_of (leaves p.toc plain) l.entry ≡ Some l) (arrays_of (ground p plain))
arrays_found p plain =
    let ls = leaves p.toc plain in
    each_filter
    (λ l. leaf_of ls l.entry ≡ Some l)
    (λ l. is_array l.shape)
    ls
    (each_then (λ l. leaf_of ls l.entry ≡ Some l) (λ l. is_array l.shape ≡ true → leaf_of ls l.entry ≡ Some l) (λ l e t. e) ls (leaves_found p.toc plain))

shapes_same : (p : Parts) (plain : Members) → AreShapes p.toc plain → ((e : ℕ) → Broken p (Table (Place e)) → ⊥) → KeepsRows p → (strides : List ℕ) → HaveStrides strides (map (told (ground_in p)) (arrays_in p)) → all_with_strides (slice_index strides) 0 plain ≡ all_with_strides (stride_of (ground p plain)) 0 plain
shapes_same p plain shapes place rules strides have =
    let g = ground p plain in
    let order : leaves p.toc plain ≡ leaves_among p.toc plain 0 [] = leaves_are p.toc plain (size_of_table p.toc plain shapes.spelled) in
    let found : HaveStrides strides (map (told (bare g)) (few g)) =
    subst
    (λ ts. HaveStrides strides (map (told (bare g)) ts))
    (same_arrays p plain shapes)
    (subst (λ k. HaveStrides strides (map (told k) (arrays_in p))) (same_ground p plain shapes) have)
    in
    let agree : Each (λ l. slice_index strides l.entry ≡ stride_of g l.entry) (arrays_of g) =
    strides_agree g strides (arrays_of g) (fair_arrays p plain shapes place rules) (arrays_found p plain) found in
    same_strides
    p.toc
    (slice_index strides)
    (stride_of g)
    plain
    0
    []
    (subst (λ ls. Each (λ l. slice_index strides l.entry ≡ stride_of g l.entry) (arrays_among ls)) order agree)

-- ---- the layout

abbrev laid : Parts → Members → List ℕ → ℕ → ℕ → FileLayout
laid p ss bytes rows size =
    record {
      entries = p.toc;
      shapes = ss;
      dataspace = bytes;
      static_size = p.header.static_size;
      dope_at = p.header.dope_at;
      rows = rows;
      footprint = size;
    }

-- the layout that the passes give is the file's
pub layout_same : (p : Parts) (plain : Members) → AreShapes p.toc plain → ((e : ℕ) → Broken p (Table (Place e)) → ⊥) → KeepsRows p → (strides : List ℕ) → HaveStrides strides (map (told (ground_in p)) (arrays_in p)) → laid p (all_with_strides (slice_index strides) 0 plain) (bytes_of_parts p) (rows_in_file p) (size_of_start p) ≡ layout_of p (all_with_strides (stride_of (ground p plain)) 0 plain) (group_of (values_among (ground p plain) plain 0 0))
layout_same p plain shapes place rules strides have =
    let f = stride_of (ground p plain) in
    let ss = all_with_strides f 0 plain in
    let bytes : bytes_of_parts p ≡ (memory p ss).bytes =
    same_dataspace p plain shapes ∙ ap (λ (m : Memory). m.bytes) (sym (memory_with_strides p f plain shapes.strides)) in
    let rows : rows_in_file p ≡ file_rows p ss = rows_same p plain shapes ∙ sym (rows_with_strides p f plain shapes) in
    let size = size_same p plain shapes rules ∙ sym (start_size p plain shapes place rules) in
    ap (λ qs. laid p qs (bytes_of_parts p) (rows_in_file p) (size_of_start p)) (shapes_same p plain shapes place rules strides have)
    ∙ ap (λ bs. laid p ss bs (rows_in_file p) (size_of_start p)) bytes
    ∙ ap₂ (laid p ss (memory p ss).bytes) rows size
