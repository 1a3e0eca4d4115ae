-- What is found through one array.
use Rattle.std.proofs.Common.{◌≡◌, ℕ, suc, cond, refl, ◌+◌, ◌-◌, ◌*◌, ◌<◌, ◌≤◌, ◌^◌, Bool, true, false, if◌then◌else◌, ◌&&◌, not, ◌==◌, nat_lt, List, [], ◌∷◌, ◌++◌, filter, find, flat_map, count_by, length, append_assoc, None, IfSome, sym, ap, ap₂, ◌∙◌, arith, subst}
use Rattle.std.specs.Rc.{rc_slice_items}
use Rattle.std.proofs.lemmas.Bool.{and_parts}
use Rattle.std.proofs.lemmas.List.Elements.{All-from_recursion}
use Rattle.std.proofs.lemmas.List.Sums.{length-filter, count_by-le-length}
use Rattle.nxt_types.specs.Bytes.{u16_at}
use Rattle.nxt_model.specs.Reading.{row_count}
use Rattle.nxt_layout.specs.declared.known.Elements.{Elements}
use Rattle.nxt_layout.specs.declared.known.Found.{Found}
use Rattle.nxt_table.specs.declared.leaves.PlacedLeaf.{PlacedLeaf}
use Rattle.nxt_layout.specs.declared.names.Names.{Names}
use Rattle.nxt_layout.specs.declared.places.Places.{Places}
use Rattle.nxt_layout.specs.declared.strides.Reading.{Reading}
use Rattle.nxt_layout.specs.declared.spans.Span.{Span}
use Rattle.nxt_layout.specs.Rows.{Ground, has_elements, stride_or, is_placed, is_strided_by, read_by, is_beyond, elements_of}
use Rattle.nxt_layout.specs.Inside.RowPasses.{Through, Opened, is_array_item, array_leaves, back_to, open_by, through_from, few, tallied, rows_of, numbers_in, least, row_span, spans_from, places_in, through_by, told}
use Rattle.nxt_layout.specs.Inside.Known.{AreElements, ArePlaced, ArePlacesOf, IsNamed, IsToldBy, IsFoundIn, IsSame}
use Rattle.nxt_layout.proofs.Dope.Searches.{spans_next}
use Rattle.nxt_facts.proofs.Each.{each_from, each_filter}
use Rattle.nxt_facts.proofs.Sums.{tally_is, any_is}
use Rattle.nxt_layout.proofs.Dope.NoneOneMany.{rows_few, names_same, some_same}
use Rattle.nxt_layout.proofs.Dope.Places.{number_tally}

-- ---- what is read

pub filter_short : (p : ℕ → Bool) (xs : List ℕ) → length (filter p xs) ≤ length xs
filter_short p xs = subst (λ n. n ≤ length xs) (sym (length-filter p xs)) (count_by-le-length p xs)

pub read_placed : (g : Ground) (bytes : ℕ) (rows : List ℕ) → ArePlaced g (read_by g bytes rows)
read_placed g bytes rows =
    let test = λ (r : ℕ). is_placed g r && is_strided_by g bytes rows r in
    All-from_recursion
    (λ r. is_placed g r ≡ true)
    (filter test rows)
    (each_filter
    (λ r. is_placed g r ≡ true)
    test
    rows
    (each_from (λ r. test r ≡ true → is_placed g r ≡ true) (λ r h. (and_parts (is_placed g r) (is_strided_by g bytes rows r) h).0) rows))

-- ---- what is found

-- what names tell of numbers at places
pub told_in : (g : Ground) (place : ℕ) (bases : List ℕ) (c : (ℕ → Bool) → ℕ) (lists : ℕ) (f : Found) → ((p : ℕ → Bool) → few (c p) ≡ few (tallied (numbers_in g place bases) p)) → lists ≡ length bases → lists ≤ 2 ^ 33 → IsToldBy g c lists f → IsFoundIn g place bases f
told_in g place bases c lists f same count bound told =
    let numbers = numbers_in g place bases in
    record {
      rows = told.rows ∙ names_same c (tallied numbers) (row_count g.memory) same;
      lists = told.lists_are ∙ count;
      beyond = told.beyond ∙ some_same (c (is_beyond g)) (tallied numbers (is_beyond g)) (same (is_beyond g)) ∙ ap (nat_lt 0) (tally_is (is_beyond g) numbers) ∙ sym (any_is (is_beyond g) numbers);
      bound = subst (λ n. n ≤ 2 ^ 33) (sym told.lists_are) bound;
      few_rows = told.few_rows;
    }

-- as many elements
pub same_count : (g : Ground) (n : ℕ) (xs ys : List ℕ) → xs ≡ ys → n ≡ length (flat_map (elements_of g) xs) → n ≡ length (flat_map (elements_of g) ys)
same_count g n xs ys e h = h ∙ ap (λ rows. length (flat_map (elements_of g) rows)) e

-- the names of numbers that pass tests as often, none, one or many
pub named_alike : (g : Ground) (c d : (ℕ → Bool) → ℕ) (n : Names) → ((p : ℕ → Bool) → few (c p) ≡ few (d p)) → IsNamed g c n → IsNamed g d n
named_alike g c d n same h =
    record {
      size = h.size;
      marks = λ r less. h.marks r less ∙ same (λ q. q == r);
      beyond = h.beyond ∙ some_same (c (is_beyond g)) (d (is_beyond g)) (same (is_beyond g));
    }

-- the numbers at the places of elements
pub named_places : (g : Ground) (place : ℕ) (bases : List ℕ) (ps : Places) (n : Names) → ArePlacesOf bases ps → IsNamed g (λ p. (0 + 1 * count_by p (numbers_in g place ps.once.items)) + 2 * count_by p (numbers_in g place ps.often.items)) n → IsNamed g (tallied (numbers_in g place bases)) n
named_places g place bases ps n are h =
    named_alike g (λ p. (0 + 1 * count_by p (numbers_in g place ps.once.items)) + 2 * count_by p (numbers_in g place ps.often.items)) (tallied (numbers_in g place bases)) n same h
  where
    same : (p : ℕ → Bool) → few ((0 + 1 * count_by p (numbers_in g place ps.once.items)) + 2 * count_by p (numbers_in g place ps.often.items)) ≡ few (tallied (numbers_in g place bases) p)
    same p =
        let t = λ (b : ℕ). p (u16_at g.memory.bytes (b + place)) in
        omega (arith, number_tally g place p ps.once.items, number_tally g place p ps.often.items, number_tally g place p bases, are t)

-- what is told of an array
pub told_through : (g : Ground) (ext : ℕ → ℕ) (l : PlacedLeaf) (bytes : ℕ) (bases : List ℕ) (f : Found) (r : Reading) → IsFoundIn g l.place bases f → bytes ≡ ext l.entry → r.stride ≡ stride_or g bytes (find (has_elements g) (rc_slice_items f.rows)) → r.misstrided ≡ least (filter (λ q. not (is_strided_by g bytes (rc_slice_items f.rows) q)) (rc_slice_items f.rows)) →
    record { entry = l.entry; stride = r.stride; lists = f.lists; misstrided = r.misstrided } ≡ told g (through_by g ext l bases)
told_through g ext l bytes bases f r found b stride missed =
    let rows = rows_of g (numbers_in g l.place bases) in
    ap (λ s. record { entry = l.entry; stride = s; lists = f.lists; misstrided = r.misstrided }) (stride ∙ ap₂ (λ (k : ℕ) (rs : List ℕ). stride_or g k (find (has_elements g) rs)) b found.rows)
    ∙ ap (λ n. record { entry = l.entry; stride = stride_or g (ext l.entry) (find (has_elements g) rows); lists = n; misstrided = r.misstrided }) found.lists
    ∙ ap (λ o. record { entry = l.entry; stride = stride_or g (ext l.entry) (find (has_elements g) rows); lists = length bases; misstrided = o }) (missed ∙ ap₂ (λ (k : ℕ) (rs : List ℕ). least (filter (λ q. not (is_strided_by g k rs q)) rs)) b found.rows)

-- its elements, where the rows whose elements are read are these
pub open_rows : (g : Ground) (ext : ℕ → ℕ) (l : PlacedLeaf) (bytes : ℕ) (bases read : List ℕ) (f : Found) → IsFoundIn g l.place bases f → bytes ≡ ext l.entry → read ≡ read_by g bytes (rc_slice_items f.rows) → record { entry = l.entry; read = read } ≡ open_by g (through_by g ext l bases)
open_rows g ext l bytes bases read f found b e =
    ap (λ rows. record { entry = l.entry; read = rows }) (e ∙ ap₂ (λ (k : ℕ) (rs : List ℕ). read_by g k rs) b found.rows)

pub new_elements : (g : Ground) (place bytes : ℕ) (bases : List ℕ) (f : Found) (e : Elements) → IsFoundIn g place bases f → rc_slice_items e.rows ≡ read_by g bytes (rc_slice_items f.rows) → e.places ≡ None → AreElements g e
new_elements g place bytes bases f e found read none =
    let rows = rows_of g (numbers_in g place bases) in
    let same : rc_slice_items e.rows ≡ read_by g bytes rows = read ∙ ap (read_by g bytes) found.rows in
    record {
      few_rows = omega (arith, found.few_rows, ap length same, filter_short (λ r. is_placed g r && is_strided_by g bytes rows r) rows, rows_few g (numbers_in g place bases));
      placed = subst (ArePlaced g) (sym same) (read_placed g bytes rows);
      places = subst (λ o. IfSome o (ArePlacesOf (flat_map (elements_of g) (rc_slice_items e.rows)))) (sym none) tt;
    }

-- what is shared
pub same_found : (g : Ground) (place : ℕ) (bases : List ℕ) (a b : Found) → IsSame a b → IsFoundIn g place bases a → IsFoundIn g place bases b
same_found g place bases a b s f =
    record {
      rows = s.rows ∙ f.rows;
      lists = s.lists ∙ f.lists;
      beyond = s.beyond ∙ f.beyond;
      bound = subst (λ n. n ≤ 2 ^ 33) (sym s.lists) f.bound;
      few_rows = f.few_rows;
    }

-- where as many are left, all are
pub filter_whole : (p : ℕ → Bool) (xs : List ℕ) → length (filter p xs) ≡ length xs → filter p xs ≡ xs
filter_whole p [] e = refl
filter_whole p (x ∷ xs) e = at (p x) refl (filter_whole p xs) (filter_short p xs)
  where
    at : (b : Bool) → p x ≡ b → (length (filter p xs) ≡ length xs → filter p xs ≡ xs) → length (filter p xs) ≤ length xs → filter p (x ∷ xs) ≡ x ∷ xs
    at true f ih short =
        let long : length (filter p (x ∷ xs)) ≡ suc (length (filter p xs)) = ap (λ b. length (cond b (x ∷ filter p xs) (filter p xs))) f in
        ap (λ b. cond b (x ∷ filter p xs) (filter p xs)) f ∙ ap (λ ys. x ∷ ys) (ih (omega (arith, long, e)))
    at false f ih short =
        let long : length (filter p (x ∷ xs)) ≡ length (filter p xs) = ap (λ b. length (cond b (x ∷ filter p xs) (filter p xs))) f in
        absurd (omega (arith, long, e, short))

-- ---- leaf by leaf

pub array_more : (g : Ground) (ext : ℕ → ℕ) (done : List Through) (os : List Opened) (l : PlacedLeaf) (ls : List PlacedLeaf) (t : Through) (o : Opened) → is_array_item l.item ≡ true → t ≡ through_by g ext l (places_in g (back_to l.array os)) → o ≡ open_by g t → (done ++ t ∷ []) ++ through_from g ext (o ∷ back_to l.array os) (array_leaves ls) ≡ done ++ through_from g ext os (array_leaves (l ∷ ls))
array_more g ext done os l ls t o it e f =
    let around = back_to l.array os in
    let found = through_by g ext l (places_in g around) in
    append_assoc done (t ∷ []) (through_from g ext (o ∷ around) (array_leaves ls))
    ∙ ap (λ q. done ++ t ∷ through_from g ext (q ∷ around) (array_leaves ls)) f
    ∙ ap (λ u. done ++ u ∷ through_from g ext (open_by g u ∷ around) (array_leaves ls)) e
    ∙ ap (λ b. done ++ through_from g ext os (if b then l ∷ array_leaves ls else array_leaves ls)) (sym it)

pub array_less : (g : Ground) (ext : ℕ → ℕ) (done : List Through) (os : List Opened) (l : PlacedLeaf) (ls : List PlacedLeaf) → is_array_item l.item ≡ false → done ++ through_from g ext os (array_leaves ls) ≡ done ++ through_from g ext os (array_leaves (l ∷ ls))
array_less g ext done os l ls other =
    ap (λ b. done ++ through_from g ext os (if b then l ∷ array_leaves ls else array_leaves ls)) (sym other)

-- ---- the least of lists

-- ---- lists of which a part is done

-- ---- spans, row by row

pub span_more : (g : Ground) (full : ℕ → Bool) (r n : ℕ) (ss : List Span) → r < n → full r ≡ true → (ss ++ row_span g r ∷ []) ++ spans_from g full (r + 1) (n - (r + 1)) ≡ ss ++ spans_from g full r (n - r)
span_more g full r n ss h e =
    let rest = spans_from g full (r + 1) (n - (r + 1)) in
    append_assoc ss (row_span g r ∷ []) rest
    ∙ ap (λ xs. ss ++ xs) (sym (spans_next g full r n h ∙ ap (λ b. if b then row_span g r ∷ rest else rest) e))

pub span_less : (g : Ground) (full : ℕ → Bool) (r n : ℕ) (ss : List Span) → r < n → full r ≡ false → ss ++ spans_from g full (r + 1) (n - (r + 1)) ≡ ss ++ spans_from g full r (n - r)
span_less g full r n ss h e =
    let rest = spans_from g full (r + 1) (n - (r + 1)) in
    ap (λ xs. ss ++ xs) (sym (spans_next g full r n h ∙ ap (λ b. if b then row_span g r ∷ rest else rest) e))
