-- The rows and the bytes of lists, one after another.
use Rattle.std.proofs.Common.{◌≡◌, ℕ, zero, suc, ◌+◌, ◌*◌, ◌<◌, ◌^◌, ℤ, pos, Bool, true, false, if◌then◌else◌, ◌==◌, List, [], ◌∷◌, ◌++◌, map, filter, flat_map, length, take, drop, slice_index_or, refl, sym, ap, subst, ◌∙◌, append_assoc, append-nil, arith}
use Rattle.std.proofs.lemmas.List.{drop_more, length-append}
use Rattle.std.proofs.lemmas.List.Concat.{flat_map-append}
use Rattle.std.proofs.lemmas.Grind.{common_steps}
use Rattle.std.proofs.lemmas.List.Elements.{filter-append}
use Rattle.std.specs.Int.{to_le_bytes, w8}
use Rattle.nxt_types.specs.Arithmetic.{leaf_size, width_of, word}
use Rattle.nxt_types.specs.Shapes.{Shape, Void, Number, Array, cluster_of, leaf_bytes}
use Rattle.nxt_types.specs.declared.kind.Kind.{Kind}
use Rattle.nxt_types.specs.declared.kind.Kind.TheVariants.{Ubyte}
use Rattle.nxt_model.specs.Means.Text.{ended}
use Rattle.nxt_model.specs.Values.{Value, Num, byte_list, elements, list_of}
use Rattle.nxt_model.specs.TextProgram.{arrays_of, base_shape, constants, shape_by, struct_shapes, text_of, text_shape, text_value, texts}
use Rattle.nxt_model.specs.declared.nbc.NbcBase.{NbcBase}
use Rattle.nxt_model.specs.declared.nbc.NbcBase.TheVariants as bases
use Rattle.nxt_model.specs.declared.nbc.NbcBlock.{NbcBlock}
use Rattle.nxt_model.specs.declared.nbc.NbcProgram.{NbcProgram}
use Rattle.nxt_model.specs.declared.nbc.NbcVar.{NbcVar}
use Rattle.nxt_model.specs.declared.nbc.NbcStart.{NbcStart}
use Rattle.nxt_model.specs.declared.nbc.NbcStart.TheVariants as starts
use Rattle.nxt_model.specs.declared.nbc.NbcStruct.{NbcStruct}
use Rattle.nxt_model.specs.declared.nbc.NbcType.{NbcType}
use Rattle.nxt_asm_parts.specs.AssembledParts as parts
use Rattle.nxt_asm_parts.specs.AssembledParts.{Valued, dynamic_of, element_of, is_array, leaves_in, list_bytes_of, place_of, row_bytes, rows_from}
use Rattle.nxt_asm_parts.specs.Defaults.{IsNumbers, constant_leaves, return_leaves, text_leaves, var_leaves, variable_of, zero_leaves}
use Rattle.nxt_asm_parts.specs.Lists.{AreSmall, ListsFit, lists_bytes, next_list, var_arrays, with_arrays, zero_arrays}
use Rattle.nxt_asm_parts.specs.Places.{first_shapes}
use Rattle.nxt_asm_parts.specs.declared.lists.ListsSoFar.{ListsSoFar}
use Rattle.nxt_asm_parts.proofs.DefaultLeaves.{program_leaves, taken_more, zeros_are}
use Rattle.nxt_asm_parts.proofs.StructShapes.{all_first}

rows_append : (at : ℕ) (xs ys : List Valued) → rows_from at (xs ++ ys) ≡ rows_from at xs ++ rows_from (at + length (lists_bytes xs)) ys
rows_append at [] ys = let same : at ≡ at + 0 = omega arith in ap (λ n. rows_from n ys) same
rows_append at (x ∷ xs) ys =
    let row : List ℕ = row_bytes (place_of at x) (leaf_bytes (element_of x.0)) (length (elements x.1)) in
    let next : ℕ = at + length (list_bytes_of x) in
    let same : next + length (lists_bytes xs) ≡ at + length (lists_bytes (x ∷ xs)) = omega (arith, length-append (list_bytes_of x) (lists_bytes xs)) in
    ap (λ l. row ++ l) (rows_append next xs ys)
    ∙ ap (λ n. row ++ (rows_from next xs ++ rows_from n ys)) same
    ∙ sym (append_assoc row (rows_from next xs) (rows_from (at + length (lists_bytes (x ∷ xs))) ys))

pub then_arrays : (d : ListsSoFar) (xs ys : List Valued) → with_arrays (with_arrays d xs) ys ≡ with_arrays d (xs ++ ys)
then_arrays d xs ys =
    let at : ℕ = next_list d in
    let same : next_list (with_arrays d xs) ≡ at + length (lists_bytes xs) = omega (arith, length-append d.lists (lists_bytes xs)) in
    let rows : (d.rows ++ rows_from at xs) ++ rows_from (next_list (with_arrays d xs)) ys ≡ d.rows ++ rows_from at (xs ++ ys) =
    ap (λ n. (d.rows ++ rows_from at xs) ++ rows_from n ys) same
    ∙ append_assoc d.rows (rows_from at xs) (rows_from (at + length (lists_bytes xs)) ys)
    ∙ ap (λ l. d.rows ++ l) (sym (rows_append at xs ys)) in
    let lists : (d.lists ++ lists_bytes xs) ++ lists_bytes ys ≡ d.lists ++ lists_bytes (xs ++ ys) =
    append_assoc d.lists (lists_bytes xs) (lists_bytes ys) ∙ ap (λ l. d.lists ++ l) (sym (flat_map-append list_bytes_of xs ys)) in
    λ i. record { rows = rows i; lists = lists i; start = d.start }

pub no_arrays : (d : ListsSoFar) → d ≡ with_arrays d []
no_arrays d =
    let rows = sym (append-nil d.rows) in let lists = sym (append-nil d.lists) in λ i. record { rows = rows i; lists = lists i; start = d.start }

-- an array's row, and then its list
pub array_written : (d e f : ListsSoFar) (s : Shape) (v : Value)
    → e ≡ record d { rows = d.rows ++ row_bytes (place_of (next_list d) (s, v)) (leaf_bytes (element_of s)) (length (elements v)) }
    → f ≡ record e { lists = e.lists ++ list_bytes_of (s, v) } → f ≡ with_arrays d ((s, v) ∷ [])
array_written d e f s v row list =
    let bytes : List ℕ = list_bytes_of (s, v) in
    let here : List ℕ = row_bytes (place_of (next_list d) (s, v)) (leaf_bytes (element_of s)) (length (elements v)) in
    let one : ListsSoFar → ListsSoFar = λ t. record t { lists = t.lists ++ bytes } in
    let rows = ap (λ l. d.rows ++ l) (sym (append-nil here)) in
    let lists = ap (λ l. d.lists ++ l) (sym (append-nil bytes)) in
    let closed : ◌≡◌ {A = ListsSoFar} (record { rows = d.rows ++ here; lists = d.lists ++ bytes; start = d.start }) (with_arrays d ((s, v) ∷ [])) =
    λ i. record { rows = rows i; lists = lists i; start = d.start } in
    list ∙ ap one row ∙ closed

-- ---- one by one

small_front : (xs ys : List Valued) → AreSmall (xs ++ ys) → AreSmall xs
small_front [] ys small = tt
small_front (x ∷ xs) ys small = (small.0, small.1, small_front xs ys small.2)

small_back : (xs ys : List Valued) → AreSmall (xs ++ ys) → AreSmall ys
small_back [] ys small = small
small_back (x ∷ xs) ys small = small_back xs ys small.2

pub front_fits : (d : ListsSoFar) (xs ys : List Valued) → ListsFit d (xs ++ ys) → ListsFit d xs
front_fits d xs ys fits = record {
  places = omega (arith, fits.places, ap length (flat_map-append list_bytes_of xs ys), length-append (lists_bytes xs) (lists_bytes ys));
  small = small_front xs ys fits.small;
}

pub back_fits : (d e : ListsSoFar) (xs ys : List Valued) → e ≡ with_arrays d xs → ListsFit d (xs ++ ys) → ListsFit e ys
back_fits d e xs ys is fits = record {
  places =
      omega (
        arith,
        fits.places,
        ap (λ t. next_list t) is,
        length-append d.lists (lists_bytes xs),
        ap length (flat_map-append list_bytes_of xs ys),
        length-append (lists_bytes xs) (lists_bytes ys),
      );
  small = small_back xs ys fits.small;
}

module _ {X : Type 0} (f : X → List Valued) where
  halves : (xs : List X) (i : ℕ) → flat_map f xs ≡ flat_map f (take i xs) ++ flat_map f (drop i xs)
  halves [] zero = refl
  halves [] (suc i) = refl
  halves (x ∷ xs) zero = refl
  halves (x ∷ xs) (suc i) =
      ap (λ l. f x ++ l) (halves xs i) ∙ sym (append_assoc (f x) (flat_map f (take i xs)) (flat_map f (drop i xs)))

  pub arrays_next : (xs : List X) (i : ℕ) (x : X) (begun now next : ListsSoFar) → i < length xs → x ≡ slice_index_or xs i x
      → now ≡ with_arrays begun (flat_map f (take i xs)) → next ≡ with_arrays now (f x) → next ≡ with_arrays begun (flat_map f (take (i + 1) xs))
  arrays_next xs i x begun now next under there before is =
      is
      ∙ ap (λ e. with_arrays e (f x)) before
      ∙ then_arrays begun (flat_map f (take i xs)) (f x)
      ∙ ap (λ y. with_arrays begun (flat_map f (take i xs) ++ f y)) there
      ∙ ap (with_arrays begun) (sym (taken_more f xs i x under))

  pub next_lists_fit : (xs : List X) (i : ℕ) (x : X) (begun now : ListsSoFar) → i < length xs → x ≡ slice_index_or xs i x
      → ListsFit begun (flat_map f xs) → now ≡ with_arrays begun (flat_map f (take i xs)) → ListsFit now (f x)
  next_lists_fit xs i x begun now under there fits before =
      let rest : List Valued = flat_map f (drop (i + 1) xs) in
      let behind : flat_map f (drop i xs) ≡ f x ++ rest = ap (flat_map f) (drop_more xs i x under) ∙ ap (λ y. f y ++ rest) (sym there) in
      front_fits now (f x) rest
      (subst (ListsFit now) behind
      (back_fits begun now (flat_map f (take i xs)) (flat_map f (drop i xs)) before (subst (ListsFit begun) (halves xs i) fits)))

  -- the same, where the item is copied
  same_item : (xs : List X) (i : ℕ) (d : X) → i < length xs → slice_index_or xs i d ≡ slice_index_or xs i (slice_index_or xs i d)
  same_item xs i d under = grind (arith, common_steps)

  pub arrays_more : (xs : List X) (i : ℕ) (d : X) (begun now next : ListsSoFar) → i < length xs
      → now ≡ with_arrays begun (flat_map f (take i xs)) → next ≡ with_arrays now (f (slice_index_or xs i d))
      → next ≡ with_arrays begun (flat_map f (take (i + 1) xs))
  arrays_more xs i d begun now next under = arrays_next xs i (slice_index_or xs i d) begun now next under (same_item xs i d under)

  pub more_lists_fit : (xs : List X) (i : ℕ) (d : X) (begun now : ListsSoFar) → i < length xs → ListsFit begun (flat_map f xs)
      → now ≡ with_arrays begun (flat_map f (take i xs)) → ListsFit now (f (slice_index_or xs i d))
  more_lists_fit xs i d begun now under = next_lists_fit xs i (slice_index_or xs i d) begun now under (same_item xs i d under)

-- ---- arrays among leaves

pub arrays_of_all : {X : Type 0} (f : X → List Valued) (xs : List X)
    → filter is_array (flat_map f xs) ≡ flat_map (λ x. filter is_array (f x)) xs
arrays_of_all f [] = refl
arrays_of_all f (x ∷ xs) =
    filter-append is_array (f x) (flat_map f xs) ∙ ap (λ l. filter is_array (f x) ++ l) (arrays_of_all f xs)

-- a struct's arrays are those of its members
pub struct_arrays : (outer inner : List Shape) (base : NbcBase) (i : ℕ) (ms types : List NbcType) → base ≡ bases.Struct i
    → slice_index_or outer i Void ≡ cluster_of (map (shape_by inner) ms) → types ≡ ms
    → zero_arrays (base_shape outer base) ≡ flat_map (λ t. zero_arrays (shape_by inner t)) types
struct_arrays outer inner base i ms types is found same =
    ap (λ b. zero_arrays (base_shape outer b)) is
    ∙ ap zero_arrays found
    ∙ ap (filter is_array) (zeros_are (shape_by inner) ms)
    ∙ arrays_of_all (λ t. zero_leaves (shape_by inner t)) ms
    ∙ ap (flat_map (λ t. zero_arrays (shape_by inner t))) (sym same)

-- an element of an array of arrays is a row's number
pub inner_bytes : (n : ℕ) (s : Shape) → 1 < n → 2 ≡ leaf_bytes (element_of (arrays_of n s))
inner_bytes zero s more = absurd (omega arith)
inner_bytes (suc zero) s more = absurd (omega arith)
inner_bytes (suc (suc n)) s more = refl

-- ---- lists

pub count_numbers : (zs : List ℤ) → length (elements (list_of (map Num zs))) ≡ length zs
count_numbers [] = refl
count_numbers (z ∷ zs) = ap suc (count_numbers zs)

pub count_bytes : (bs : List ℕ) → length (elements (byte_list bs)) ≡ length bs
count_bytes [] = refl
count_bytes (b ∷ bs) = ap suc (count_bytes bs)

pub count_text : (bs : List ℕ) → length (elements (text_value bs)) ≡ length bs + 1
count_text bs = count_bytes (ended bs) ∙ length-append bs (0 ∷ [])

number_list : (n : ℕ) (k : Kind) (zs : List ℤ) → flat_map (λ z. to_le_bytes (width_of k) (word z)) zs ≡ list_bytes_of (Array n (Number k), list_of (map Num zs))
number_list n k [] = refl
number_list n k (z ∷ zs) = ap (λ l. to_le_bytes (width_of k) (word z) ++ l) (number_list n k zs)

text_list : (bs : List ℕ) → flat_map (λ b. to_le_bytes w8 (word (pos b))) bs ≡ list_bytes_of (text_shape, byte_list bs)
text_list [] = refl
text_list (b ∷ bs) = ap (λ l. to_le_bytes w8 (word (pos b)) ++ l) (text_list bs)

-- what is written of a list
abbrev pub rowed : ListsSoFar → ℕ → ℕ → ListsSoFar
rowed d stride count = record d { rows = d.rows ++ row_bytes (if count == 0 then 65535 else next_list d) stride count }

pub list_written : (d e : ListsSoFar) (n stride : ℕ) (k : Kind) (zs : List ℤ) (bytes : List ℕ) → stride ≡ leaf_size k → e ≡ rowed d stride (length zs)
    → bytes ≡ e.lists ++ flat_map (λ z. to_le_bytes (width_of k) (word z)) zs
    → ◌≡◌ {A = ListsSoFar} (record { rows = e.rows; lists = bytes; start = e.start }) (with_arrays d ((Array n (Number k), list_of (map Num zs)) ∷ []))
list_written d e n stride k zs bytes width row pushed =
    let put : List ℕ → ListsSoFar = λ l. record e { lists = l } in
    array_written d e (put bytes) (Array n (Number k)) (list_of (map Num zs))
    (row ∙ ap (λ w. rowed d w (length zs)) width ∙ ap (rowed d (leaf_size k)) (sym (count_numbers zs)))
    (ap put (pushed ∙ ap (λ l. e.lists ++ l) (number_list n k zs)))

pub text_written : (d e : ListsSoFar) (bs bytes : List ℕ) → e ≡ rowed d 1 (length bs + 1)
    → bytes ≡ e.lists ++ flat_map (λ b. to_le_bytes w8 (word (pos b))) (ended bs)
    → ◌≡◌ {A = ListsSoFar} (record { rows = e.rows; lists = bytes; start = e.start }) (with_arrays d (text_leaves bs))
text_written d e bs bytes row pushed =
    let put : List ℕ → ListsSoFar = λ l. record e { lists = l } in
    array_written d e (put bytes) text_shape (text_value bs)
    (row ∙ ap (rowed d 1) (sym (count_text bs)))
    (ap put (pushed ∙ ap (λ l. e.lists ++ l) (text_list (ended bs))))

-- ---- declared variables

pub list_arrays : (ss : List Shape) (of : NbcType) (k : Kind) (start : NbcStart) (zs : List ℤ) → of.arrays ≡ 1 → bases.Number k ≡ of.base → start ≡ starts.List zs
    → var_arrays (record { shape = shape_by ss of; start = start }) ≡ (Array (leaf_size k) (Number k), list_of (map Num zs)) ∷ []
list_arrays ss of k start zs one base list =
    ap (λ n. var_arrays (record { shape = arrays_of n (base_shape ss of.base); start = start })) one
    ∙ ap (λ b. var_arrays (record { shape = arrays_of 1 (base_shape ss b); start = start })) (sym base)
    ∙ ap (λ s. var_arrays (record { shape = arrays_of 1 (Number k); start = s })) list

pub text_arrays : (ss : List Shape) (of : NbcType) (start : NbcStart) (bs : List ℕ) → of.arrays ≡ 1 → of.base ≡ bases.Number Ubyte → start ≡ starts.Text bs
    → var_arrays (record { shape = shape_by ss of; start = start }) ≡ text_leaves bs
text_arrays ss of start bs one base text =
    ap (λ n. var_arrays (record { shape = arrays_of n (base_shape ss of.base); start = start })) one
    ∙ ap (λ b. var_arrays (record { shape = arrays_of 1 (base_shape ss b); start = start })) base
    ∙ ap (λ s. var_arrays (record { shape = text_shape; start = s })) text

one_number : (ss : List Shape) (base : NbcBase) (z : ℤ) → IsNumbers base → filter is_array (leaves_in (base_shape ss base) (Num z)) ≡ []
one_number ss (bases.Number k) z is = refl
one_number ss bases.Mutex z is = absurd is
one_number ss (bases.Struct i) z is = absurd is

pub number_arrays : (ss : List Shape) (of : NbcType) (start : NbcStart) (z : ℤ) → of.arrays ≡ 0 → IsNumbers of.base → start ≡ starts.Num z
    → var_arrays (record { shape = shape_by ss of; start = start }) ≡ []
number_arrays ss of start z none base number =
    ap (λ n. var_arrays (record { shape = arrays_of n (base_shape ss of.base); start = start })) none
    ∙ ap (λ s. var_arrays (record { shape = base_shape ss of.base; start = s })) number
    ∙ one_number ss of.base z base

pub zero_var : (structs : List NbcStruct) (of : NbcType) (start : NbcStart) → start ≡ starts.Zero
    → var_arrays (record { shape = shape_by (struct_shapes structs) of; start = start }) ≡ zero_arrays (shape_by (first_shapes (length structs) structs) of)
zero_var structs of start zero_start =
    ap (λ s. var_arrays (record { shape = shape_by (struct_shapes structs) of; start = s })) zero_start
    ∙ sym (ap (λ ss. zero_arrays (shape_by ss of)) (all_first structs))

-- ---- the arrays of a program

one_return : (c : Bool) (ls : List Valued) → ls ≡ [] → filter is_array (if c then (Number Ubyte, Num (pos 0)) ∷ [] else []) ++ ls ≡ []
one_return true ls none = none
one_return false ls none = none

no_returns : (bs : List NbcBlock) → filter is_array (flat_map return_leaves bs) ≡ []
no_returns [] = refl
no_returns (b ∷ bs) = filter-append is_array (return_leaves b) (flat_map return_leaves bs) ∙ one_return b.subroutine (filter is_array (flat_map return_leaves bs)) (no_returns bs)

no_numbers : (zs : List ℤ) → filter is_array (flat_map constant_leaves zs) ≡ []
no_numbers [] = refl
no_numbers (z ∷ zs) = no_numbers zs

all_texts : (ts : List (List ℕ)) → filter is_array (flat_map text_leaves ts) ≡ flat_map text_leaves ts
all_texts [] = refl
all_texts (t ∷ ts) = ap (λ l. (text_shape, text_value t) ∷ l) (all_texts ts)

pub program_arrays : (p : NbcProgram) (structs : List NbcStruct) (vars : List NbcVar) (ts : List (List ℕ)) → structs ≡ p.structs → vars ≡ p.vars
    → ts ≡ texts (text_of p)
    → parts.arrays_of (text_of p) ≡ flat_map (λ v. var_arrays (variable_of structs v)) vars ++ flat_map text_leaves ts
program_arrays p structs vars ts same_structs same_vars same_ts =
    let zs : List ℤ = constants (text_of p) in
    let xs : List Valued = flat_map (λ v. var_leaves (variable_of structs v)) vars in
    let ys : List Valued = flat_map return_leaves p.blocks in
    let ws : List Valued = flat_map constant_leaves zs in
    let us : List Valued = flat_map text_leaves ts in
    ap (filter is_array) (program_leaves p structs vars p.blocks zs ts same_structs same_vars refl refl same_ts)
    ∙ filter-append is_array xs (ys ++ (ws ++ us))
    ∙ ap (λ l. filter is_array xs ++ l) (filter-append is_array ys (ws ++ us))
    ∙ ap (λ l. filter is_array xs ++ (l ++ filter is_array (ws ++ us))) (no_returns p.blocks)
    ∙ ap (λ l. filter is_array xs ++ l) (filter-append is_array ws us)
    ∙ ap (λ l. filter is_array xs ++ (l ++ filter is_array us)) (no_numbers zs)
    ∙ ap (λ l. filter is_array xs ++ l) (all_texts ts)
    ∙ ap (λ l. l ++ us) (arrays_of_all (λ v. var_leaves (variable_of structs v)) vars)

-- ---- the table of rows

pub table_fits : (d : ListsSoFar) (xs all : List Valued) (n rows : ℕ) → d.lists ≡ [] → d.start ≡ n + 10 * rows → all ≡ xs → rows ≡ length all + 1
    → n + 10 * (length all + 1) + length (lists_bytes all) < 2 ^ 16 → AreSmall all → ListsFit d xs
table_fits d xs all n rows no_lists start whole many places small = record {
  places = omega (arith, ap length no_lists, start, many, places, ap (λ l. length (lists_bytes l)) whole);
  small = subst AreSmall whole small;
}

pub no_table : (n : ℕ) (as' : List Valued) → length as' ≡ 0 → [] ≡ dynamic_of n as'
no_table n [] none = refl
no_table n (a ∷ as') none = absurd (omega (arith, none))

table_is : (n : ℕ) (as' : List Valued) → 0 < length as'
    → dynamic_of n as' ≡ row_bytes n 10 (length as' + 1) ++ rows_from (n + 10 * (length as' + 1)) as' ++ lists_bytes as'
table_is n [] some = absurd (omega arith)
table_is n (a ∷ as') some =
    let same : length as' + 2 ≡ length (a ∷ as') + 1 = omega arith in
    ap (λ m. row_bytes n 10 m ++ rows_from (n + 10 * m) (a ∷ as') ++ lists_bytes (a ∷ as')) same

pub table_written : (d e f : ListsSoFar) (xs ys all : List Valued) (n rows : ℕ) (bytes : List ℕ) → d.rows ≡ [] → d.lists ≡ [] → d.start ≡ n + 10 * rows
    → e ≡ with_arrays d xs → f ≡ with_arrays e ys → all ≡ xs ++ ys → rows ≡ length all + 1 → 0 < length all
    → bytes ≡ row_bytes n 10 rows ++ f.rows ++ f.lists → bytes ≡ dynamic_of n all
table_written d e f xs ys all n rows bytes no_rows no_lists start first second whole many some is =
    let both : f ≡ with_arrays d (xs ++ ys) = second ∙ ap (λ t. with_arrays t ys) first ∙ then_arrays d xs ys in
    let count : ℕ = length all + 1 in
    let at : next_list d ≡ n + 10 * count = omega (arith, start, many, ap length no_lists) in
    let rows_are : f.rows ≡ rows_from (n + 10 * count) all =
    ap (λ t. t.rows) both
    ∙ ap (λ l. l ++ rows_from (next_list d) (xs ++ ys)) no_rows
    ∙ ap (λ m. rows_from m (xs ++ ys)) at
    ∙ ap (rows_from (n + 10 * count)) (sym whole) in
    let lists_are : f.lists ≡ lists_bytes all =
    ap (λ t. t.lists) both ∙ ap (λ l. l ++ lists_bytes (xs ++ ys)) no_lists ∙ ap lists_bytes (sym whole) in
    is
    ∙ ap (λ m. row_bytes n 10 m ++ f.rows ++ f.lists) many
    ∙ ap (λ l. row_bytes n 10 count ++ l ++ f.lists) rows_are
    ∙ ap (λ l. row_bytes n 10 count ++ rows_from (n + 10 * count) all ++ l) lists_are
    ∙ sym (table_is n all some)
