-- The sizes of the program of a generated text: its table, its code, its elements and its footprint.
use Rattle.std.proofs.Common.{◌≡◌, ℕ, suc, ◌+◌, ◌*◌, ◌≤◌, List, [], ◌∷◌, ◌++◌, flat_map, length, map, sum_by, None, refl, ap, ◌∙◌, append-nil, arith}
use Rattle.std.specs.Prelude.{ℤ}
use Rattle.std.proofs.lemmas.List.Sums.{sum_by-append, sum_by-cons}
use Rattle.nxt_types.specs.Names.{size}
use Rattle.nxt_types.specs.Pool.{round4, row_size}
use Rattle.nxt_types.specs.Shapes.{Number, Shape, leaf_bytes}
use Rattle.nxt_types.specs.declared.kind.Kind.TheVariants.{Slong}
use Rattle.nxt_model.specs.Assembled.{all_shapes, block_words, word_count}
use Rattle.nxt_model.specs.TextProgram.{constants, declared, text_shape, texts}
use Rattle.nxt_asm_parts.specs.Elements.{elements_in, first_large}
use Rattle.nxt_asm_rules.specs.AsmRules.{code_size, entry_count, large_element, start_footprint}
use Rattle.nxt_gen_laws.specs.Rows.{Built, Counted, Cut, Driven, Filled, Moved, Row}
use Rattle.nxt_gen_laws.specs.Spelled.{row_statement, row_statements, rows_block, spelled}
use Rattle.nxt_gen_laws.proofs.Fitting.Constants.{constants_few, texts_are}

-- ---- the table

abbrev shapes_with : List Shape → List Shape
shapes_with ss = declared (spelled []) ++ ss

abbrev number_shapes : List ℤ → List Shape
number_shapes zs = map (λ z. Number Slong) zs

shapes_are : (rs : List Row) → all_shapes (spelled rs) ≡ shapes_with (number_shapes (constants (spelled rs)))
shapes_are rs =
    ap (λ ts. shapes_with (number_shapes (constants (spelled rs))) ++ map (λ t. text_shape) ts) (texts_are rs) ∙ none_behind (number_shapes (constants (spelled rs)))
  where
    none_behind : (ss : List Shape) → shapes_with ss ++ [] ≡ shapes_with ss
    none_behind [] = refl
    none_behind (s ∷ ss) = append-nil (shapes_with (s ∷ ss))

-- an entry for each number
number_entries : (zs : List ℤ) → sum_by size (number_shapes zs) ≡ length zs
number_entries [] = refl
number_entries (z ∷ zs) =
    let one = sum_by-cons size (Number Slong) (number_shapes zs) in
    let rest = number_entries zs in
    omega (arith, one, rest)

entries_are : (rs : List Row) → entry_count (spelled rs) ≡ 17 + length (constants (spelled rs))
entries_are rs =
    ap (sum_by size) (shapes_are rs)
    ∙ sum_by-append size (declared (spelled [])) (number_shapes (constants (spelled rs)))
    ∙ ap (λ n. 17 + n) (number_entries (constants (spelled rs)))

pub table_fits : (rs : List Row) → length rs ≤ 4000 → entry_count (spelled rs) ≤ 49151
table_fits rs short =
    let is = entries_are rs in
    let few = constants_few rs in
    omega (arith, is, few, short)

-- ---- elements

numbers_plain : (zs : List ℤ) → flat_map elements_in (number_shapes zs) ≡ []
numbers_plain [] = refl
numbers_plain (z ∷ zs) = numbers_plain zs

-- each list has bytes
pub none_large : (rs : List Row) → large_element (spelled rs) ≡ None
none_large rs =
    ap (λ ss. first_large (flat_map elements_in ss)) (shapes_are rs)
    ∙ ap (λ ns. first_large (1 ∷ 1 ∷ 1 ∷ 1 ∷ 1 ∷ 1 ∷ 1 ∷ 1 ∷ ns)) (numbers_plain (constants (spelled rs)))

-- ---- the code

words_few : (line : ℕ) (r : Row) → word_count (row_statement line r) ≤ 7
words_few line (Filled of byte v) = omega arith
words_few line (Cut of from v) = omega arith
words_few line (Built of from byte) = omega arith
words_few line (Moved of from) = omega arith
words_few line (Counted of) = omega arith
words_few line Driven = omega arith

body_short : (line : ℕ) (rs : List Row) → sum_by word_count (row_statements line rs) ≤ 7 * length rs + 3
body_short line [] = omega arith
body_short line (r ∷ rs) =
    let one = sum_by-cons word_count (row_statement line r) (row_statements (suc line) rs) in
    let few = words_few line r in
    let rest = body_short (suc line) rs in
    omega (arith, one, few, rest)

pub code_fits : (rs : List Row) → length rs ≤ 4000 → code_size (spelled rs) ≤ 65535
code_fits rs short =
    let one = sum_by-cons block_words (rows_block rs) [] in
    let few = body_short 14 rs in
    omega (arith, one, few, short)

-- ---- the footprint

abbrev footprint_by : ℕ → List (List ℕ) → ℕ
footprint_by n ts =
    round4 (sum_by leaf_bytes (declared (spelled [])) + 4 * n + 2 * length ts) + round4 (row_size * (8 + length ts + 1)) + 0
    + sum_by (λ bytes. round4 (length bytes + 1)) ts

by_texts : (rs : List Row) → start_footprint (spelled rs) ≡ footprint_by (length (constants (spelled rs))) (texts (spelled rs))
by_texts rs = refl

pub footprint_fits : (rs : List Row) → length rs ≤ 1500 → start_footprint (spelled rs) ≤ 32768
footprint_fits rs short =
    let is : start_footprint (spelled rs) ≡ footprint_by (length (constants (spelled rs))) [] = by_texts rs ∙ ap (footprint_by (length (constants (spelled rs)))) (texts_are rs) in
    let few = constants_few rs in
    omega (arith, is, few, short)
