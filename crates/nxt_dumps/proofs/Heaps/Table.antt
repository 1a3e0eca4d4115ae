-- The rows of a table, in their bytes.
use Rattle.std.proofs.Common.{◌≡◌, ℕ, zero, suc, ◌+◌, ◌*◌, ◌/◌, ◌%◌, ◌<◌, List, [], ◌∷◌, length, flat_map, get_or, refl, ap, ◌∙◌, arith, length-append}
use Rattle.std.specs.List.{range_with_len}
use Rattle.std.proofs.lemmas.List.{get_or_append_left, get_or-append_right}
use Rattle.nxt_types.specs.Bytes.{u16_at}
use Rattle.nxt_rows.specs.declared.DopeRow.{DopeRow}
use Rattle.nxt_rows.specs.Rows.{dope_row}
use Rattle.nxt_rows.proofs.Laws.Writes.{dope_row-written}

-- the ten bytes of a row
abbrev pub bytes_of_row : DopeRow → List ℕ
bytes_of_row d =
    d.place % 256 ∷ d.place / 256 ∷ d.stride % 256 ∷ d.stride / 256 ∷ d.count % 256 ∷ d.count / 256 ∷ d.back % 256 ∷ d.back / 256 ∷ d.link % 256 ∷ d.link / 256 ∷ []

two_bytes : (xs : List ℕ) (at n : ℕ) → get_or xs at 0 ≡ n % 256 → get_or xs (at + 1) 0 ≡ n / 256 → u16_at xs at ≡ n
two_bytes xs at n low high = rw (low, high) (omega arith)

-- a row whose ten bytes stand in the table is that row
pub row_stands : (xs : List ℕ) (table r : ℕ) (d : DopeRow) → ((k : ℕ) → k < 10 → get_or xs (table + 10 * r + k) 0 ≡ get_or (bytes_of_row d) k 0) → dope_row xs table r ≡ d
row_stands xs table r d s =
    let at = table + 10 * r in
    let i : ℕ → ℕ = λ k. get_or xs k 0 in
    let first : get_or xs at 0 ≡ d.place % 256 = ap i (omega arith) ∙ s 0 (omega arith) in
    dope_row-written xs table r at d refl
    (two_bytes xs at d.place first (s 1 (omega arith)))
    (two_bytes xs (at + 2) d.stride (s 2 (omega arith)) (ap i (omega arith) ∙ s 3 (omega arith)))
    (two_bytes xs (at + 4) d.count (s 4 (omega arith)) (ap i (omega arith) ∙ s 5 (omega arith)))
    (two_bytes xs (at + 6) d.back (s 6 (omega arith)) (ap i (omega arith) ∙ s 7 (omega arith)))
    (two_bytes xs (at + 8) d.link (s 8 (omega arith)) (ap i (omega arith) ∙ s 9 (omega arith)))

-- ---- all rows

abbrev pub bytes_of_rows : (ℕ → DopeRow) → ℕ → ℕ → List ℕ
bytes_of_rows rows a n = flat_map (λ r. bytes_of_row (rows r)) (range_with_len a n)

pub length_rows : (rows : ℕ → DopeRow) (a n : ℕ) → length (bytes_of_rows rows a n) ≡ 10 * n
length_rows rows a zero = refl
length_rows rows a (suc n) = omega (arith, length-append (bytes_of_row (rows a)) (bytes_of_rows rows (a + 1) n), length_rows rows (a + 1) n)

-- a byte of a row
pub byte_of_row : (rows : ℕ → DopeRow) (a n r k : ℕ) → r < n → k < 10 → get_or (bytes_of_rows rows a n) (10 * r + k) 0 ≡ get_or (bytes_of_row (rows (a + r))) k 0
byte_of_row rows a zero r k less small = absurd (omega (arith, less))
byte_of_row rows a (suc n) zero k less small =
    ap (λ i. get_or (bytes_of_rows rows a (suc n)) i 0) (omega arith)
    ∙ get_or_append_left (bytes_of_row (rows a)) (bytes_of_rows rows (a + 1) n) 0 k (omega (arith, small))
    ∙ ap (λ i. get_or (bytes_of_row (rows i)) k 0) (omega arith)
byte_of_row rows a (suc n) (suc r) k less small =
    get_or-append_right (bytes_of_row (rows a)) (bytes_of_rows rows (a + 1) n) 10 (10 * suc r + k) 0 refl (omega arith)
    ∙ ap (λ i. get_or (bytes_of_rows rows (a + 1) n) i 0) (omega arith)
    ∙ byte_of_row rows (a + 1) n r k (omega (arith, less)) small
    ∙ ap (λ i. get_or (bytes_of_row (rows i)) k 0) (omega arith)
