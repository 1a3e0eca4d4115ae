-- The rows of a table of rows and the bytes of its lists, as they are read.
use Rattle.std.proofs.Common.{◌≡◌, ℕ, suc, ◌+◌, ◌*◌, ◌<◌, ◌≤◌, ◌^◌, Bool, true, false, cond, ◌==◌, List, [], ◌∷◌, ◌++◌, flat_map, length, refl, sym, ap, subst, ◌∙◌, append_assoc, arith, length-append}
use Rattle.std.specs.Int.{to_le_bytes, w16}
use Rattle.std.specs.Prelude.{⊤}
use Rattle.nxt_types.specs.Bytes.{u16_at}
use Rattle.nxt_types.specs.Shapes.{leaf_bytes}
use Rattle.nxt_types.proofs.Laws.Bytes.{u16_at-window}
use Rattle.nxt_model.specs.Values.{elements}
use Rattle.nxt_asm_parts.specs.AssembledParts.{Valued, element_of, list_bytes_of, place_of, row_bytes, rows_from}
use Rattle.nxt_asm_parts.specs.Lists.{AreSmall, lists_bytes}
use Rattle.nxt_asm_laws_layout.proofs.Writes.{window, window_there}

-- ---- numbers

u16_back : (n : ℕ) → n < 2 ^ 16 → u16_at (to_le_bytes w16 n) 0 ≡ n
u16_back n small = omega (arith, small)

-- two bytes that stand at a place are read there
pub number_read : (bytes before behind : List ℕ) (at n : ℕ) → bytes ≡ before ++ (to_le_bytes w16 n ++ behind) → length before ≡ at → n < 2 ^ 16 → u16_at bytes at ≡ n
number_read bytes before behind at n e long small =
    u16_at-window bytes at ∙ ap (λ l. u16_at l 0) (window_there at bytes before (to_le_bytes w16 n) behind e long) ∙ u16_back n small

pub window_read : (bytes : List ℕ) (at n : ℕ) → window at 2 bytes ≡ to_le_bytes w16 n → n < 2 ^ 16 → u16_at bytes at ≡ n
window_read bytes at n e small = u16_at-window bytes at ∙ ap (λ l. u16_at l 0) e ∙ u16_back n small

-- ---- rows

module _ (bytes : List ℕ) (table : ℕ) where
  -- row r of the table at this place
  pub record RowIs (r place stride count : ℕ) : Type 0 where
    pub place_is : u16_at bytes (table + 10 * r) ≡ place
    pub stride_is : u16_at bytes (table + 10 * r + 2) ≡ stride
    pub count_is : u16_at bytes (table + 10 * r + 4) ≡ count

  pub row_read : (before behind : List ℕ) (r place stride count : ℕ) → bytes ≡ before ++ (row_bytes place stride count ++ behind) → length before ≡ table + 10 * r
      → place < 2 ^ 16 → stride < 2 ^ 16 → count < 2 ^ 16 → RowIs r place stride count
  row_read before behind r place stride count e long a b c =
      let first = to_le_bytes w16 place in
      let second = to_le_bytes w16 stride in
      let third = to_le_bytes w16 count in
      let rest = flat_map (to_le_bytes w16) (0 ∷ 0 ∷ []) ++ behind in
      let one : bytes ≡ (before ++ first) ++ (second ++ (third ++ rest)) = e ∙ sym (append_assoc before first (second ++ (third ++ rest))) in
      let two : bytes ≡ ((before ++ first) ++ second) ++ (third ++ rest) = one ∙ sym (append_assoc (before ++ first) second (third ++ rest)) in
      let longer = length-append before first in
      let longest = length-append (before ++ first) second in
      record {
        place_is = number_read bytes before (second ++ (third ++ rest)) (table + 10 * r) place e long a;
        stride_is = number_read bytes (before ++ first) (third ++ rest) (table + 10 * r + 2) stride one (omega (arith, long, longer)) b;
        count_is = number_read bytes ((before ++ first) ++ second) rest (table + 10 * r + 4) count two (omega (arith, long, longer, longest)) c;
      }

  -- the rows of arrays from row r on, whose bytes stand one after another from a place on
  abbrev pub RowsAre : ℕ → ℕ → List Valued → Type 0
  RowsAre r at [] = ⊤
  RowsAre r at (a ∷ as') =
      RowIs r (place_of at a) (leaf_bytes (element_of a.0)) (length (elements a.1)) × RowsAre (r + 1) (at + length (list_bytes_of a)) as'

  place_small : (at : ℕ) (a : Valued) → at ≤ 32768 → place_of at a < 2 ^ 16
  place_small at (s, v) le = by (length (elements v) == 0)
    where
      by : (b : Bool) → cond b 65535 at < 2 ^ 16
      by true = omega arith
      by false = omega (arith, le)

  length-row : (place stride count : ℕ) → length (row_bytes place stride count) ≡ 10
  length-row place stride count = refl

  pub rows_are : (before behind : List ℕ) (r at : ℕ) (as' : List Valued) → bytes ≡ before ++ (rows_from at as' ++ behind) → length before ≡ table + 10 * r
      → AreSmall as' → at + length (lists_bytes as') ≤ 32768 → RowsAre r at as'
  rows_are before behind r at [] e long small room = tt
  rows_are before behind r at (a ∷ as') e long small room =
      let place = place_of at a in
      let stride = leaf_bytes (element_of a.0) in
      let count = length (elements a.1) in
      let next = at + length (list_bytes_of a) in
      let one = row_bytes place stride count in
      let rest = rows_from next as' in
      let here : bytes ≡ before ++ (one ++ (rest ++ behind)) = e ∙ ap (λ l. before ++ l) (append_assoc one rest behind) in
      let later : bytes ≡ (before ++ one) ++ (rest ++ behind) = here ∙ sym (append_assoc before one (rest ++ behind)) in
      let sum = length-append (list_bytes_of a) (lists_bytes as') in
      let longer = length-append before one in
      let ten = length-row place stride count in (
        row_read before (rest ++ behind) r place stride count here long (place_small at a (omega (arith, room))) small.0 small.1,
        rows_are (before ++ one) behind (r + 1) next as' later (omega (arith, long, longer, ten)) small.2 (omega (arith, room, sum)),
      )

-- ---- lists

-- these bytes stand at a place
pub record StandsAt (bytes : List ℕ) (at : ℕ) (xs : List ℕ) : Type 0 where
  pub before : List ℕ
  pub behind : List ℕ
  pub whole : bytes ≡ before ++ (xs ++ behind)
  pub long : length before ≡ at

-- the bytes of lists stand one after another from a place on
abbrev pub ListsAre : List ℕ → ℕ → List Valued → Type 0
ListsAre bytes at [] = ⊤
ListsAre bytes at (a ∷ as') = StandsAt bytes at (list_bytes_of a) × ListsAre bytes (at + length (list_bytes_of a)) as'

pub lists_are : (bytes before behind : List ℕ) (at : ℕ) (as' : List Valued) → bytes ≡ before ++ (lists_bytes as' ++ behind) → length before ≡ at → ListsAre bytes at as'
lists_are bytes before behind at [] e long = tt
lists_are bytes before behind at (a ∷ as') e long =
    let one = list_bytes_of a in
    let rest = lists_bytes as' in
    let here : bytes ≡ before ++ (one ++ (rest ++ behind)) = e ∙ ap (λ l. before ++ l) (append_assoc one rest behind) in (
      record { before = before; behind = rest ++ behind; whole = here; long = long },
      lists_are bytes (before ++ one) behind (at + length one) as' (here ∙ sym (append_assoc before one (rest ++ behind))) (length-append before one ∙ ap (λ n. n + length one) long),
    )

pub length-rows : (at : ℕ) (as' : List Valued) → length (rows_from at as') ≡ 10 * length as'
length-rows at [] = refl
length-rows at (a ∷ as') =
    let one = row_bytes (place_of at a) (leaf_bytes (element_of a.0)) (length (elements a.1)) in
    let rest = rows_from (at + length (list_bytes_of a)) as' in
    by (length as') (length rest) (length (one ++ rest)) (length-append one rest) (length-rows (at + length (list_bytes_of a)) as')
  where
    by : (n a b : ℕ) → b ≡ 10 + a → a ≡ 10 * n → b ≡ 10 * suc n
    by n a b e f = omega (arith, e, f)

-- ---- arrays

module _ (bytes : List ℕ) (table rows : ℕ) where
  -- row r of the table is that of the array, and the bytes of its list stand there
  pub record ArrayIs (r at : ℕ) (a : Valued) : Type 0 where
    pub row : RowIs bytes table r (place_of at a) (leaf_bytes (element_of a.0)) (length (elements a.1))
    pub list : StandsAt bytes at (list_bytes_of a)
    pub some : 0 < r
    pub below : r < rows

  -- those of arrays from row r on
  abbrev pub ArraysAre : ℕ → ℕ → List Valued → Type 0
  ArraysAre r at [] = ⊤
  ArraysAre r at (a ∷ as') = ArrayIs r at a × ArraysAre (r + 1) (at + length (list_bytes_of a)) as'

  pub arrays_are : (r at : ℕ) (as' : List Valued) → RowsAre bytes table r at as' → ListsAre bytes at as' → 0 < r → r + length as' ≤ rows → ArraysAre r at as'
  arrays_are r at [] a b some below = tt
  arrays_are r at (x ∷ as') a b some below = (
    record { row = a.0; list = b.0; some = some; below = omega (arith, below) },
    arrays_are (r + 1) (at + length (list_bytes_of x)) as' a.1 b.1 (omega (arith, some)) (omega (arith, below)),
  )

  pub arrays_parts : (r at : ℕ) (xs ys : List Valued) → ArraysAre r at (xs ++ ys) → ArraysAre r at xs × ArraysAre (r + length xs) (at + length (lists_bytes xs)) ys
  arrays_parts r at [] ys h =
      let same : r ≡ r + 0 = omega arith in
      let here : at ≡ at + 0 = omega arith in
      (tt, subst (λ n. ArraysAre n (at + 0) ys) same (subst (λ n. ArraysAre r n ys) here h))
  arrays_parts r at (x ∷ xs) ys h =
      let rest = arrays_parts (r + 1) (at + length (list_bytes_of x)) xs ys h.1 in
      let same : r + 1 + length xs ≡ r + length (x ∷ xs) = omega arith in
      let sum = length-append (list_bytes_of x) (lists_bytes xs) in
      let here : at + length (list_bytes_of x) + length (lists_bytes xs) ≡ at + length (lists_bytes (x ∷ xs)) = omega (arith, sum) in
      ((h.0, rest.0), subst (λ n. ArraysAre n (at + length (lists_bytes (x ∷ xs))) ys) same (subst (λ n. ArraysAre (r + 1 + length xs) n ys) here rest.1))
