-- The table of rows of an assembled text, as it is read.
use Rattle.std.proofs.Common.{◌≡◌, ℕ, suc, ◌+◌, ◌*◌, ◌<◌, ◌≤◌, List, [], ◌∷◌, ◌++◌, length, sym, ap, subst, ◌∙◌, append_assoc, append-nil, arith, length-append}
use Rattle.nxt_asm_parts.specs.AssembledParts.{Valued, dynamic_of, row_bytes, rows_from}
use Rattle.nxt_asm_parts.specs.Lists.{AreSmall, lists_bytes}
use Rattle.nxt_asm_laws_layout.proofs.RowsRead.{ArraysAre, RowIs, arrays_are, length-rows, lists_are, row_read, rows_are}

-- the table has a row of its own, and one for each array
pub record HasRows (bytes : List ℕ) (table : ℕ) (as' : List Valued) : Type 0 where
  pub own : RowIs bytes table 0 table 10 (length as' + 1)
  pub arrays : ArraysAre bytes table (length as' + 1) 1 (table + 10 * (length as' + 1)) as'
  pub ends : table + 10 * (length as' + 1) + length (lists_bytes as') ≡ length bytes

-- the dynamic bytes behind the static ones
rows_of : (bytes static : List ℕ) (n c : ℕ) (as' : List Valued) → bytes ≡ static ++ ((row_bytes n 10 c ++ rows_from (n + 10 * c) as') ++ lists_bytes as') → length static ≡ n
    → c ≡ length as' + 1 → AreSmall as' → n + length ((row_bytes n 10 c ++ rows_from (n + 10 * c) as') ++ lists_bytes as') ≤ 32768 → HasRows bytes n as'
rows_of bytes static n c as' whole long many small room =
    let first = row_bytes n 10 c in
    let rows = rows_from (n + 10 * c) as' in
    let lists = lists_bytes as' in
    let here : bytes ≡ static ++ (first ++ (rows ++ lists)) = whole ∙ ap (λ l. static ++ l) (append_assoc first rows lists) in
    let later : bytes ≡ (static ++ first) ++ (rows ++ lists) = here ∙ sym (append_assoc static first (rows ++ lists)) in
    let last : bytes ≡ ((static ++ first) ++ rows) ++ lists = later ∙ sym (append_assoc (static ++ first) rows lists) in
    let ended : bytes ≡ ((static ++ first) ++ rows) ++ (lists ++ []) = last ∙ ap (λ l. ((static ++ first) ++ rows) ++ l) (sym (append-nil lists)) in
    let a : length (static ++ first) ≡ length static + 10 = length-append static first in
    let b : length ((static ++ first) ++ rows) ≡ length (static ++ first) + length rows = length-append (static ++ first) rows in
    let c' : length rows ≡ 10 * length as' = length-rows (n + 10 * c) as' in
    let d : length (((static ++ first) ++ rows) ++ lists) ≡ length ((static ++ first) ++ rows) + length lists = length-append ((static ++ first) ++ rows) lists in
    let e : length ((first ++ rows) ++ lists) ≡ length (first ++ rows) + length lists = length-append (first ++ rows) lists in
    let f : length (first ++ rows) ≡ 10 + length rows = length-append first rows in
    let fits : n + 10 * c + length lists ≤ 32768 = omega (arith, room, c', e, f, many) in
    let behind : length ((static ++ first) ++ rows) ≡ n + 10 * c = omega (arith, a, b, c', long, many) in
    let top : length static ≡ n + 10 * 0 = omega (arith, long) in
    let next : length (static ++ first) ≡ n + 10 * 1 = omega (arith, a, long) in
    let own : RowIs bytes n 0 n 10 c = row_read bytes n static (rows ++ lists) 0 n 10 c here top (omega (arith, fits)) (omega arith) (omega (arith, fits)) in
    let all : ArraysAre bytes n c 1 (n + 10 * c) as' =
    arrays_are bytes n c 1 (n + 10 * c) as' (rows_are bytes n (static ++ first) lists 1 (n + 10 * c) as' later next small fits)
    (lists_are bytes ((static ++ first) ++ rows) [] (n + 10 * c) as' ended behind) (omega arith) (omega (arith, many)) in
    let long' = ap length last in
    record {
      own = subst (RowIs bytes n 0 n 10) many own;
      arrays = subst (λ k. ArraysAre bytes n k 1 (n + 10 * k) as') many all;
      ends = omega (arith, long', d, behind, many);
    }

-- by the arrays
pub has_rows : (bytes static : List ℕ) (n : ℕ) (as' : List Valued) → bytes ≡ static ++ dynamic_of n as' → length static ≡ n → AreSmall as' → n + length (dynamic_of n as') ≤ 32768
    → 0 < length as' → HasRows bytes n as'
has_rows bytes static n [] whole long small room some = absurd (omega (arith, some))
has_rows bytes static n (a ∷ as') whole long small room some =
    rows_of bytes static n (length as' + 2) (a ∷ as') whole long (two (length as')) small room
  where
    two : (k : ℕ) → k + 2 ≡ suc k + 1
    two k = omega arith
