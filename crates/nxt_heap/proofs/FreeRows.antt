-- Which rows are free, by the chain and by the lists.
use Rattle.std.proofs.Common.{◌≡◌, ◌≢◌, ℕ, ◌+◌, ◌-◌, ◌<◌, true, false, List, [], ◌∷◌, ◌++◌, length, map, set, nat_eq, Option, None, refl, ap, sym, ◌∙◌, arith, length-append}
use Rattle.std.proofs.Math.Seq.{get_or-append_seam}
use Rattle.std.proofs.lemmas.Bool.{eq-eqb, eqb-true, eqb-false, or_left, false≢true}
use Rattle.std.proofs.lemmas.List.Folds.{list_any_none, list_any-from_Any}
use Rattle.std.proofs.lemmas.List.FromFn.{length-map-range_with_len, get_or-map-range_with_len}
use Rattle.std.proofs.lemmas.List.Elements.{All-head}
use Rattle.std.specs.Prelude.{is_none}
use Rattle.std.specs.List.{list_any, range_with_len}
use Rattle.nxt_rows.specs.Rows.{dope_row, row_count, free_rows}
use Rattle.nxt_rows.proofs.Laws.FreeRows.{free_rows-zero}
use Rattle.nxt_heap.specs.Lists.{ByteList, any_free, with_free, IsFree}
use Rattle.nxt_heap.specs.Inside.Pool.{list_in, lists_in, IsPool}
use Rattle.nxt_heap.proofs.ListsKept.{list_in-none, list_in-some, lists_in-first, length-lists_in, lists_in-at}

later : List ℕ → ℕ → List (Option ByteList)
later pool table = map (list_in pool table) (range_with_len 1 (row_count pool table - 1))

pub any_free-full : (pool : List ℕ) (table base : ℕ) → IsPool pool table base → free_rows pool table ≡ [] → any_free (lists_in pool table) ≡ false
unfolding later
any_free-full pool table base d none =
    let n = row_count pool table in
    let xs = later pool table in
    let long : length xs ≡ n - 1 = length-map-range_with_len (list_in pool table) 1 (n - 1) in
    ap any_free (lists_in-first pool table d.sound.some) ∙ list_any_none is_none xs (λ k o below.
    let inside : k < n - 1 = omega (arith, below, long) in
    let within : 1 + k < n = omega arith in
    let here = get_or-map-range_with_len (list_in pool table) 1 (n - 1) k (1 + k) o inside refl in
    let stride : nat_eq (dope_row pool table (1 + k)).stride 0 ≡ false =
    sym (d.free (1 + k) (omega arith) within) ∙ ap (list_any (nat_eq (1 + k))) none in
    ap is_none (here ∙ list_in-some pool table (1 + k) (omega arith) (eqb-false (dope_row pool table (1 + k)).stride 0 stride)))

-- the front of the chain
pub record Front (pool : List ℕ) (table row : ℕ) : Type 0 where
  pub any : any_free (lists_in pool table) ≡ true
  pub free : IsFree (lists_in pool table) row
  pub within : row < row_count pool table
  pub stride : (dope_row pool table row).stride ≡ 0

pub any_free-front : (pool : List ℕ) (table base row : ℕ) (rest : List ℕ) → IsPool pool table base → free_rows pool table ≡ row ∷ rest → Front pool table row
unfolding later
any_free-front pool table base row rest d front =
    let n = row_count pool table in
    let xs = later pool table in
    let member : list_any (nat_eq row) (free_rows pool table) ≡ true =
    ap (list_any (nat_eq row)) front ∙ or_left (nat_eq row row) (list_any (nat_eq row) rest) (eq-eqb row row refl) in
    let within : row < n = All-head (λ r. r < n) row rest (rw front at d.chain.within) in
    let some : row ≢ 0 = λ e. false≢true (sym (free_rows-zero pool table) ∙ ap (λ q. list_any (nat_eq q) (free_rows pool table)) (sym e) ∙ member) in
    let above : 0 < row = omega arith in
    let stride : (dope_row pool table row).stride ≡ 0 = eqb-true (dope_row pool table row).stride 0 (sym (d.free row above within) ∙ member) in
    let none = list_in-none pool table row stride in
    let long : length xs ≡ n - 1 = length-map-range_with_len (list_in pool table) 1 (n - 1) in
    let inside : row - 1 < n - 1 = omega arith in
    record {
      any = ap any_free (lists_in-first pool table d.sound.some) ∙ list_any-from_Any is_none xs
          (row - 1, None, omega (arith, long, inside), get_or-map-range_with_len (list_in pool table) 1 (n - 1) (row - 1) row None inside (omega arith) ∙ none, refl);
      free = record {
        above = above;
        within = omega (arith, length-lists_in pool table);
        empty = lists_in-at pool table row None within ∙ none;
      };
      within = within;
      stride = stride;
    }

-- a row more, at the end
pub with_free-full : (lists : List (Option ByteList)) → any_free lists ≡ false → with_free lists ≡ lists ++ None ∷ []
with_free-full lists full = rw full refl

pub with_free-free : (lists : List (Option ByteList)) → any_free lists ≡ true → with_free lists ≡ lists
with_free-free lists free = rw free refl

pub set-last : {X : Type 0} → (xs : List X) (a b : X) → set (xs ++ a ∷ []) (length xs) b ≡ xs ++ b ∷ []
set-last [] a b = refl
set-last (x ∷ xs) a b = ap (λ ys. x ∷ ys) (set-last xs a b)

pub free-last : (lists : List (Option ByteList)) → 0 < length lists → IsFree (lists ++ None ∷ []) (length lists)
free-last lists some = record {
  above = some;
  within = omega (arith, length-append lists (None ∷ []));
  empty = get_or-append_seam lists None [] None;
}
