-- Parts of a pool, and the bytes of rows.
use Rattle.std.proofs.Common.{◌≡◌, ℕ, ◌+◌, ◌*◌, ◌<◌, ◌≤◌, List, length, take, drop, get_or, refl, ap, sym, ◌∙◌, arith, length-take, length-drop, mul-zero, zero-mul}
use Rattle.std.proofs.lemmas.Grind.{same_number_lists}
use Rattle.std.proofs.lemmas.List.{get_or-take, get_or-drop}
use Rattle.nxt_types.specs.Pool.{round4}
use Rattle.nxt_types.proofs.Laws.Pool.{le-round4}
use Rattle.nxt_rows.specs.declared.DopeRow.{DopeRow}
use Rattle.nxt_compact.specs.Pools.{block_bytes}
use Rattle.nxt_heap.specs.Inside.Pool.{row_bytes}

pub length-window : (pool : List ℕ) (at n : ℕ) → at + n ≤ length pool → length (take n (drop at pool)) ≡ n
length-window pool at n within = omega (arith, length-take n (drop at pool), length-drop at pool)

-- two parts with the same bytes
pub same_window : (xs ys : List ℕ) (a b n : ℕ) → a + n ≤ length xs → b + n ≤ length ys
    → ((k : ℕ) → k < n → get_or ys (b + k) 0 ≡ get_or xs (a + k) 0) → take n (drop b ys) ≡ take n (drop a xs)
same_window xs ys a b n in_xs in_ys same =
    let long : length (take n (drop b ys)) ≡ n = length-window ys b n in_ys in
    same_number_lists (take n (drop b ys)) (take n (drop a xs)) (long ∙ sym (length-window xs a n in_xs)) (λ k below.
    let inside : k < n = omega arith in
    get_or-take n (drop b ys) k 0 inside ∙ get_or-drop b ys k 0 ∙ same k inside
    ∙ sym (get_or-take n (drop a xs) k 0 inside ∙ get_or-drop a xs k 0))

pub le-block : (row : DopeRow) → row_bytes row ≤ block_bytes row
unfolding block_bytes
le-block row = le-round4 (row_bytes row)

pub block_is : (row : DopeRow) → block_bytes row ≡ round4 (row_bytes row)
unfolding block_bytes
block_is row = refl

pub row_bytes-none : (row : DopeRow) → row.count ≡ 0 → row_bytes row ≡ 0
row_bytes-none row none = ap (λ n. n * row.stride) none ∙ zero-mul row.stride

pub row_bytes-free : (row : DopeRow) → row.stride ≡ 0 → row_bytes row ≡ 0
row_bytes-free row none = ap (λ n. row.count * n) none ∙ mul-zero row.count

pub block-none : (row : DopeRow) → row_bytes row ≡ 0 → block_bytes row ≡ 0
unfolding block_bytes
block-none row none = ap round4 none
