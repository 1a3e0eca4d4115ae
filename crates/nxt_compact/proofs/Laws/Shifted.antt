-- Rows of a table that stands somewhere else.
use Rattle.std.proofs.Common.{◌≡◌, ℕ, ◌+◌, ◌*◌, ◌<◌, ◌≤◌, List, slice_index, refl, ap, ◌∙◌, arith}
use Rattle.nxt_types.specs.Pool.{round4}
use Rattle.nxt_rows.specs.declared.DopeRow.{DopeRow}
use Rattle.nxt_types.specs.Bytes.{u16_at}
use Rattle.nxt_rows.specs.Rows.{dope_row}
use Rattle.nxt_compact.specs.Pools.{block_bytes}

u16_at-shifted : (xs ys : List ℕ) (p q : ℕ) → ((i : ℕ) → i < 2 → slice_index ys (q + i) ≡ slice_index xs (p + i)) → u16_at ys q ≡ u16_at xs p
u16_at-shifted xs ys p q same =
    let low : slice_index ys q ≡ slice_index xs p = ap (slice_index ys) (omega arith) ∙ same 0 (omega arith) ∙ ap (slice_index xs) (omega arith) in
    let high : slice_index ys (q + 1) ≡ slice_index xs (p + 1) = same 1 (omega arith) in
    rw (low, high) refl

part : (xs ys : List ℕ) (p q n : ℕ) → ((i : ℕ) → i < 10 → slice_index ys (q + i) ≡ slice_index xs (p + i)) → n ≤ 8 → u16_at ys (q + n) ≡ u16_at xs (p + n)
part xs ys p q n same l = u16_at-shifted xs ys (p + n) (q + n) (λ i h. ap (slice_index ys) (omega arith) ∙ same (n + i) (omega (arith, l, h)) ∙ ap (slice_index xs) (omega arith))

pub dope_row-shifted : (xs ys : List ℕ) (table at r : ℕ) → ((i : ℕ) → i < 10 → slice_index ys (at + 10 * r + i) ≡ slice_index xs (table + 10 * r + i)) → dope_row ys at r ≡ dope_row xs table r
unfolding dope_row
dope_row-shifted xs ys table at r same =
    let p = table + 10 * r in
    let q = at + 10 * r in
    let e0 : u16_at ys q ≡ u16_at xs p = u16_at-shifted xs ys p q (λ i h. same i (omega (arith, h))) in
    let e2 : u16_at ys (q + 2) ≡ u16_at xs (p + 2) = part xs ys p q 2 same (omega arith) in
    let e4 : u16_at ys (q + 4) ≡ u16_at xs (p + 4) = part xs ys p q 4 same (omega arith) in
    let e6 : u16_at ys (q + 6) ≡ u16_at xs (p + 6) = part xs ys p q 6 same (omega arith) in
    let e8 : u16_at ys (q + 8) ≡ u16_at xs (p + 8) = part xs ys p q 8 same (omega arith) in
    rw (e0, e2, e4, e6, e8) refl

pub le-round4 : (n : ℕ) → n ≤ round4 n
le-round4 n = omega arith

pub bytes_of_table : (row : DopeRow) → row.stride ≡ 10 → 10 * row.count ≤ block_bytes row
unfolding block_bytes
bytes_of_table row ten = let n = le-round4 (row.count * row.stride) in let e : row.count * row.stride ≡ 10 * row.count = ap (λ s. row.count * s) ten ∙ omega arith in omega (arith, n, e)
