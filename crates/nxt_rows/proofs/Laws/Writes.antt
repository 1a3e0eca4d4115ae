-- Rows after bytes of the pool are written.
use Rattle.std.proofs.Common.{◌≡◌, ◌≢◌, ℕ, ◌+◌, ◌*◌, ◌<◌, ◌≤◌, List, slice_index, refl, arith, inl, inr, Fits, w8, get_or}
use Rattle.std.proofs.lemmas.Bool.{cases_order}
use Rattle.std.specs.List.{SameBelow, SameFrom}
use Rattle.nxt_types.specs.Bytes.{u16_at}
use Rattle.nxt_rows.specs.declared.DopeRow.{DopeRow}
use Rattle.nxt_rows.specs.Rows.{dope_row, row_count}

pub u16_at-kept : (xs ys : List ℕ) (at : ℕ) → ((k : ℕ) → at ≤ k → k < at + 2 → slice_index ys k ≡ slice_index xs k) → u16_at ys at ≡ u16_at xs at
u16_at-kept xs ys at same =
    let low : slice_index ys at ≡ slice_index xs at = same at (omega arith) (omega arith) in
    let high : slice_index ys (at + 1) ≡ slice_index xs (at + 1) = same (at + 1) (omega arith) (omega arith) in
    rw (low, high) refl

-- a row whose ten bytes stay is as it was
pub dope_row-kept : (xs ys : List ℕ) (table r : ℕ)
    → ((k : ℕ) → table + 10 * r ≤ k → k < table + 10 * r + 10 → slice_index ys k ≡ slice_index xs k)
    → dope_row ys table r ≡ dope_row xs table r
unfolding dope_row
dope_row-kept xs ys table r same =
    let at = table + 10 * r in
    let e0 : u16_at ys at ≡ u16_at xs at = u16_at-kept xs ys at (λ k low high. same k (omega arith) (omega arith)) in
    let e2 : u16_at ys (at + 2) ≡ u16_at xs (at + 2) = u16_at-kept xs ys (at + 2) (λ k low high. same k (omega arith) (omega arith)) in
    let e4 : u16_at ys (at + 4) ≡ u16_at xs (at + 4) = u16_at-kept xs ys (at + 4) (λ k low high. same k (omega arith) (omega arith)) in
    let e6 : u16_at ys (at + 6) ≡ u16_at xs (at + 6) = u16_at-kept xs ys (at + 6) (λ k low high. same k (omega arith) (omega arith)) in
    let e8 : u16_at ys (at + 8) ≡ u16_at xs (at + 8) = u16_at-kept xs ys (at + 8) (λ k low high. same k (omega arith) (omega arith)) in
    rw (e0, e2, e4, e6, e8) refl

-- a row stays where another is written
pub dope_row-other : (xs ys : List ℕ) (table row r : ℕ) → SameBelow xs ys (table + 10 * row) → SameFrom xs ys (table + 10 * row + 10)
    → r ≢ row → dope_row ys table r ≡ dope_row xs table r
dope_row-other xs ys table row r below above other = dope_row-kept xs ys table r (λ k low high.
    elim (cases_order r row) [
      | inl same ↦ absurd (other same)
      | inr apart ↦ elim apart [
        | inl before ↦ below k 0 (omega arith)
        | inr after ↦ above k 0 (omega arith)
      ]
    ])

-- a row that is written number by number
pub dope_row-written : (xs : List ℕ) (table row at : ℕ) (to : DopeRow) → at ≡ table + 10 * row
    → u16_at xs at ≡ to.place → u16_at xs (at + 2) ≡ to.stride → u16_at xs (at + 4) ≡ to.count → u16_at xs (at + 6) ≡ to.back
    → u16_at xs (at + 8) ≡ to.link → dope_row xs table row ≡ to
unfolding dope_row
dope_row-written xs table row at to here place stride count back link =
    rw (← here) (rw (place, stride, count, back, link) refl)

-- the number of rows fits 16 bits
pub u16_at-fits : (pool : List ℕ) (at : ℕ) → ((i : ℕ) → Fits w8 (get_or pool i 0)) → u16_at pool at < 65536
u16_at-fits pool at fits = let low = fits at in let high = fits (at + 1) in omega (arith, low, high)

pub row_count-fits : (pool : List ℕ) (table : ℕ) → ((i : ℕ) → Fits w8 (get_or pool i 0)) → row_count pool table < 65536
unfolding dope_row
row_count-fits pool table fits = u16_at-fits pool (table + 10 * 0 + 4) fits
