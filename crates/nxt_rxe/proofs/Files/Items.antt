-- Bytes as items one behind another.
use Rattle.std.proofs.Common.{◌≡◌, ℕ, zero, suc, ◌+◌, ◌-◌, ◌*◌, ◌/◌, ◌%◌, ◌^◌, ◌<◌, ◌≤◌, List, [], ◌∷◌, ◌++◌, length, take, drop, refl, sym, ap, ap₂, ◌∙◌, arith}
use Rattle.std.specs.List.{AllByRecursion}
use Rattle.std.specs.Prelude.{flat_map, slice_range}
use Rattle.nxt_rxe.specs.Files.{two_bytes, entry_bytes, clump_bytes, EntryFits, ClumpFits}
use Rattle.nxt_rxe.proofs.Files.Found.{IsBytes}

-- each is a byte
abbrev pub Bytes : List ℕ → Type 0
Bytes [] = Unit {0}
Bytes (x ∷ xs) = (x < 256) × Bytes xs

pub bytes_from : (xs : List ℕ) → IsBytes xs → Bytes xs
bytes_from [] b = tt
bytes_from (x ∷ xs) b = (b 0, bytes_from xs (λ i. b (suc i)))

pub bytes_in_take : (n : ℕ) (xs : List ℕ) → Bytes xs → Bytes (take n xs)
bytes_in_take zero xs b = tt
bytes_in_take (suc n) [] b = tt
bytes_in_take (suc n) (x ∷ xs) b = (b.0, bytes_in_take n xs b.1)

pub bytes_in_drop : (n : ℕ) (xs : List ℕ) → Bytes xs → Bytes (drop n xs)
bytes_in_drop zero xs b = b
bytes_in_drop (suc n) [] b = tt
bytes_in_drop (suc n) (x ∷ xs) b = bytes_in_drop n xs b.1

pub bytes_between : (xs : List ℕ) (i j : ℕ) → Bytes xs → Bytes (slice_range xs i j)
bytes_between xs i j b = bytes_in_take (j - i) (drop i xs) (bytes_in_drop i xs b)

-- an item of k bytes at the front, and the bytes behind it
pub record Front {X : Type 0} (item : X → List ℕ) (Fit : X → Type 0) (k : ℕ) (bs : List ℕ) : Type 0 where
  pub first : X
  pub rest : List ℕ
  pub split : bs ≡ item first ++ rest
  pub fits : Fit first
  pub bytes : Bytes rest
  pub size : length bs ≡ k + length rest

-- n times k
abbrev pub times : ℕ → ℕ → ℕ
times k zero = 0
times k (suc n) = k + times k n

pub items : {X : Type 0} (item : X → List ℕ) (Fit : X → Type 0) (k : ℕ) → ((bs : List ℕ) → Bytes bs → k ≤ length bs → Front item Fit k bs) →
    (n : ℕ) (bs : List ℕ) → Bytes bs → length bs ≡ times k n → (xs : List X) × (flat_map item xs ≡ bs) × AllByRecursion Fit xs
items item Fit k front zero [] b e = ([], refl, tt)
items item Fit k front zero (x ∷ bs) b e = absurd (omega (arith, e))
items item Fit k front (suc n) bs b e =
    let f = front bs b (omega (arith, e)) in
    let more = items item Fit k front n f.rest f.bytes (let s = f.size in omega (arith, e, s)) in
    (f.first ∷ more.0, ap (λ l. item f.first ++ l) more.1 ∙ sym f.split, (f.fits, more.2))

pub two_at : (low high : ℕ) → low < 256 → high < 256 → two_bytes (low + 256 * high) ≡ low ∷ high ∷ []
two_at low high a b =
    let first : (low + 256 * high) % 256 ≡ low = omega (arith, a, b) in
    let second : (low + 256 * high) / 256 % 256 ≡ high = omega (arith, a, b) in
    ap₂ (λ (x y : ℕ). x ∷ y ∷ []) first second

pub entry_front : (bs : List ℕ) → Bytes bs → 4 ≤ length bs → Front entry_bytes EntryFits 4 bs
entry_front [] b few = absurd (omega (arith, few))
entry_front (x ∷ []) b few = absurd (omega (arith, few))
entry_front (x ∷ y ∷ []) b few = absurd (omega (arith, few))
entry_front (x ∷ y ∷ z ∷ []) b few = absurd (omega (arith, few))
entry_front (x ∷ y ∷ low ∷ high ∷ bs) b few =
    let a = b.1.1.0 in
    let h = b.1.1.1.0 in
    let first = b.0 in
    let second = b.1.0 in
    record {
      first = record { code = x; flags = y; desc = low + 256 * high };
      rest = bs;
      split = ap (λ l. x ∷ y ∷ l ++ bs) (sym (two_at low high a h));
      fits = (omega (arith, first), omega (arith, second), omega (arith, a, h));
      bytes = b.1.1.1.1;
      size = omega arith;
    }

pub clump_front : (bs : List ℕ) → Bytes bs → 4 ≤ length bs → Front clump_bytes ClumpFits 4 bs
clump_front [] b few = absurd (omega (arith, few))
clump_front (x ∷ []) b few = absurd (omega (arith, few))
clump_front (x ∷ y ∷ []) b few = absurd (omega (arith, few))
clump_front (x ∷ y ∷ z ∷ []) b few = absurd (omega (arith, few))
clump_front (x ∷ y ∷ low ∷ high ∷ bs) b few =
    let a = b.1.1.0 in
    let h = b.1.1.1.0 in
    let first = b.0 in
    let second = b.1.0 in
    record {
      first = record { fire = x; dependents = y; start = low + 256 * high };
      rest = bs;
      split = ap (λ l. x ∷ y ∷ l ++ bs) (sym (two_at low high a h));
      fits = (omega (arith, first), omega (arith, second), omega (arith, a, h));
      bytes = b.1.1.1.1;
      size = omega arith;
    }

pub word_front : (bs : List ℕ) → Bytes bs → 2 ≤ length bs → Front two_bytes (λ w. w < 2 ^ 16) 2 bs
word_front [] b few = absurd (omega (arith, few))
word_front (x ∷ []) b few = absurd (omega (arith, few))
word_front (low ∷ high ∷ bs) b few =
    let a = b.0 in
    let h = b.1.0 in
    record {
      first = low + 256 * high;
      rest = bs;
      split = ap (λ l. l ++ bs) (sym (two_at low high a h));
      fits = omega (arith, a, h);
      bytes = b.1.1;
      size = omega arith;
    }

pub times_four : (n : ℕ) → times 4 n ≡ 4 * n
times_four zero = refl
times_four (suc n) = omega (arith, times_four n)

pub times_two : (n : ℕ) → times 2 n ≡ 2 * n
times_two zero = refl
times_two (suc n) = omega (arith, times_two n)
