-- Where the bytes of rows lie: one behind another.
use Rattle.std.proofs.Common.{◌≡◌, ℕ, zero, suc, ◌+◌, ◌*◌, ◌<◌, ◌≤◌, ◌⊎◌, inl, inr, Bool, true, false, ◌||◌, ◌==◌, List, [], ◌∷◌, ◌++◌, length, refl, sym, ap, subst, arith, length-append, true≢false, ne_eqb, eqb-true}
use Rattle.std.specs.List.{list_any}
use Rattle.std.proofs.lemmas.Bool.{cases_lt}
use Rattle.nxt_model.specs.Values.{elements}
use Rattle.nxt_model.specs.Reading.{Memory, dope_row, row_count}
use Rattle.nxt_asm_parts.specs.AssembledParts.{Valued, list_bytes_of}
use Rattle.nxt_asm_parts.specs.Lists.{lists_bytes}
use Rattle.nxt_facts.proofs.Each.{Each}
use Rattle.nxt_facts.proofs.Sums.{bit, is_it, tally}
use Rattle.nxt_asm_laws_layout.proofs.RowsRead.{ArrayIs, ArraysAre}
use Rattle.nxt_asm_laws_layout.proofs.ListBlocks.{IsSized, block_at}
use Rattle.nxt_asm_laws_layout.proofs.Numbers.{counted}

-- ---- numbers in a row

none_counted : (r a n : ℕ) → r < a → tally (is_it r) (counted a n) ≡ 0
none_counted r a zero less = refl
none_counted r a (suc n) less =
    let rest = none_counted r (a + 1) n (omega (arith, less)) in
    let none : bit (a == r) ≡ 0 = ap bit (ne_eqb a r (λ e. omega (arith, e, less))) in
    omega (arith, rest, none)

-- each is there once
pub counted_once : (r a n : ℕ) → tally (is_it r) (counted a n) ≤ 1
counted_once r a zero = omega arith
counted_once r a (suc n) = by (a == r) refl (counted_once r (a + 1) n)
  where
    by : (b : Bool) → (a == r) ≡ b → tally (is_it r) (counted (a + 1) n) ≤ 1 → bit b + tally (is_it r) (counted (a + 1) n) ≤ 1
    by false e rest = omega (arith, rest)
    by true e more =
        let same : a ≡ r = eqb-true a r e in
        let rest = none_counted r (a + 1) n (omega (arith, same)) in omega (arith, rest)

-- one that is there
pub counted_within : (r a n : ℕ) → list_any (λ q. q == r) (counted a n) ≡ true → (a ≤ r) × (r < a + n)
counted_within r a zero e = absurd (true≢false (sym e))
counted_within r a (suc n) e = by (a == r) refl e (counted_within r (a + 1) n)
  where
    by : (b : Bool) → (a == r) ≡ b → (b || list_any (λ q. q == r) (counted (a + 1) n)) ≡ true
        → (list_any (λ q. q == r) (counted (a + 1) n) ≡ true → (a + 1 ≤ r) × (r < a + 1 + n)) → (a ≤ r) × (r < a + suc n)
    by true f h rest = let same : a ≡ r = eqb-true a r f in (omega (arith, same), omega (arith, same))
    by false f h rest = let two = rest h in (omega (arith, two.0), omega (arith, two.1))

-- ---- spans

module _ (m : Memory) where
  -- a row with elements lies between two places
  abbrev pub Lies : ℕ → ℕ → ℕ → Type 0
  Lies r low high = 0 < (dope_row m r).count → (low ≤ (dope_row m r).place) × ((dope_row m r).place + (dope_row m r).count * (dope_row m r).stride ≤ high)

  own_lies : (r at : ℕ) (a : Valued) → ArrayIs m.bytes m.table (row_count m) r at a → IsSized a → Lies r at (at + length (list_bytes_of a))
  own_lies r at a h sized full =
      let some : 0 < length (elements a.1) = subst (λ n. 0 < n) h.row.count_is full in
      let two = block_at m r at a h sized some in
      (omega (arith, two.0), omega (arith, two.0, two.1))

  lies_more : (r low high first last : ℕ) → first ≤ low → high ≤ last → Lies r low high → Lies r first last
  lies_more r low high first last le ge h full = let two = h full in (omega (arith, le, two.0), omega (arith, ge, two.1))

  -- each row of arrays
  pub rows_lie : (a at : ℕ) (as' : List Valued) → ArraysAre m.bytes m.table (row_count m) a at as' → Each IsSized as' → (r : ℕ) → a ≤ r → r < a + length as'
      → Lies r at (at + length (lists_bytes as'))
  rows_lie a at [] h sized r low high = absurd (omega (arith, low, high))
  rows_lie a at (x ∷ as') h sized r low high = by (cases_lt a r) (rows_lie (a + 1) (at + length (list_bytes_of x)) as' h.1 sized.1 r)
    where
      sum : length (list_bytes_of x ++ lists_bytes as') ≡ length (list_bytes_of x) + length (lists_bytes as')
      sum = length-append (list_bytes_of x) (lists_bytes as')

      by : (a < r) ⊎ (r ≤ a) → (a + 1 ≤ r → r < a + 1 + length as' → Lies r (at + length (list_bytes_of x)) (at + length (list_bytes_of x) + length (lists_bytes as')))
          → Lies r at (at + length (lists_bytes (x ∷ as')))
      by (inl less) rest =
          lies_more r (at + length (list_bytes_of x)) (at + length (list_bytes_of x) + length (lists_bytes as')) at (at + length (lists_bytes (x ∷ as')))
          (omega arith) (omega (arith, sum)) (rest (omega (arith, less)) (omega (arith, high)))
      by (inr more) rest =
          let same : a ≡ r = omega (arith, low, more) in
          lies_more r at (at + length (list_bytes_of x)) at (at + length (lists_bytes (x ∷ as'))) (omega arith) (omega (arith, sum))
          (subst (λ q. Lies q at (at + length (list_bytes_of x))) same (own_lies a at x h.0 sized.0))

  -- and one behind another
  pub rows_apart : (a at : ℕ) (as' : List Valued) → ArraysAre m.bytes m.table (row_count m) a at as' → Each IsSized as' → (q r : ℕ) → a ≤ q → q < r → r < a + length as'
      → 0 < (dope_row m q).count → 0 < (dope_row m r).count → (dope_row m q).place + (dope_row m q).count * (dope_row m q).stride ≤ (dope_row m r).place
  rows_apart a at [] h sized q r low less high full more = absurd (omega (arith, low, less, high))
  rows_apart a at (x ∷ as') h sized q r low less high full more = by (cases_lt a q) (rows_apart (a + 1) (at + length (list_bytes_of x)) as' h.1 sized.1 q r)
    where
      by : (a < q) ⊎ (q ≤ a)
          → (a + 1 ≤ q → q < r → r < a + 1 + length as' → 0 < (dope_row m q).count → 0 < (dope_row m r).count → (dope_row m q).place + (dope_row m q).count * (dope_row m q).stride ≤ (dope_row m r).place)
          → (dope_row m q).place + (dope_row m q).count * (dope_row m q).stride ≤ (dope_row m r).place
      by (inl further) rest = rest (omega (arith, further)) less (omega (arith, high)) full more
      by (inr here) rest =
          let same : a ≡ q = omega (arith, low, here) in
          let first = subst (λ k. Lies k at (at + length (list_bytes_of x))) same (own_lies a at x h.0 sized.0) full in
          let second = rows_lie (a + 1) (at + length (list_bytes_of x)) as' h.1 sized.1 r (omega (arith, less, same)) (omega (arith, high)) more in
          omega (arith, first.1, second.0)
