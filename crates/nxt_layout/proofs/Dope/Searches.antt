-- Searches and sums over the rows of a table, row by row.
use Rattle.std.proofs.Common.{◌≡◌, ℕ, zero, suc, ◌+◌, ◌-◌, ◌<◌, ◌≤◌, Bool, true, false, ◌&&◌, not, List, [], ◌∷◌, min, nat_lt, Option, Some, None, if◌then◌else◌, inl, inr, refl, sym, ap, ◌∙◌, arith, true≢false}
use Rattle.std.specs.Prelude.{◌==◌, slice_index}
use Rattle.std.proofs.lemmas.Bool.{cases_lt}
use Rattle.std.proofs.lemmas.Bool.Decides.{nat_tests}
use Rattle.nxt_model.specs.Reading.{row_count}
use Rattle.nxt_layout.specs.Rows.{Ground, has_elements, is_placed, is_full_in}
use Rattle.nxt_layout.specs.declared.spans.Span.{Span}
use Rattle.nxt_layout.specs.Inside.RowPasses.{first_below, times, is_full_by, IsMarked, row_bytes, full_bytes, spans_from, spans_of, row_span, table_span, SpansRise}
use Rattle.nxt_facts.proofs.Sums.{tally_is, any_is}
use Rattle.nxt_facts.proofs.SumsBelow.{sums_same}

-- ---- the first below

one_less : (r n : ℕ) → r < n → n - r ≡ suc (n - (r + 1))
one_less r n h = omega (arith, h)

pub below_here : (test : ℕ → Bool) (r n : ℕ) → r < n → test r ≡ true → first_below test r (n - r) ≡ Some r
below_here test r n h e =
    ap (first_below test r) (one_less r n h)
    ∙ ap (λ b. if b then Some r else first_below test (r + 1) (n - (r + 1))) e

pub below_next : (test : ℕ → Bool) (r n : ℕ) → r < n → test r ≡ false → first_below test r (n - r) ≡ first_below test (r + 1) (n - (r + 1))
below_next test r n h e =
    ap (first_below test r) (one_less r n h)
    ∙ ap (λ b. if b then Some r else first_below test (r + 1) (n - (r + 1))) e

pub below_same : (p q : ℕ → Bool) (r n : ℕ) → ((k : ℕ) → r ≤ k → k < r + n → p k ≡ q k) → first_below p r n ≡ first_below q r n
below_same p q r zero h = refl
below_same p q r (suc n) h =
    ap (λ b. if b then Some r else first_below p (r + 1) n) (h r (omega arith) (omega arith))
    ∙ ap (λ o. if q r then Some r else o) (below_same p q (r + 1) n (λ k least less. h k (omega (arith, least)) (omega (arith, less))))

-- the least number that passes the test, or none does
pub record IsFirst (test : ℕ → Bool) (o : Option ℕ) : Type 0 where
  pub here : (w : ℕ) → o ≡ Some w → test w ≡ true
  pub least : (w v : ℕ) → o ≡ Some w → test v ≡ true → w ≤ v
  pub none : (v : ℕ) → o ≡ None → test v ≡ true → ⊥

-- by another test that agrees
pub first_alike : (f h : ℕ → Bool) (o : Option ℕ) → ((r : ℕ) → f r ≡ h r) → IsFirst f o → IsFirst h o
first_alike f h o same first =
    record {
      here = λ w e. sym (same w) ∙ first.here w e;
      least = λ w v e t. first.least w v e (same v ∙ t);
      none = λ v e t. first.none v e (same v ∙ t);
    }

module _ (test : ℕ → Bool) where
  -- what is found passes
  found_passes : (r n w : ℕ) → first_below test r n ≡ Some w → test w ≡ true
  found_passes r zero w e = cc
  found_passes r (suc n) w e = at (test r) refl (found_passes (r + 1) n w)
    where
      at : (b : Bool) → test r ≡ b → (first_below test (r + 1) n ≡ Some w → test w ≡ true) → test w ≡ true
      at true f ih =
          let s : Some r ≡ Some w = sym (ap (λ b. if b then Some r else first_below test (r + 1) n) f) ∙ e in
          let same : r ≡ w = cc in
          ap test (sym same) ∙ f
      at false f ih = ih (sym (ap (λ b. if b then Some r else first_below test (r + 1) n) f) ∙ e)

  -- where a number passes, one up to it is found
  found_before : (r n v : ℕ) → test v ≡ true → r ≤ v → v < r + n → (w : ℕ) × (first_below test r n ≡ Some w) × (w ≤ v)
  found_before r zero v h low high = absurd (omega (arith, low, high))
  found_before r (suc n) v h low high = at (test r) refl (found_before (r + 1) n v h)
    where
      at : (b : Bool) → test r ≡ b → (r + 1 ≤ v → v < r + 1 + n → (w : ℕ) × (first_below test (r + 1) n ≡ Some w) × (w ≤ v)) → (w : ℕ) × (first_below test r (suc n) ≡ Some w) × (w ≤ v)
      at true f ih = (r, ap (λ b. if b then Some r else first_below test (r + 1) n) f, low)
      at false f ih =
          elim (cases_lt r v) [
            | inl less ↦ let x = ih (omega (arith, less)) (omega (arith, high)) in
                (x.0, ap (λ b. if b then Some r else first_below test (r + 1) n) f ∙ x.1, x.2)
            | inr more ↦ let same : v ≡ r = omega (arith, low, more) in absurd (true≢false (sym h ∙ ap test same ∙ f))
          ]

  -- where what is found passes, and one up to each that passes is found
  pub is_first : (o : Option ℕ) → ((w : ℕ) → o ≡ Some w → test w ≡ true) → ((v : ℕ) → test v ≡ true → (w : ℕ) × (o ≡ Some w) × (w ≤ v)) → IsFirst test o
  is_first o passes before =
      record {
        here = passes;
        least = λ w v e h.
            let x = before v h in
            let s : Some w ≡ Some x.0 = sym e ∙ x.1 in
            let same : w ≡ x.0 = cc in
            omega (arith, same, x.2);
        none = λ v e h. let x = before v h in let s : None ≡ Some x.0 = sym e ∙ x.1 in cc;
      }

  -- where only numbers below n pass
  pub first_in : (n : ℕ) → ((v : ℕ) → test v ≡ true → v < n) → IsFirst test (first_below test 0 n)
  first_in n below =
      is_first (first_below test 0 n) (found_passes 0 n) (λ v h. found_before 0 n v h (omega arith) (omega (arith, below v h)))

-- ---- marks

cut : (k n : ℕ) → k < 2 → nat_lt k (min 2 n) ≡ nat_lt k n
cut k n h = grind (arith, nat_tests)

pub marked_full : (g : Ground) (rows marks : List ℕ) → IsMarked g rows marks → (r : ℕ) → r < row_count g.memory → is_full_by g marks r ≡ is_full_in g rows r
marked_full g rows marks m r h =
    ap (λ b. b && has_elements g r)
    (ap (nat_lt 0) (m.times r (omega (arith, m.count, h)))
    ∙ cut 0 (times r rows) (omega arith)
    ∙ ap (nat_lt 0) (tally_is (λ q. q == r) rows)
    ∙ sym (any_is (λ q. q == r) rows))

pub marked_twice : (g : Ground) (rows marks : List ℕ) → IsMarked g rows marks → (r : ℕ) → r < row_count g.memory → nat_lt 1 (slice_index marks r) ≡ nat_lt 1 (times r rows)
marked_twice g rows marks m r h = ap (nat_lt 1) (m.times r (omega (arith, m.count, h))) ∙ cut 1 (times r rows) (omega arith)

pub first_twice : (g : Ground) (rows marks : List ℕ) → IsMarked g rows marks → first_below (λ r. nat_lt 1 (slice_index marks r)) 0 (row_count g.memory) ≡ first_below (λ r. nat_lt 1 (times r rows)) 0 (row_count g.memory)
first_twice g rows marks m =
    below_same (λ r. nat_lt 1 (slice_index marks r)) (λ r. nat_lt 1 (times r rows)) 0 (row_count g.memory)
    (λ k least less. marked_twice g rows marks m k (omega (arith, less)))

pub first_misplaced : (g : Ground) (rows marks : List ℕ) → IsMarked g rows marks → first_below (λ r. is_full_by g marks r && not (is_placed g r)) 0 (row_count g.memory) ≡ first_below (λ r. is_full_in g rows r && not (is_placed g r)) 0 (row_count g.memory)
first_misplaced g rows marks m =
    below_same (λ r. is_full_by g marks r && not (is_placed g r)) (λ r. is_full_in g rows r && not (is_placed g r)) 0 (row_count g.memory)
    (λ k least less. ap (λ b. b && not (is_placed g k)) (marked_full g rows marks m k (omega (arith, less))))

pub marked_bytes : (g : Ground) (rows marks : List ℕ) → IsMarked g rows marks → full_bytes g (is_full_by g marks) ≡ full_bytes g (is_full_in g rows)
marked_bytes g rows marks m =
    sums_same (λ r. if is_full_by g marks r then row_bytes g r else 0) (λ r. if is_full_in g rows r then row_bytes g r else 0) (row_count g.memory)
    (λ r h. ap (λ b. if b then row_bytes g r else 0) (marked_full g rows marks m r h))

-- ---- spans

pub spans_next : (g : Ground) (full : ℕ → Bool) (r n : ℕ) → r < n → spans_from g full r (n - r) ≡ (if full r then row_span g r ∷ spans_from g full (r + 1) (n - (r + 1)) else spans_from g full (r + 1) (n - (r + 1)))
spans_next g full r n h = ap (spans_from g full r) (one_less r n h)

pub spans_same : (g : Ground) (p q : ℕ → Bool) (r n : ℕ) → ((k : ℕ) → r ≤ k → k < r + n → p k ≡ q k) → spans_from g p r n ≡ spans_from g q r n
spans_same g p q r zero h = refl
spans_same g p q r (suc n) h =
    let rest = spans_same g p q (r + 1) n (λ k least less. h k (omega (arith, least)) (omega (arith, less))) in
    ap (λ b. if b then row_span g r ∷ spans_from g p (r + 1) n else spans_from g p (r + 1) n) (h r (omega arith) (omega arith))
    ∙ ap (λ ss. if q r then row_span g r ∷ ss else ss) rest

pub marked_spans : (g : Ground) (rows marks : List ℕ) → IsMarked g rows marks → spans_of g (is_full_by g marks) ≡ spans_of g (is_full_in g rows)
marked_spans g rows marks m =
    ap (λ ss. table_span g ∷ ss)
    (spans_same g (is_full_by g marks) (is_full_in g rows) 1 (row_count g.memory - 1)
    (λ k least less. marked_full g rows marks m k (omega (arith, least, less))))

rise_less : (i k : ℕ) (ss : List Span) → i ≤ k → SpansRise k ss → SpansRise i ss
rise_less i k [] h s = tt
rise_less i k (x ∷ ss) h s = (omega (arith, h, s.0), s.1, s.2)

rise_one : (g : Ground) (r : ℕ) (ss : List Span) (b : Bool) → SpansRise (r + 1) ss → SpansRise r (if b then row_span g r ∷ ss else ss)
rise_one g r ss true h = (omega arith, omega arith, h)
rise_one g r ss false h = rise_less r (r + 1) ss (omega arith) h

spans_rise : (g : Ground) (full : ℕ → Bool) (r n : ℕ) → SpansRise r (spans_from g full r n)
spans_rise g full r zero = tt
spans_rise g full r (suc n) = rise_one g r (spans_from g full (r + 1) n) (full r) (spans_rise g full (r + 1) n)

pub all_rise : (g : Ground) (full : ℕ → Bool) → SpansRise 0 (spans_of g full)
all_rise g full = (omega arith, omega arith, spans_rise g full 1 (row_count g.memory - 1))
