-- The first pair of spans that share a byte.
use Rattle.std.proofs.Common.{◌≡◌, ℕ, ◌+◌, ◌≤◌, ◌<◌, true, ◌==◌, IsTrue, List, [], ◌∷◌, find, is_some, Option, Some, None, ◌⊎◌, inl, inr, ⊎_elim, refl, sym, ap, ◌∙◌, subst, arith, true≢false}
use Rattle.std.proofs.lemmas.Bool.{cases_lt}
use Rattle.nxt_types.specs.Refusals.{comes_first}
use Rattle.nxt_table.specs.Inside.LeafPasses.{pair_or}
use Rattle.nxt_layout.specs.declared.spans.Span.{Span}
use Rattle.nxt_layout.specs.Inside.RowPasses.{spans_share, first_span, first_spans, SpansRise}
use Rattle.nxt_table.proofs.Laws.Passes.{comes}
use Rattle.nxt_layout.proofs.Dope.Spans.{span_of, span_row, span_from, later, itself, found_span, least_span}

-- ---- the first pair of spans that share a byte

-- the spans of two rows, the first of which is before the second, share a byte
pub record SpansShare (ss : List Span) (q r : ℕ) : Type 0 where
  pub first : Span
  pub second : Span
  pub is_first : find (λ s. s.row == q) ss ≡ Some first
  pub is_second : find (λ s. s.row == r) ss ≡ Some second
  pub first_row : first.row ≡ q
  pub second_row : second.row ≡ r
  pub rise : q < r
  pub share : spans_share first second ≡ true

-- where both are shown as they are found
pub share_from : (ss : List Span) (q r : ℕ) (a b : Span) → find (λ s. s.row == q) ss ≡ Some a → find (λ s. s.row == r) ss ≡ Some b → q < r → spans_share a b ≡ true → SpansShare ss q r
share_from ss q r a b x y rise share =
    record {
      first = a;
      second = b;
      is_first = x;
      is_second = y;
      first_row = span_row ss q a x;
      second_row = span_row ss r b y;
      rise = rise;
      share = share;
    }

share_later : (s : Span) (ss : List Span) (q r : ℕ) → s.row < q → SpansShare ss q r → SpansShare (s ∷ ss) q r
share_later s ss q r low x =
    let rise = x.rise in
    share_from (s ∷ ss) q r x.first x.second (later s ss q low ∙ x.is_first) (later s ss r (omega (arith, low, rise)) ∙ x.is_second) rise x.share

spans_pass : (ss : List Span) (i : ℕ) (w : ℕ × ℕ) → SpansRise i ss → first_spans ss ≡ Some w → SpansShare ss w.0 w.1
spans_pass [] i w h e = cc
spans_pass (s ∷ ss) i w h e = at (first_span (spans_share s) ss) refl (spans_pass ss (s.row + 1) w h.2)
  where
    at : (o : Option ℕ) → first_span (spans_share s) ss ≡ o → (first_spans ss ≡ Some w → SpansShare ss w.0 w.1) → SpansShare (s ∷ ss) w.0 w.1
    at (Some r) f ih =
        let x = found_span (spans_share s) ss (s.row + 1) r h.2 f in
        let low : s.row + 1 ≤ r = span_from ss (s.row + 1) r x.one h.2 x.is in
        let pair : ℕ × ℕ = (s.row, r) in
        let some : Some pair ≡ Some w = sym (ap (λ o. pair_or s.row o (first_spans ss)) f) ∙ e in
        let same : pair ≡ w = cc in
        subst
        (λ p. SpansShare (s ∷ ss) p.0 p.1)
        same
        (share_from (s ∷ ss) s.row r s x.one (itself s ss s.row refl) (later s ss r (omega (arith, low)) ∙ x.is) (omega (arith, low)) x.passes)
    at None f ih =
        let x = ih (sym (ap (λ o. pair_or s.row o (first_spans ss)) f) ∙ e) in
        let low : s.row + 1 ≤ w.0 = span_from ss (s.row + 1) w.0 x.first h.2 x.is_first in
        share_later s ss w.0 w.1 (omega (arith, low)) x

-- the pair is (m, n), or before it
abbrev IsFirst : ℕ × ℕ → ℕ → ℕ → Type 0
IsFirst w m n = (w.0 < m) ⊎ ((w.0 ≡ m) × (w.1 ≤ n))

record Least (ss : List Span) (m n : ℕ) : Type 0 where
  pair : ℕ × ℕ
  is_pair : first_spans ss ≡ Some pair
  order : IsFirst pair m n

spans_least : (ss : List Span) (i m n : ℕ) → SpansRise i ss → SpansShare ss m n → Least ss m n
spans_least [] i m n h x = let e : None ≡ Some x.first = x.is_first in cc
spans_least (s ∷ ss) i m n h x = by (cases_lt s.row m) (spans_least ss (s.row + 1) m n h.2)
  where
    lt : m < n
    lt = x.rise

    low : s.row ≤ m
    low = span_from (s ∷ ss) s.row m x.first (omega arith, h.1, h.2) x.is_first

    -- the second in the rest
    second : span_of ss n ≡ Some x.second
    second = sym (later s ss n (omega (arith, low, lt))) ∙ x.is_second

    partner : m ≤ s.row → (w : ℕ) × (first_span (spans_share s) ss ≡ Some w) × (w ≤ n)
    partner c =
        let here : Some s ≡ Some x.first = sym (itself s ss m (omega (arith, low, c))) ∙ x.is_first in
        let is : s ≡ x.first = cc in
        least_span (spans_share s) ss (s.row + 1) n x.second h.2 second (ap (λ t. spans_share t x.second) is ∙ x.share)

    found : (w : ℕ) → first_span (spans_share s) ss ≡ Some w → (s.row < m) ⊎ (m ≤ s.row) → IsFirst (s.row, w) m n
    found w f c =
        ⊎_elim
        (λ (p : s.row < m). inl p)
        (λ (p : m ≤ s.row).
        let y = partner p in
        let some : Some w ≡ Some y.0 = sym f ∙ y.1 in
        let same : w ≡ y.0 = cc in
        inr (omega (arith, low, p), omega (arith, same, y.2)))
        c

    none : first_span (spans_share s) ss ≡ None → (s.row < m) ⊎ (m ≤ s.row) → (SpansShare ss m n → Least ss m n) → Least (s ∷ ss) m n
    none f c ih =
        ⊎_elim
        (λ (p : s.row < m).
        let y = ih (share_from ss m n x.first x.second (sym (later s ss m p) ∙ x.is_first) second lt x.share) in
        record {
          pair = y.pair;
          is_pair = ap (λ o. pair_or s.row o (first_spans ss)) f ∙ y.is_pair;
          order = y.order;
        })
        (λ (p : m ≤ s.row). absurd (let y = partner p in let e : None ≡ Some y.0 = sym f ∙ y.1 in cc))
        c

    by : (s.row < m) ⊎ (m ≤ s.row) → (SpansShare ss m n → Least ss m n) → Least (s ∷ ss) m n
    by c ih = at (first_span (spans_share s) ss) refl
      where
        at : (o : Option ℕ) → first_span (spans_share s) ss ≡ o → Least (s ∷ ss) m n
        at None f = none f c ih
        at (Some w) f =
            record {
              pair = (s.row, w);
              is_pair = ap (λ o. pair_or s.row o (first_spans ss)) f;
              order = found w f c;
            }

-- what is found is the least pair that shares a byte
pub first_spans_pass : (ss : List Span) (w : ℕ × ℕ) → SpansRise 0 ss → first_spans ss ≡ Some w → SpansShare ss w.0 w.1
first_spans_pass ss w h e = spans_pass ss 0 w h e

pub first_spans_least : (ss : List Span) (w : ℕ × ℕ) (m n : ℕ) → SpansRise 0 ss → first_spans ss ≡ Some w → SpansShare ss m n → IsTrue (comes_first (w.0 ∷ w.1 ∷ []) (m ∷ n ∷ []))
first_spans_least ss w m n h e x =
    let least = spans_least ss 0 m n h x in
    let some : Some least.pair ≡ Some w = sym least.is_pair ∙ e in
    let same : least.pair ≡ w = cc in
    comes w.0 w.1 m n (subst (λ p. IsFirst p m n) same least.order)

pub no_spans_pass : (ss : List Span) (m n : ℕ) → SpansRise 0 ss → first_spans ss ≡ None → SpansShare ss m n → ⊥
no_spans_pass ss m n h e x =
    let least = spans_least ss 0 m n h x in
    true≢false (sym (ap is_some least.is_pair) ∙ ap is_some e)
