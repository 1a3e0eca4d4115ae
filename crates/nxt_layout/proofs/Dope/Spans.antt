-- Spans that follow one another share no byte, and the span of a row.
use Rattle.std.proofs.Common.{◌≡◌, ℕ, ◌+◌, ◌≤◌, ◌<◌, Bool, true, false, cond, ◌==◌, nat_lt, nat_le, List, [], ◌∷◌, find, option_map, Option, Some, None, IsPermutation, refl, sym, ap, ◌∙◌, arith, true≢false, eq-eqb, ne_eqb, eqb-true, leb-true, le-ltb}
use Rattle.std.proofs.lemmas.Bool.{and_parts, and_left, and_right}
use Rattle.std.proofs.lemmas.List.Sorted.{IsPermutation-sym}
use Rattle.std.proofs.ByRecursion.{all_shuffled}
use Rattle.nxt_table.specs.Inside.LeafPasses.{pair_or}
use Rattle.nxt_layout.specs.declared.spans.Span.{Span}
use Rattle.nxt_layout.specs.Inside.RowPasses.{spans_share, first_span, first_spans, follow, SpansRise}
use Rattle.nxt_facts.proofs.Each.{Each, each_then, each_both}

-- ---- spans in line

-- none ends before its place
abbrev pub IsSpan : Span → Type 0
IsSpan s = s.place ≤ s.end

-- of two rows only
abbrev pub Apart : Span → Span → Type 0
Apart a b = (a.row ≡ b.row → ⊥) → spans_share a b ≡ false

pub spans_rise : (r : ℕ) (ss : List Span) → SpansRise r ss → Each IsSpan ss
spans_rise r [] h = tt
spans_rise r (s ∷ ss) h = (h.1, spans_rise (s.row + 1) ss h.2)

pub rows_rise : (r : ℕ) (ss : List Span) → SpansRise r ss → Each (λ s. r ≤ s.row) ss
rows_rise r [] h = tt
rows_rise r (s ∷ ss) h =
    let low = h.0 in (
      low,
      each_then (λ t. s.row + 1 ≤ t.row) (λ t. r ≤ t.row) (λ t more. omega (arith, low, more)) ss (rows_rise (s.row + 1) ss h.2),
    )

pub each_after : (end : ℕ) (ss : List Span) → follow end ss ≡ true → Each IsSpan ss → Each (λ s. end ≤ s.place) ss
each_after end [] f e = tt
each_after end (s ∷ ss) f e =
    let two = and_parts (nat_le end s.place) (follow s.end ss) f in
    let here : end ≤ s.place = leb-true end s.place two.0 in
    let span : s.place ≤ s.end = e.0 in (
      here,
      each_then (λ t. s.end ≤ t.place) (λ t. end ≤ t.place) (λ t more. omega (arith, here, span, more)) ss (each_after s.end ss two.1 e.1),
    )

-- the one ends before the other
pub before : (a b : Span) → a.end ≤ b.place → spans_share a b ≡ false
before a b h = and_right (nat_lt a.place b.end) (nat_lt b.place a.end) (le-ltb b.place a.end h)

pub behind : (a b : Span) → b.end ≤ a.place → spans_share a b ≡ false
behind a b h = and_left (nat_lt a.place b.end) (nat_lt b.place a.end) (le-ltb a.place b.end h)

pub line_apart : (end : ℕ) (ss : List Span) → follow end ss ≡ true → Each IsSpan ss → Each (λ a. Each (Apart a) ss) ss
line_apart end [] f e = tt
line_apart end (s ∷ ss) f e =
    let two = and_parts (nat_le end s.place) (follow s.end ss) f in
    let after = each_after s.end ss two.1 e.1 in (
      (λ n. absurd (n refl), each_then (λ t. s.end ≤ t.place) (Apart s) (λ t h _. before s t h) ss after),
      each_both
          (λ t. s.end ≤ t.place)
          (λ t. Each (Apart t) ss)
          (λ t. Each (Apart t) (s ∷ ss))
          (λ t h rest. (λ _. behind t s h, rest))
          ss
          after
          (line_apart s.end ss two.1 e.1),
    )

pub no_span : (test : Span → Bool) (ss : List Span) → Each (λ s. test s ≡ false) ss → find test ss ≡ None
no_span test [] e = refl
no_span test (s ∷ ss) e = ap (λ b. cond b (Some s) (find test ss)) e.0 ∙ no_span test ss e.1

pub none_apart : (r : ℕ) (ss : List Span) → SpansRise r ss → Each (λ a. Each (Apart a) ss) ss → first_spans ss ≡ None
none_apart r [] h e = refl
none_apart r (s ∷ ss) h e =
    let apart : Each (λ t. spans_share s t ≡ false) ss =
    each_both
    (λ t. s.row + 1 ≤ t.row)
    (Apart s)
    (λ t. spans_share s t ≡ false)
    (λ t more one. one (λ same. omega (arith, more, same)))
    ss
    (rows_rise (s.row + 1) ss h.2)
    e.0.1
    in
    ap (λ o. pair_or s.row (option_map (λ t. t.row) o) (first_spans ss)) (no_span (spans_share s) ss apart)
    ∙ none_apart (s.row + 1) ss h.2 (each_then (λ a. Each (Apart a) (s ∷ ss)) (λ a. Each (Apart a) ss) (λ a two. two.1) ss e.1)

pub in_line : (spans sorted : List Span) → IsPermutation spans sorted → SpansRise 0 spans → follow 0 sorted ≡ true → first_spans spans ≡ None
in_line spans sorted same rise line =
    let back = IsPermutation-sym spans sorted same in
    let apart = line_apart 0 sorted line (all_shuffled IsSpan spans sorted same (spans_rise 0 spans rise)) in
    none_apart
    0
    spans
    rise
    (all_shuffled
    (λ a. Each (Apart a) spans)
    sorted
    spans
    back
    (each_then
    (λ a. Each (Apart a) sorted)
    (λ a. Each (Apart a) spans)
    (λ a each. all_shuffled (Apart a) sorted spans back each)
    sorted
    apart))

-- ---- the span of a row

abbrev pub span_of : List Span → ℕ → Option Span
span_of ss n = find (λ s. s.row == n) ss

pub span_row : (ss : List Span) (n : ℕ) (a : Span) → span_of ss n ≡ Some a → a.row ≡ n
span_row [] n a e = cc
span_row (s ∷ ss) n a e = at (s.row == n) refl (span_row ss n a)
  where
    at : (b : Bool) → (s.row == n) ≡ b → (span_of ss n ≡ Some a → a.row ≡ n) → a.row ≡ n
    at true f ih =
        let one : Some s ≡ Some a = sym (ap (λ b. cond b (Some s) (span_of ss n)) f) ∙ e in
        let same : s ≡ a = cc in
        sym (ap (λ (t : Span). t.row) same) ∙ eqb-true s.row n f
    at false f ih = ih (sym (ap (λ b. cond b (Some s) (span_of ss n)) f) ∙ e)

pub span_from : (ss : List Span) (r n : ℕ) (a : Span) → SpansRise r ss → span_of ss n ≡ Some a → r ≤ n
span_from [] r n a h e = cc
span_from (s ∷ ss) r n a h e = at (s.row == n) refl (span_from ss (s.row + 1) n a h.2)
  where
    at : (b : Bool) → (s.row == n) ≡ b → (span_of ss n ≡ Some a → s.row + 1 ≤ n) → r ≤ n
    at true f ih = omega (arith, h.0, eqb-true s.row n f)
    at false f ih = omega (arith, h.0, ih (sym (ap (λ b. cond b (Some s) (span_of ss n)) f) ∙ e))

-- the span of a later row
pub later : (s : Span) (ss : List Span) (n : ℕ) → s.row < n → span_of (s ∷ ss) n ≡ span_of ss n
later s ss n h = ap (λ b. cond b (Some s) (span_of ss n)) (ne_eqb s.row n (λ same. omega (arith, h, same)))

pub itself : (s : Span) (ss : List Span) (n : ℕ) → s.row ≡ n → span_of (s ∷ ss) n ≡ Some s
itself s ss n h = ap (λ b. cond b (Some s) (span_of ss n)) (eq-eqb s.row n h)

pub record OneFound (test : Span → Bool) (ss : List Span) (w : ℕ) : Type 0 where
  pub one : Span
  pub is : span_of ss w ≡ Some one
  pub passes : test one ≡ true

pub found_span : (test : Span → Bool) (ss : List Span) (r w : ℕ) → SpansRise r ss → first_span test ss ≡ Some w → OneFound test ss w
found_span test [] r w h e = cc
found_span test (s ∷ ss) r w h e = at (test s) refl (found_span test ss (s.row + 1) w h.2)
  where
    at : (b : Bool) → test s ≡ b → (first_span test ss ≡ Some w → OneFound test ss w) → OneFound test (s ∷ ss) w
    at true f ih =
        let some : Some s.row ≡ Some w = sym (ap (λ b. option_map (λ (t : Span). t.row) (cond b (Some s) (find test ss))) f) ∙ e in
        let same : s.row ≡ w = cc in
        record { one = s; is = itself s ss w same; passes = f }
    at false f ih =
        let x = ih (sym (ap (λ b. option_map (λ (t : Span). t.row) (cond b (Some s) (find test ss))) f) ∙ e) in
        let low : s.row + 1 ≤ w = span_from ss (s.row + 1) w x.one h.2 x.is in
        record { one = x.one; is = later s ss w (omega (arith, low)) ∙ x.is; passes = x.passes }

pub least_span : (test : Span → Bool) (ss : List Span) (r n : ℕ) (a : Span) → SpansRise r ss → span_of ss n ≡ Some a → test a ≡ true → (w : ℕ) × (first_span test ss ≡ Some w) × (w ≤ n)
least_span test [] r n a h e pass = cc
least_span test (s ∷ ss) r n a h e pass = at (test s) refl (s.row == n) refl (least_span test ss (s.row + 1) n a h.2)
  where
    low : s.row ≤ n
    low = span_from (s ∷ ss) s.row n a (omega arith, h.1, h.2) e

    at : (b : Bool) → test s ≡ b → (c : Bool) → (s.row == n) ≡ c → (span_of ss n ≡ Some a → test a ≡ true → (w : ℕ) × (first_span test ss ≡ Some w) × (w ≤ n)) →
        (w : ℕ) × (first_span test (s ∷ ss) ≡ Some w) × (w ≤ n)
    at true f c g ih = (s.row, ap (λ b. option_map (λ (t : Span). t.row) (cond b (Some s) (find test ss))) f, low)
    at false f true g ih =
        let one : Some s ≡ Some a = sym (ap (λ b. cond b (Some s) (span_of ss n)) g) ∙ e in
        let same : s ≡ a = cc in
        absurd (true≢false (sym pass ∙ sym (ap test same) ∙ f))
    at false f false g ih =
        let x = ih (sym (ap (λ b. cond b (Some s) (span_of ss n)) g) ∙ e) pass in
        (x.0, ap (λ b. option_map (λ (t : Span). t.row) (cond b (Some s) (find test ss))) f ∙ x.1, x.2)
