-- The passes over the strides, the places and the overlaps of rows find the first place where their rule is broken.
use Rattle.std.proofs.Common.{◌≡◌, ℕ, zero, suc, ◌+◌, ◌-◌, ◌*◌, ◌≤◌, ◌<◌, Bool, true, false, cond, ◌&&◌, ◌||◌, not, ◌==◌, nat_lt, nat_le, List, [], ◌∷◌, map, flat_map, Option, Some, if◌then◌else◌, inl, inr, refl, sym, ap, ap₂, ◌∙◌, subst, arith, true≢false, lt-ltb, ltb-true, eq-eqb, eqb-true, ne_eqb}
use Rattle.std.specs.List.{list_any}
use Rattle.std.proofs.lemmas.Bool.{and_parts, and_from, or_left, or_right, cases_lt}
use Rattle.std.proofs.lemmas.List.Folds.{list_any-append}
use Rattle.std.proofs.lemmas.Map.Views.{any-filter_same}
use Rattle.std.proofs.Math.Bool.{and_comm}
use Rattle.nxt_model.specs.Reading.{row_count}
use Rattle.nxt_layout.specs.declared.spans.Span.{Span}
use Rattle.nxt_table.specs.Leaves.{Leaf, extent}
use Rattle.nxt_layout.specs.Rows.{Ground, row, row_end, has_elements, is_placed, is_strided, is_strided_by, reached_through, arrays_of, is_full_in, is_full}
use Rattle.nxt_layout.specs.Inside.RowPasses.{all_rows, first_below, least, misstrided_in, spans_share, first_spans, table_span, row_span, spans_from, spans_of}
use Rattle.nxt_layout.specs.LayoutRules.{is_missstrided, is_row_misplaced, place_of_row, end_of_row, rows_share_a_byte}
use Rattle.nxt_facts.proofs.Sums.{is_it}
use Rattle.nxt_layout.proofs.Dope.NoneOneMany.{AreAlike, alike_any, alike_all}
use Rattle.nxt_layout.proofs.Dope.Reached.{few_rows, few_through, leaf_rows_alike}
use Rattle.nxt_layout.proofs.Dope.Strides.{least_among, least_found}
use Rattle.nxt_layout.proofs.Dope.Searches.{IsFirst, first_alike, first_in, spans_same, all_rise, is_first}
use Rattle.nxt_layout.proofs.Dope.Spans.{span_of}
use Rattle.nxt_layout.proofs.Dope.FirstOverlap.{SpansShare, share_from, first_spans_pass, first_spans_least, no_spans_pass}
use Rattle.nxt_layout.proofs.Rules.Rows.{IsFirstPair, few, full_row, full_same}

-- ---- rows whose stride isn't their entry's

abbrev pub misstrided_at : Ground → Option ℕ
misstrided_at g = least (flat_map (misstrided_in g) (few g))

strided_alike : (g : Ground) (bytes : ℕ) (xs ys : List ℕ) → AreAlike xs ys → (r : ℕ) → is_strided_by g bytes xs r ≡ is_strided_by g bytes ys r
strided_alike g bytes xs ys h r =
    ap
    (λ b. not (has_elements g r) || (nat_le bytes (row g r).stride && b))
    (alike_all (λ q. not (nat_lt q r && has_elements g q) || ((row g q).stride == (row g r).stride)) xs ys h)

-- of a leaf
abbrev is_odd_at : Ground → ℕ → Leaf → Bool
is_odd_at g r l =
    list_any (is_it r) (reached_through g l) && not (is_strided g l.entry (reached_through g l) r)

odd_through : (g : Ground) (r : ℕ) (l : Leaf) → list_any (is_it r) (misstrided_in g (few_through g l)) ≡ is_odd_at g r l
odd_through g r l =
    let bytes = extent g.leaves l.entry in
    let rows = few_rows g l.entry l.arrays in
    let alike = leaf_rows_alike g l in
    any-filter_same
    (is_it r)
    (λ q. not (is_strided_by g bytes rows q))
    (not (is_strided_by g bytes rows r))
    (λ q e. ap (λ k. not (is_strided_by g bytes rows k)) (eqb-true q r e))
    rows
    ∙ ap₂
    (λ (a b : Bool). not a && b)
    (strided_alike g bytes rows (reached_through g l) alike r)
    (alike_any (is_it r) rows (reached_through g l) alike)
    ∙ and_comm (not (is_strided g l.entry (reached_through g l) r)) (list_any (is_it r) (reached_through g l))

odd_among : (g : Ground) (r : ℕ) (ls : List Leaf) → list_any (is_it r) (flat_map (misstrided_in g) (map (few_through g) ls)) ≡ list_any (is_odd_at g r) ls
odd_among g r [] = refl
odd_among g r (l ∷ ls) =
    list_any-append (is_it r) (misstrided_in g (few_through g l)) (flat_map (misstrided_in g) (map (few_through g) ls))
    ∙ ap₂ (λ (a b : Bool). a || b) (odd_through g r l) (odd_among g r ls)

pub misstrided_first : (g : Ground) → IsFirst (is_missstrided g) (misstrided_at g)
misstrided_first g =
    let rows = flat_map (misstrided_in g) (few g) in
    let same : (r : ℕ) → list_any (is_it r) rows ≡ is_missstrided g r = λ r. odd_among g r (arrays_of g) in
    is_first
    (is_missstrided g)
    (misstrided_at g)
    (λ w e. sym (same w) ∙ least_among rows w e)
    (λ v h. least_found rows v (same v ∙ h))

-- ---- rows that are misplaced

abbrev pub misplaced_at : Ground → Option ℕ
misplaced_at g =
    first_below (λ r. is_full_in g (all_rows (few g)) r && not (is_placed g r)) 0 (row_count g.memory)

pub misplaced_first : (g : Ground) → IsFirst (is_row_misplaced g) (misplaced_at g)
misplaced_first g =
    let test = λ (r : ℕ). is_full_in g (all_rows (few g)) r && not (is_placed g r) in
    let same : (r : ℕ) → test r ≡ is_row_misplaced g r = λ r. ap (λ b. b && not (is_placed g r)) (full_same g r) in
    first_alike
    test
    (is_row_misplaced g)
    (misplaced_at g)
    same
    (first_in
    test
    (row_count g.memory)
    (λ v h. full_row g v (and_parts (is_full g v) (not (is_placed g v)) (sym (same v) ∙ h)).0))

-- ---- rows that share a byte

abbrev pub sharing_at : Ground → Option (ℕ × ℕ)
sharing_at g = first_spans (spans_of g (is_full_in g (all_rows (few g))))

-- those of the rows that are reached and have elements, and the table's
abbrev full_spans : Ground → List Span
full_spans g = spans_of g (is_full g)

sharing_full : (g : Ground) → sharing_at g ≡ first_spans (full_spans g)
sharing_full g =
    ap
    (λ ss. first_spans (table_span g ∷ ss))
    (spans_same g (is_full_in g (all_rows (few g))) (is_full g) 1 (row_count g.memory - 1) (λ r least less. full_same g r))

-- a full row has its span
span_there : (g : Ground) (full : ℕ → Bool) (r n q : ℕ) → r ≤ q → q < r + n → full q ≡ true → span_of (spans_from g full r n) q ≡ Some (row_span g q)
span_there g full r zero q low high f = absurd (omega (arith, low, high))
span_there g full r (suc n) q low high f =
    elim (cases_lt r q) [
      | inl less ↦ at (full r) refl less (span_there g full (r + 1) n q (omega (arith, less)) (omega (arith, high)) f)
      | inr more ↦ let same : r ≡ q = omega (arith, low, more) in
          ap (λ b. span_of (if b then row_span g r ∷ spans_from g full (r + 1) n else spans_from g full (r + 1) n) q) (ap full same ∙ f)
          ∙ ap (λ b. cond b (Some (row_span g r)) (span_of (spans_from g full (r + 1) n) q)) (eq-eqb r q same)
          ∙ ap (λ k. Some (row_span g k)) same
    ]
  where
    at : (b : Bool) → full r ≡ b → r < q → span_of (spans_from g full (r + 1) n) q ≡ Some (row_span g q) → span_of (spans_from g full r (suc n)) q ≡ Some (row_span g q)
    at true e less ih =
        ap (λ b. span_of (if b then row_span g r ∷ spans_from g full (r + 1) n else spans_from g full (r + 1) n) q) e
        ∙ ap (λ b. cond b (Some (row_span g r)) (span_of (spans_from g full (r + 1) n) q)) (ne_eqb r q (λ same. omega (arith, same, less)))
        ∙ ih
    at false e less ih =
        ap (λ b. span_of (if b then row_span g r ∷ spans_from g full (r + 1) n else spans_from g full (r + 1) n) q) e ∙ ih

-- and what has a span is a full row
span_full : (g : Ground) (full : ℕ → Bool) (r n q : ℕ) (s : Span) → span_of (spans_from g full r n) q ≡ Some s → (full q ≡ true) × (s ≡ row_span g q)
span_full g full r zero q s e = let f : ⊥ = cc in absurd f
span_full g full r (suc n) q s e = at (full r) refl (r == q) refl (span_full g full (r + 1) n q s)
  where
    at : (b : Bool) → full r ≡ b → (c : Bool) → (r == q) ≡ c → (span_of (spans_from g full (r + 1) n) q ≡ Some s → (full q ≡ true) × (s ≡ row_span g q)) → (full q ≡ true) × (s ≡ row_span g q)
    at true f true same ih =
        let one : Some (row_span g r) ≡ Some s =
        sym (ap (λ b. span_of (if b then row_span g r ∷ spans_from g full (r + 1) n else spans_from g full (r + 1) n) q) f
        ∙ ap (λ b. cond b (Some (row_span g r)) (span_of (spans_from g full (r + 1) n) q)) same)
        ∙ e in
        let it : row_span g r ≡ s = cc in
        let at_q : r ≡ q = eqb-true r q same in
        (ap full (sym at_q) ∙ f, sym it ∙ ap (row_span g) at_q)
    at true f false other ih =
        ih (sym (ap (λ b. span_of (if b then row_span g r ∷ spans_from g full (r + 1) n else spans_from g full (r + 1) n) q) f
        ∙ ap (λ b. cond b (Some (row_span g r)) (span_of (spans_from g full (r + 1) n) q)) other)
        ∙ e)
    at false f c d ih =
        ih (sym (ap (λ b. span_of (if b then row_span g r ∷ spans_from g full (r + 1) n else spans_from g full (r + 1) n) q) f) ∙ e)

-- the bytes of a row, or of the table, have this span
record Stands (g : Ground) (q : ℕ) (s : Span) : Type 0 where
  place : s.place ≡ place_of_row g q
  end : s.end ≡ end_of_row g q

stands_row : (g : Ground) (q : ℕ) → (q == 0) ≡ false → Stands g q (row_span g q)
stands_row g q e =
    record {
      place = sym (ap (λ b. if b then g.memory.table else (row g q).place) e);
      end = sym (ap (λ b. if b then g.memory.table + 10 * row_count g.memory else row_end g q) e);
    }

stands_table : (g : Ground) (q : ℕ) → (q == 0) ≡ true → Stands g q (table_span g)
stands_table g q e =
    record {
      place = sym (ap (λ b. if b then g.memory.table else (row g q).place) e);
      end = sym (ap (λ b. if b then g.memory.table + 10 * row_count g.memory else row_end g q) e);
    }

-- the table, or a row that is full
abbrev has_bytes : Ground → ℕ → Bool
has_bytes g q = (q == 0) || is_full g q

record Shown (g : Ground) (q : ℕ) : Type 0 where
  span : Span
  is : span_of (full_spans g) q ≡ Some span
  stands : Stands g q span

-- the spans of the rows behind the table
abbrev row_spans : Ground → List Span
row_spans g = spans_from g (is_full g) 1 (row_count g.memory - 1)

past_table : (g : Ground) (q : ℕ) → (q == 0) ≡ false → span_of (full_spans g) q ≡ span_of (row_spans g) q
past_table g q e =
    let other : (0 == q) ≡ false = ne_eqb 0 q (λ same. true≢false (sym (eq-eqb q 0 (sym same)) ∙ e)) in
    ap (λ b. cond b (Some (table_span g)) (span_of (row_spans g) q)) other

at_table : (g : Ground) (q : ℕ) → (q == 0) ≡ true → span_of (full_spans g) q ≡ Some (table_span g)
at_table g q e =
    ap
    (λ b. cond b (Some (table_span g)) (span_of (row_spans g) q))
    (eq-eqb 0 q (sym (eqb-true q 0 e)))

some_row : (q : ℕ) → (q == 0) ≡ false → 0 < q
some_row zero e = let f : ⊥ = cc in absurd f
some_row (suc q) e = omega arith

shown : (g : Ground) (q : ℕ) → has_bytes g q ≡ true → Shown g q
shown g q h = at (q == 0) refl h
  where
    at : (b : Bool) → (q == 0) ≡ b → (b || is_full g q) ≡ true → Shown g q
    at true e h = record { span = table_span g; is = at_table g q e; stands = stands_table g q e }
    at false e h =
        let some : 0 < q = some_row q e in
        let within : q < row_count g.memory = full_row g q h in
        record {
          span = row_span g q;
          is = past_table g q e ∙ span_there g (is_full g) 1 (row_count g.memory - 1) q (omega (arith, some)) (omega (arith, some, within)) h;
          stands = stands_row g q e;
        }

shown_back : (g : Ground) (q : ℕ) (s : Span) → span_of (full_spans g) q ≡ Some s → (has_bytes g q ≡ true) × Stands g q s
shown_back g q s h = at (q == 0) refl
  where
    at : (b : Bool) → (q == 0) ≡ b → (has_bytes g q ≡ true) × Stands g q s
    at true e =
        let one : Some (table_span g) ≡ Some s = sym (at_table g q e) ∙ h in
        let it : table_span g ≡ s = cc in
        (or_left (q == 0) (is_full g q) e, subst (Stands g q) it (stands_table g q e))
    at false e =
        let x = span_full g (is_full g) 1 (row_count g.memory - 1) q s (sym (past_table g q e) ∙ h) in
        (or_right (q == 0) (is_full g q) x.0, subst (Stands g q) (sym x.1) (stands_row g q e))

share_same : (g : Ground) (q r : ℕ) (a b : Span) → Stands g q a → Stands g r b → spans_share a b ≡ (nat_lt (place_of_row g q) (end_of_row g r) && nat_lt (place_of_row g r) (end_of_row g q))
share_same g q r a b x y =
    ap₂ (λ (m n : Bool). m && n) (ap₂ nat_lt x.place y.end) (ap₂ nat_lt y.place x.end)

five_parts : (a b c d e : Bool) → (a && b && c && d && e) ≡ true → (a ≡ true) × (b ≡ true) × (c ≡ true) × (d ≡ true) × (e ≡ true)
five_parts true true true true true h = (refl, refl, refl, refl, refl)
five_parts true true true true false h = let f : ⊥ = cc in absurd f
five_parts true true true false e h = let f : ⊥ = cc in absurd f
five_parts true true false d e h = let f : ⊥ = cc in absurd f
five_parts true false c d e h = let f : ⊥ = cc in absurd f
five_parts false b c d e h = let f : ⊥ = cc in absurd f

five_from : (a b c d e : Bool) → a ≡ true → b ≡ true → c ≡ true → d ≡ true → e ≡ true → (a && b && c && d && e) ≡ true
five_from a b c d e h i j k l =
    and_from (a && b && c && d) e (and_from (a && b && c) d (and_from (a && b) c (and_from a b h i) j) k) l

sharing_there : (g : Ground) (q r : ℕ) → rows_share_a_byte g q r ≡ true → SpansShare (full_spans g) q r
sharing_there g q r h =
    let x =
    five_parts (nat_lt q r) (has_bytes g q) (is_full g r) (nat_lt (place_of_row g q) (end_of_row g r)) (nat_lt (place_of_row g r) (end_of_row g q)) h in
    let a = shown g q x.1 in
    let b = shown g r (or_right (r == 0) (is_full g r) x.2) in
    share_from
    (full_spans g)
    q
    r
    a.span
    b.span
    a.is
    b.is
    (ltb-true q r x.0)
    (share_same g q r a.span b.span a.stands b.stands ∙ and_from (nat_lt (place_of_row g q) (end_of_row g r)) (nat_lt (place_of_row g r) (end_of_row g q)) x.3 x.4)

sharing_back : (g : Ground) (q r : ℕ) → SpansShare (full_spans g) q r → rows_share_a_byte g q r ≡ true
sharing_back g q r x =
    let a = shown_back g q x.first x.is_first in
    let b = shown_back g r x.second x.is_second in
    let rise : q < r = x.rise in
    let full : is_full g r ≡ true = sym (ap (λ k. k || is_full g r) (ne_eqb r 0 (λ e. omega (arith, e, rise)))) ∙ b.0 in
    let bytes =
    and_parts
    (nat_lt (place_of_row g q) (end_of_row g r))
    (nat_lt (place_of_row g r) (end_of_row g q))
    (sym (share_same g q r x.first x.second a.1 b.1) ∙ x.share)
    in
    five_from (nat_lt q r) (has_bytes g q) (is_full g r) (nat_lt (place_of_row g q) (end_of_row g r)) (nat_lt (place_of_row g r) (end_of_row g q)) (lt-ltb q r rise) a.0 full bytes.0 bytes.1

pub sharing_first : (g : Ground) → IsFirstPair (rows_share_a_byte g) (sharing_at g)
sharing_first g =
    let ss = full_spans g in
    let same = sharing_full g in
    record {
      here = λ w e. sharing_back g w.0 w.1 (first_spans_pass ss w (all_rise g (is_full g)) (sym same ∙ e));
      least = λ w q r e h. first_spans_least ss w q r (all_rise g (is_full g)) (sym same ∙ e) (sharing_there g q r h);
      none = λ q r e h. no_spans_pass ss q r (all_rise g (is_full g)) (sym same ∙ e) (sharing_there g q r h);
    }
