-- What the passes over rows find first.
use Rattle.std.proofs.Common.{◌≡◌, ℕ, ◌&&◌, not, nat_lt, map, List, slice_index, Option, Some, None, inr, sym, ap, ◌∙◌, subst}
use Rattle.std.specs.Prelude.{flat_map}
use Rattle.nxt_model.specs.Reading.{row_count}
use Rattle.nxt_layout.specs.declared.fault.LayoutFault.{LayoutFault}
use Rattle.nxt_layout.specs.declared.fault.LayoutFault.TheVariants.{RowIndex, RowShared, Stride, RowPlace}
use Rattle.nxt_layout.specs.declared.reach.ArrayRows.{ArrayRows}
use Rattle.nxt_layout.specs.Rows.{Ground, is_placed, is_full_in}
use Rattle.nxt_layout.specs.Inside.RowPasses.{Through, ground_of, least_of_all, all_rows, first_beyond, first_below, misstrided_in, least, is_full_by, first_spans, spans_of, IsMarked}
use Rattle.nxt_table.specs.Inside.Checks.{fault_or}
use Rattle.nxt_layout.specs.Inside.Passes.{overlap_fault, rows_fault}
use Rattle.nxt_layout.proofs.Dope.Told.{least_told}
use Rattle.nxt_layout.proofs.Dope.Searches.{first_twice, first_misplaced, marked_spans}
use Rattle.nxt_layout.proofs.rows.check_rows.Goals as goal

-- the first fault of what the passes find
abbrev first_of : Option ℕ → Option ℕ → Option ℕ → Option ℕ → Option (ℕ × ℕ) → Option LayoutFault
first_of a b s m o =
    fault_or RowIndex a (fault_or RowShared b (fault_or Stride s (fault_or RowPlace m (overlap_fault o))))

found_shared : (a b s m : Option ℕ) (o : Option (ℕ × ℕ)) (r : ℕ) → a ≡ None → b ≡ Some r → first_of a b s m o ≡ Some (RowShared r)
found_shared a b s m o r ea eb = rw (ea, eb)

found_stride : (a b s m : Option ℕ) (o : Option (ℕ × ℕ)) (r : ℕ) → a ≡ None → b ≡ None → s ≡ Some r → first_of a b s m o ≡ Some (Stride r)
found_stride a b s m o r ea eb es = rw (ea, eb, es)

found_place : (a b s m : Option ℕ) (o : Option (ℕ × ℕ)) (r : ℕ) → a ≡ None → b ≡ None → s ≡ None → m ≡ Some r → first_of a b s m o ≡ Some (RowPlace r)
found_place a b s m o r ea eb es em = rw (ea, eb, es, em)

found_last : (a b s m : Option ℕ) (o q : Option (ℕ × ℕ)) → a ≡ None → b ≡ None → s ≡ None → m ≡ None → o ≡ q → first_of a b s m o ≡ overlap_fault q
found_last a b s m o q ea eb es em eo = rw (ea, eb, es, em, eo)

-- the passes by marks
abbrev twice_by : Ground → List ℕ → Option ℕ
twice_by g marks = first_below (λ r. nat_lt 1 (slice_index marks r)) 0 (row_count g.memory)

abbrev strides_by : Ground → List Through → Option ℕ
strides_by g ts = least (flat_map (misstrided_in g) ts)

abbrev places_by : Ground → List ℕ → Option ℕ
places_by g marks = first_below (λ r. is_full_by g marks r && not (is_placed g r)) 0 (row_count g.memory)

abbrev overlaps_by : Ground → List ℕ → Option (ℕ × ℕ)
overlaps_by g marks = first_spans (spans_of g (is_full_by g marks))

-- they find the same
same_first : (g : Ground) (ts : List Through) (marks : List ℕ) → IsMarked g (all_rows ts) marks → rows_fault g ts ≡ first_of (first_beyond ts) (twice_by g marks) (strides_by g ts) (places_by g marks) (overlaps_by g marks)
same_first g ts marks m =
    ap (λ b. first_of (first_beyond ts) b (strides_by g ts) (first_below (λ r. is_full_in g (all_rows ts) r && not (is_placed g r)) 0 (row_count g.memory)) (first_spans (spans_of g (is_full_in g (all_rows ts)))))
    (sym (first_twice g (all_rows ts) marks m))
    ∙ ap (λ p. first_of (first_beyond ts) (twice_by g marks) (strides_by g ts) p (first_spans (spans_of g (is_full_in g (all_rows ts)))))
    (sym (first_misplaced g (all_rows ts) marks m))
    ∙ ap (λ ss. first_of (first_beyond ts) (twice_by g marks) (strides_by g ts) (places_by g marks) (first_spans ss))
    (sym (marked_spans g (all_rows ts) marks m))

pub returns-in-Some-clause-refused : goal.returns-in-Some-clause-refused
returns-in-Some-clause-refused c ts told =
    let g = ground_of c.args.space.now in
    let marks = c.as_slice-marks.result.now in
    inr
    (same_first g ts marks (subst (IsMarked g (all_rows ts)) (sym c.as_slice-marks.ensures.value) told.marks)
    ∙ found_shared (first_beyond ts) (twice_by g marks) (strides_by g ts) (places_by g marks) (overlaps_by g marks) c.from.result
    told.none
    (sym c.shared.ensures ∙ c.in-Some.is ∙ ap Some (sym c.from.ensures)))

pub returns-in-Some-misstrided-clause-refused : goal.returns-in-Some-misstrided-clause-refused
returns-in-Some-misstrided-clause-refused c ts told =
    let g = ground_of c.args.space.now in
    let marks = c.as_slice-marks.result.now in
    inr
    (same_first g ts marks (subst (IsMarked g (all_rows ts)) (sym c.as_slice-marks.ensures.value) told.marks)
    ∙ found_stride (first_beyond ts) (twice_by g marks) (strides_by g ts) (places_by g marks) (overlaps_by g marks) c.from-in-Some-misstrided.result
    told.none
    (sym c.shared.ensures ∙ c.in_default.is)
    (sym (least_told g ts c.args.arrays.now told) ∙ ap (λ xs. least_of_all (map (λ (a : ArrayRows). a.misstrided) xs)) (sym c.as_slice.ensures.value) ∙ sym c.misstrided.ensures ∙ c.in-Some-misstrided.is ∙ ap Some (sym c.from-in-Some-misstrided.ensures)))

pub returns-in-Some-misplaced-clause-refused : goal.returns-in-Some-misplaced-clause-refused
returns-in-Some-misplaced-clause-refused c ts told =
    let g = ground_of c.args.space.now in
    let marks = c.as_slice-marks.result.now in
    inr
    (same_first g ts marks (subst (IsMarked g (all_rows ts)) (sym c.as_slice-marks.ensures.value) told.marks)
    ∙ found_place (first_beyond ts) (twice_by g marks) (strides_by g ts) (places_by g marks) (overlaps_by g marks) c.from-in-Some-misplaced.result
    told.none
    (sym c.shared.ensures ∙ c.in_default.is)
    (sym (least_told g ts c.args.arrays.now told) ∙ ap (λ xs. least_of_all (map (λ (a : ArrayRows). a.misstrided) xs)) (sym c.as_slice.ensures.value) ∙ sym c.misstrided.ensures ∙ c.in_default-misstrided.is)
    (sym c.misplaced.ensures ∙ c.in-Some-misplaced.is ∙ ap Some (sym c.from-in-Some-misplaced.ensures)))

pub returns-in-Some-2-clause-refused : goal.returns-in-Some-2-clause-refused
returns-in-Some-2-clause-refused c ts told =
    let g = ground_of c.args.space.now in
    let marks = c.as_slice-marks.result.now in
    let spans : c.as_slice-2.result.now ≡ spans_of g (is_full_by g marks) = c.as_slice-2.ensures.value ∙ c.in_ok-spans.ensures.spans in
    inr
    (same_first g ts marks (subst (IsMarked g (all_rows ts)) (sym c.as_slice-marks.ensures.value) told.marks)
    ∙ found_last (first_beyond ts) (twice_by g marks) (strides_by g ts) (places_by g marks) (overlaps_by g marks) (Some (c.in-Some-2.row, c.in-Some-2.other))
    told.none
    (sym c.shared.ensures ∙ c.in_default.is)
    (sym (least_told g ts c.args.arrays.now told) ∙ ap (λ xs. least_of_all (map (λ (a : ArrayRows). a.misstrided) xs)) (sym c.as_slice.ensures.value) ∙ sym c.misstrided.ensures ∙ c.in_default-misstrided.is)
    (sym c.misplaced.ensures ∙ c.in_default-misplaced.is)
    (sym (ap first_spans spans) ∙ sym c.in_ok-row.ensures ∙ c.in-Some-2.is))

pub returns-clause-kept : goal.returns-clause-kept
returns-clause-kept c ts told =
    let g = ground_of c.args.space.now in
    let marks = c.as_slice-marks.result.now in
    let spans : c.as_slice-2.result.now ≡ spans_of g (is_full_by g marks) = c.as_slice-2.ensures.value ∙ c.in_ok-spans.ensures.spans in
    same_first g ts marks (subst (IsMarked g (all_rows ts)) (sym c.as_slice-marks.ensures.value) told.marks)
    ∙ found_last (first_beyond ts) (twice_by g marks) (strides_by g ts) (places_by g marks) (overlaps_by g marks) None
    told.none
    (sym c.shared.ensures ∙ c.in_default.is)
    (sym (least_told g ts c.args.arrays.now told) ∙ ap (λ xs. least_of_all (map (λ (a : ArrayRows). a.misstrided) xs)) (sym c.as_slice.ensures.value) ∙ sym c.misstrided.ensures ∙ c.in_default-misstrided.is)
    (sym c.misplaced.ensures ∙ c.in_default-misplaced.is)
    (sym (ap first_spans spans) ∙ sym c.in_ok-row.ensures ∙ c.in_default-2.is)
