-- What is told of arrays, array by array.
use Rattle.std.proofs.Common.{◌≡◌, ℕ, ◌+◌, ◌<◌, ◌≤◌, ◌^◌, Bool, true, false, cond, min, List, [], ◌∷◌, ◌++◌, All, map, find, flat_map, sum_by, option_map, length, Some, None, refl, sym, ap, ◌∙◌, subst, arith, append-nil}
use Rattle.std.specs.Prelude.{slice_index}
use Rattle.std.proofs.lemmas.List.{map-append}
use Rattle.std.proofs.lemmas.List.Concat.{flat_map-append}
use Rattle.std.proofs.lemmas.List.Elements.{All-push}
use Rattle.std.proofs.lemmas.List.Sums.{sum_by-cons}
use Rattle.nxt_table.specs.Inside.Owners.{least_of}
use Rattle.nxt_table.specs.declared.leaves.PlacedLeaf.{PlacedLeaf}
use Rattle.nxt_layout.specs.declared.reach.Arrays.{Arrays}
use Rattle.nxt_layout.specs.declared.reach.ArrayRows.{ArrayRows}
use Rattle.nxt_layout.specs.declared.reach.OpenArray.{OpenArray}
use Rattle.nxt_layout.specs.Rows.{Ground}
use Rattle.nxt_layout.specs.Inside.RowPasses.{Through, opened, array_leaves, through_from, all_rows, times, first_beyond, told, AreTold, IsMarked, least, least_of_all, misstrided_in, list_count}
use Rattle.nxt_layout.proofs.Dope.Strides.{least-append}
use Rattle.nxt_layout.proofs.Dope.Places.{times_join}

-- ---- the first with a number past the table's rows

pub beyond_more : (done : List Through) (t : Through) (rest : List Through) → first_beyond done ≡ None → t.beyond ≡ true → first_beyond (done ++ t ∷ rest) ≡ Some t.entry
beyond_more [] t rest none e = ap (λ b. option_map (λ (u : Through). u.entry) (cond b (Some t) (find (λ u. u.beyond) rest))) e
beyond_more (d ∷ ds) t rest none e = at d.beyond refl (λ n. beyond_more ds t rest n e)
  where
    at : (b : Bool) → d.beyond ≡ b → (first_beyond ds ≡ None → first_beyond (ds ++ t ∷ rest) ≡ Some t.entry) → first_beyond (d ∷ ds ++ t ∷ rest) ≡ Some t.entry
    at true f ih = let s : Some d.entry ≡ None = sym (ap (λ b. option_map (λ (u : Through). u.entry) (cond b (Some d) (find (λ u. u.beyond) ds))) f) ∙ none in cc
    at false f ih =
        ap (λ b. option_map (λ (u : Through). u.entry) (cond b (Some d) (find (λ u. u.beyond) (ds ++ t ∷ rest)))) f
        ∙ ih (sym (ap (λ b. option_map (λ (u : Through). u.entry) (cond b (Some d) (find (λ u. u.beyond) ds))) f) ∙ none)

none_more : (done : List Through) (t : Through) → first_beyond done ≡ None → t.beyond ≡ false → first_beyond (done ++ t ∷ []) ≡ None
none_more [] t none e = ap (λ b. option_map (λ (u : Through). u.entry) (cond b (Some t) None)) e
none_more (d ∷ ds) t none e = at d.beyond refl (λ n. none_more ds t n e)
  where
    at : (b : Bool) → d.beyond ≡ b → (first_beyond ds ≡ None → first_beyond (ds ++ t ∷ []) ≡ None) → first_beyond (d ∷ ds ++ t ∷ []) ≡ None
    at true f ih = let s : Some d.entry ≡ None = sym (ap (λ b. option_map (λ (u : Through). u.entry) (cond b (Some d) (find (λ u. u.beyond) ds))) f) ∙ none in cc
    at false f ih =
        ap (λ b. option_map (λ (u : Through). u.entry) (cond b (Some d) (find (λ u. u.beyond) (ds ++ t ∷ [])))) f
        ∙ ih (sym (ap (λ b. option_map (λ (u : Through). u.entry) (cond b (Some d) (find (λ u. u.beyond) ds))) f) ∙ none)

-- ---- one array more

rows_more : (done : List Through) (t : Through) → all_rows (done ++ t ∷ []) ≡ all_rows done ++ t.rows
rows_more done t = flat_map-append (λ (u : Through). u.rows) done (t ∷ []) ∙ ap (λ rs. all_rows done ++ rs) (append-nil t.rows)

-- the marks with those of the rows
abbrev pub HasMarks : List ℕ → List ℕ → List ℕ → Type 0
HasMarks rows old new = (r : ℕ) → r < length old → slice_index old r ≤ 2 → slice_index new r ≡ min 2 (slice_index old r + times r rows)

marked_more : (g : Ground) (all rows old new : List ℕ) → IsMarked g all old → length new ≡ length old → HasMarks rows old new → IsMarked g (all ++ rows) new
marked_more g all rows old new m count has =
    record {
      count = count ∙ m.count;
      times = λ r less.
          let below : r < length old = subst (λ n. r < n) count less in
          omega (arith, has r below (omega (arith, m.times r below)), m.times r below, times_join r all rows);
    }

pub told_more : (g : Ground) (done : List Through) (t : Through) (old new : Arrays) → AreTold g done old → new.found.items ≡ old.found.items ++ told g t ∷ [] → length new.marks.items ≡ length old.marks.items → HasMarks t.rows old.marks.items new.marks.items → t.beyond ≡ false → t.lists ≤ 2 ^ 33 → AreTold g (done ++ t ∷ []) new
told_more g done t old new h found count marks beyond bound =
    record {
      found = found ∙ ap (λ xs. xs ++ told g t ∷ []) h.found ∙ sym (map-append (told g) done (t ∷ []));
      marks = subst (λ rows. IsMarked g rows new.marks.items) (sym (rows_more done t)) (marked_more g (all_rows done) t.rows old.marks.items new.marks.items h.marks count marks);
      none = none_more done t h.none beyond;
      lists = subst (All (λ (x : ArrayRows). x.lists ≤ 2 ^ 33)) (sym found) (All-push (λ (x : ArrayRows). x.lists ≤ 2 ^ 33) old.found.items (told g t) h.lists bound);
    }

-- ---- the arrays of leaves, of which a part is done

pub record IsLeft (g : Ground) (ext : ℕ → ℕ) (all rest : List PlacedLeaf) (stack : List OpenArray) (a : Arrays) : Type 0 where
  pub done : List Through
  pub told_of_done : AreTold g done a
  pub split : done ++ through_from g ext (map opened stack) (array_leaves rest) ≡ through_from g ext [] (array_leaves all)

-- ---- the least row that has another stride than its array

least_step : (g : Ground) (ts : List Through) → least_of_all (map (λ (a : ArrayRows). a.misstrided) (map (told g) ts)) ≡ least (flat_map (misstrided_in g) ts)
least_step g [] = refl
least_step g (t ∷ ts) =
    ap (least_of (least (misstrided_in g t))) (least_step g ts)
    ∙ sym (least-append (misstrided_in g t) (flat_map (misstrided_in g) ts))

pub least_told : (g : Ground) (ts : List Through) (a : Arrays) → AreTold g ts a → least_of_all (map (λ (x : ArrayRows). x.misstrided) a.found.items) ≡ least (flat_map (misstrided_in g) ts)
least_told g ts a h = ap (λ xs. least_of_all (map (λ (x : ArrayRows). x.misstrided) xs)) h.found ∙ least_step g ts

-- ---- how many lists there are

lists_step : (g : Ground) (ts : List Through) → sum_by (λ (a : ArrayRows). a.lists) (map (told g) ts) ≡ list_count ts
lists_step g [] = refl
lists_step g (t ∷ ts) =
    omega (
      arith,
      sum_by-cons (λ (a : ArrayRows). a.lists) (told g t) (map (told g) ts),
      sum_by-cons (λ (u : Through). u.lists) t ts,
      lists_step g ts,
    )

pub lists_told : (g : Ground) (ts : List Through) (a : Arrays) → AreTold g ts a → sum_by (λ (x : ArrayRows). x.lists) a.found.items ≡ list_count ts
lists_told g ts a h = ap (sum_by (λ (x : ArrayRows). x.lists)) h.found ∙ lists_step g ts
