-- The rows of an assembled text break no rule of layout.
use Rattle.std.proofs.Common.{◌≡◌, ℕ, zero, suc, ◌+◌, ◌*◌, ◌<◌, ◌≤◌, Bool, true, false, cond, ◌&&◌, ◌||◌, ◌==◌, not, nat_le, nat_lt, List, [], ◌∷◌, filter, length, count_by, refl, sym, ap, ap₂, subst, ◌∙◌, arith, eq-eqb, le-leb, le-ltb, lt-ltb, ltb-true, ne_eqb, true≢false}
use Rattle.std.specs.List.{list_any}
use Rattle.std.proofs.lemmas.Bool.{and_parts, false_from_ne_true}
use Rattle.nxt_types.specs.Refusals.{IsAccepted, passes}
use Rattle.nxt_types.specs.Pool.{pool_size}
use Rattle.nxt_types.specs.Shapes.{Members, bares, some_list}
use Rattle.nxt_rxe.specs.declared.parts.Parts.{Parts}
use Rattle.nxt_model.specs.Values.{Value, group_of}
use Rattle.nxt_model.specs.Reading.{row_count}
use Rattle.nxt_asm_parts.specs.AssembledParts.{Valued, dope_place}
use Rattle.nxt_table.specs.Leaves.{leaf_of}
use Rattle.nxt_table.specs.TableRules.{OfShapes}
use Rattle.nxt_table.proofs.Laws.FirstBroken.{of_shapes}
use Rattle.nxt_layout.specs.declared.fault.LayoutFault.TheVariants.{Table, RowZero, RowIndex, RowShared, Stride, RowPlace, RowOverlap, PoolPassed, NoMemory}
use Rattle.nxt_layout.specs.LayoutRules.{Broken, PassesPool, end_of_row, has_table, is_missstrided, is_row_misplaced, is_shared, lacks_table, names_no_row, of_rows, place_of_row, rows_share_a_byte}
use Rattle.nxt_layout.specs.Rows.{Ground, arrays_of, has_elements, is_full, is_placed, is_strided, numbers_of, reached, reached_through, row, row_end}
use Rattle.nxt_layout.specs.Start.{start_footprint}
use Rattle.nxt_layout.proofs.Laws.OneStart.{one_start}
use Rattle.nxt_facts.proofs.Each.{each_then}
use Rattle.nxt_facts.proofs.Sums.{is_it, tally, tally_is}
use Rattle.nxt_asm_laws_layout.proofs.Laws.TableKept.{none_found, shapes, table_kept}
use Rattle.nxt_asm_laws_layout.proofs.Laws.Dataspace.{HasData, length-bytes}
use Rattle.nxt_asm_laws_layout.proofs.ListBlocks.{all_sized}
use Rattle.nxt_asm_laws_layout.proofs.Numbers.{IsNumbered, counted, is_list}
use Rattle.nxt_asm_laws_layout.proofs.Starts.{arrays, arrays_there, first_list, row_total, rows}
use Rattle.nxt_asm_laws_layout.proofs.LayoutStart.{g, numbered, reached_all, starts}
use Rattle.nxt_asm_laws_layout.proofs.RowSpans.{counted_once, counted_within, rows_apart, rows_lie}
use Rattle.nxt_asm_laws_layout.proofs.RowTests.{any_none, five, five_from, flat_same, none_beyond, none_missstrided, some_array}

-- ---- the rules

module _ (p : Parts) (ss : Members) (vs : List Value) (h : HasData p ss vs) where
  abbrev here : Ground
  here = g p ss vs h

  abbrev count : ℕ
  count = length (arrays p ss vs h)

  reached_are : reached here ≡ counted 1 count
  reached_are =
      let n = numbered p ss vs h in
      flat_same (reached_through here) (numbers_of here) (filter is_list here.leaves)
      (each_then (IsNumbered here) (λ l. reached_through here l ≡ numbers_of here l) (λ l k. reached_all here l k) (filter is_list here.leaves) n.each)
      ∙ n.numbers

  -- a row with elements that is reached is an array's
  full_within : (r : ℕ) → is_full here r ≡ true → (1 ≤ r) × (r < 1 + count) × (0 < (row here r).count)
  full_within r e =
      let two = and_parts (list_any (λ q. q == r) (reached here)) (has_elements here r) e in
      let within = counted_within r 1 count (sym (ap (list_any (λ q. q == r)) reached_are) ∙ two.0) in
      (within.0, within.1, ltb-true 0 (row here r).count two.1)

  some_of : (r : ℕ) → 1 ≤ r → r < 1 + count → 0 < count
  some_of r low high = omega (arith, low, high)

  -- its bytes lie behind the table, and end with the bytes
  full_lies : (r : ℕ) → is_full here r ≡ true → (first_list p ss vs h ≤ (row here r).place) × (row_end here r ≤ length here.memory.bytes)
  full_lies r e =
      let f = full_within r e in
      let low = f.0 in
      let high = f.1 in
      let some = some_of r low high in
      let two = rows_lie here.memory 1 (first_list p ss vs h) (arrays p ss vs h) (arrays_there p ss vs h) (all_sized ss vs h.held) r low (omega (arith, high)) f.2 in
      let ends = (rows p ss vs h some).ends in
      (two.0, omega (arith, two.1, ends))

  dope_is : 0 < count → p.header.static_size ≤ p.header.dope_at
  dope_is some = by (arrays p ss vs h) some h.dope
    where
      by : (as' : List Valued) → 0 < length as' → p.header.dope_at ≡ dope_place p.header.static_size as' → p.header.static_size ≤ p.header.dope_at
      by [] lt e = absurd (omega (arith, lt))
      by (a ∷ as') lt e = omega (arith, e)

  -- ---- the table of rows

  initial_is : p.header.initial ≡ length here.memory.bytes
  initial_is =
      let a = h.initial in
      let b = h.dyn_size in
      let c = length-bytes p ss vs h in omega (arith, a, b, c)

  table_there : 0 < count → has_table p.header here ≡ true
  table_there some =
      let r = rows p ss vs h some in
      let ends = r.ends in
      let own = r.own in
      let total = own.count_is in
      let long = initial_is in
      five_from (nat_le p.header.static_size p.header.dope_at) (nat_le (p.header.dope_at + 10) p.header.initial) ((row here 0).stride == 10) (nat_lt 0 (row here 0).count)
      (nat_le (p.header.dope_at + 10 * (row here 0).count) p.header.initial)
      (le-leb p.header.static_size p.header.dope_at (dope_is some))
      (le-leb (p.header.dope_at + 10) p.header.initial (omega (arith, ends, long)))
      (eq-eqb (row here 0).stride 10 own.stride_is)
      (lt-ltb 0 (row here 0).count (omega (arith, total)))
      (le-leb (p.header.dope_at + 10 * (row here 0).count) p.header.initial (omega (arith, total, ends, long)))

  none_lacking : lacks_table p (bares ss) ≡ false
  none_lacking = by (some_list (bares ss)) refl
    where
      by : (b : Bool) → some_list (bares ss) ≡ b → (b && not (has_table p.header here)) ≡ false
      by false e = refl
      by true e = ap not (table_there (some_array ss vs h.held e))

  -- ---- rows

  none_past : (e : ℕ) → passes (names_no_row here) (leaf_of (arrays_of here) e) ≡ false
  none_past e =
      none_found (names_no_row here) (λ l. l.entry == e) (arrays_of here)
      (each_then (IsNumbered here) (λ l. names_no_row here l ≡ false) (λ l n. none_beyond here l n) (filter is_list here.leaves) (numbered p ss vs h).each)

  none_shared : (r : ℕ) → is_shared here r ≡ false
  none_shared r =
      le-ltb 1 (count_by (λ q. q == r) (reached here))
      (subst (λ n. n ≤ 1) (sym (tally_is (is_it r) (reached here))) (subst (λ ns. tally (is_it r) ns ≤ 1) (sym reached_are) (counted_once r 1 count)))

  all_strided : (r : ℕ) → is_missstrided here r ≡ false
  all_strided r =
      any_none (λ l. let rows = reached_through here l in list_any (λ q. q == r) rows && not (is_strided here l.entry rows r)) (arrays_of here)
      (each_then (IsNumbered here) (λ l. (let rows = reached_through here l in list_any (λ q. q == r) rows && not (is_strided here l.entry rows r)) ≡ false)
      (λ l n. none_missstrided here r l n) (filter is_list here.leaves) (numbered p ss vs h).each)

  all_placed : (r : ℕ) → is_row_misplaced here r ≡ false
  all_placed r = by (is_full here r) refl
    where
      or_last : (a b c : Bool) → b ≡ true → c ≡ true → (not a || (b && c)) ≡ true
      or_last false b c e f = refl
      or_last true true true e f = refl
      or_last true false c e f = absurd (true≢false (sym e))
      or_last true true false e f = absurd (true≢false (sym f))

      by : (b : Bool) → is_full here r ≡ b → (b && not (is_placed here r)) ≡ false
      by false e = refl
      by true e =
          let lies = full_lies r e in
          let f = full_within r e in
          let low = f.0 in
          let high = f.1 in
          let dope = dope_is (some_of r low high) in
          ap not
          (or_last (has_elements here r) (nat_le p.header.static_size (row here r).place) (nat_le (row_end here r) (length here.memory.bytes))
          (le-leb p.header.static_size (row here r).place (omega (arith, lies.0, dope))) (le-leb (row_end here r) (length here.memory.bytes) lies.1))

  other_row : (r : ℕ) → 1 ≤ r → (r == 0) ≡ false
  other_row r low = ne_eqb r 0 (λ e. omega (arith, e, low))

  place_there : (r : ℕ) → 1 ≤ r → place_of_row here r ≡ (row here r).place
  place_there r low = ap (λ b. cond b here.memory.table (row here r).place) (other_row r low)

  end_there : (r : ℕ) → 1 ≤ r → end_of_row here r ≡ row_end here r
  end_there r low = ap (λ b. cond b (here.memory.table + 10 * row_count here.memory) (row_end here r)) (other_row r low)

  not_overlapping : (q r : ℕ) → q < r → ((q == 0) || is_full here q) ≡ true → is_full here r ≡ true → nat_lt (place_of_row here r) (end_of_row here q) ≡ true → ⊥
  not_overlapping zero r less first second over =
      let f = full_within r second in
      let low = f.0 in
      let high = f.1 in
      let lies = full_lies r second in
      let total = row_total p ss vs h (some_of r low high) in
      let place = place_there r low in
      let past = ltb-true (place_of_row here r) (end_of_row here 0) over in
      omega (arith, lies.0, total, place, past)
  not_overlapping (suc q) r less first second over =
      let one : is_full here (suc q) ≡ true = sym (ap (λ b. b || is_full here (suc q)) (other_row (suc q) (omega arith))) ∙ first in
      let e = full_within (suc q) one in
      let f = full_within r second in
      let low = e.0 in
      let high = f.1 in
      let place = place_there r f.0 in
      let end = end_there (suc q) low in
      let apart = rows_apart here.memory 1 (first_list p ss vs h) (arrays p ss vs h) (arrays_there p ss vs h) (all_sized ss vs h.held) (suc q) r low less (omega (arith, high)) e.2 f.2 in
      let past = ltb-true (place_of_row here r) (end_of_row here (suc q)) over in
      omega (arith, place, end, apart, past)

  none_overlapping : (q r : ℕ) → rows_share_a_byte here q r ≡ false
  none_overlapping q r =
      false_from_ne_true (rows_share_a_byte here q r)
      (λ e.
      let f = five (nat_lt q r) ((q == 0) || is_full here q) (is_full here r) (nat_lt (place_of_row here q) (end_of_row here r)) (nat_lt (place_of_row here r) (end_of_row here q)) e in
      not_overlapping q r (ltb-true q r f.0) f.1 f.2 f.3)

  -- ---- all rules

  refuted : (test : Ground → Bool) → test here ≡ false → OfShapes p (of_rows p test) → ⊥
  refuted test none o =
      let two = and_parts (some_list (bares ss)) (test here) (of_shapes p (bares ss) (of_rows p test) (shapes p ss h.table) o) in
      true≢false (sym two.1 ∙ none)

  within_pool : (size : ℕ) → start_footprint p ss (group_of vs) ≤ pool_size → PassesPool p size → ⊥
  within_pool size fits passed =
      let one = one_start p ss passed.shapes (group_of vs) passed.vars (starts p ss vs h) passed.starts in
      let same : start_footprint p ss (group_of vs) ≡ start_footprint p passed.shapes passed.vars = ap₂ (start_footprint p) one.0 one.1 in
      let size_is = passed.size_is in
      let over = passed.passed in
      omega (arith, same, size_is, over, fits)

  -- no rule is broken
  pub layout_kept : start_footprint p ss (group_of vs) ≤ pool_size → IsAccepted (Broken p)
  layout_kept fits (Table f) b = table_kept p ss h.table f b
  layout_kept fits RowZero b = true≢false (sym (of_shapes p (bares ss) (lacks_table p) (shapes p ss h.table) b) ∙ none_lacking)
  layout_kept fits (RowIndex e) b = refuted (λ k. passes (names_no_row k) (leaf_of (arrays_of k) e)) (none_past e) b
  layout_kept fits (RowShared r) b = refuted (λ k. is_shared k r) (none_shared r) b
  layout_kept fits (Stride r) b = refuted (λ k. is_missstrided k r) (all_strided r) b
  layout_kept fits (RowPlace r) b = refuted (λ k. is_row_misplaced k r) (all_placed r) b
  layout_kept fits (RowOverlap q r) b = refuted (λ k. rows_share_a_byte k q r) (none_overlapping q r) b
  layout_kept fits (PoolPassed size) b = within_pool size fits b
  layout_kept fits NoMemory b = b
