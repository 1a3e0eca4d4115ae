-- A list of numbers that keeps its row and gets other bytes.
use Rattle.std.proofs.Common.{◌≡◌, ◌≢◌, ℕ, zero, suc, ◌+◌, ◌*◌, ◌<◌, ◌≤◌, inl, inr, true, false, ◌||◌, max, List, [], ◌∷◌, map, flat_map, take, drop, length, sum_by, Some, None, is_some, refl, sym, ap, ap₂, ◌∙◌, subst, arith, eq-eqb, length-set, append-nil, suc-mul}
use Rattle.std.specs.Prelude.{slice_get}
use Rattle.std.proofs.lemmas.Bool.{cases_eq}
use Rattle.std.proofs.lemmas.List.{get_or-set_same, get_or-set_other, set-set}
use Rattle.nxt_facts.proofs.Each.{Each}
use Rattle.nxt_facts.specs.Places.{places_from}
use Rattle.nxt_types.specs.Arithmetic.{leaf_size}
use Rattle.nxt_types.specs.Pool.{round4}
use Rattle.nxt_types.specs.Shapes.{Shape, Number, Array}
use Rattle.nxt_types.specs.declared.kind.Kind.{Kind}
use Rattle.nxt_types.specs.declared.shape.TocEntry.{TocEntry}
use Rattle.nxt_model.specs.Footprint.{list_bytes}
use Rattle.nxt_model.specs.Reading.{desc_of}
use Rattle.nxt_model.specs.Means.Text.{number_in}
use Rattle.nxt_model.specs.Values.{Value, Num, list_of, flat, is_of, lists_in}
use Rattle.nxt_heap.specs.Lists.{ByteList, Lists, list_at, stride_at, bytes_at, stride_of, bytes_of, block_of, with_list, with_these, IsAlive, footprint}
use Rattle.nxt_heap.proofs.Laws.Footprints.{footprint-with_list}
use Rattle.nxt_values.specs.Held.{leaf_place, row_in, element_starts, value_at, rows_at, Holds, HasElements}
use Rattle.nxt_values.specs.Regions.{bytes_in, IsRegion}
use Rattle.nxt_values.specs.Writes.{without, IsOther}
use Rattle.nxt_values.specs.Fills.{Fills, Grows, Spends, living, filled}
use Rattle.nxt_values.specs.declared.reading.Region.{Region}
use Rattle.nxt_model.specs.Spans.{spans}
use Rattle.nxt_values.proofs.Fill.Growing.{alive_other, region_bytes}
use Rattle.nxt_values.proofs.Laws.Filled.{filled_own}
use Rattle.nxt_values.proofs.Laws.HeldRows.{alive_within}
use Rattle.nxt_values.proofs.Laws.HeldSizes.{row_size, value_counted, value_sized}
use Rattle.nxt_values.proofs.Laws.Needs.{spends_same}
use Rattle.nxt_values.proofs.Laws.Rows.{living_without}
use Rattle.nxt_model.proofs.Laws.Numbers.{number_of_kind}
use Rattle.nxt_values.proofs.Laws.Shapes.{each_of}

module _ (h : Lists) (row : ℕ) (bytes : List ℕ) (alive : IsAlive h row) where
  abbrev kept : ByteList
  kept = record { stride = stride_at h row; bytes = bytes }

  -- its row is free, and then it has the bytes
  abbrev emptied : Lists
  emptied = with_list h row None

  abbrev set : Lists
  set = with_these h row bytes

  row_within : row < length h.by_row
  row_within = alive_within h row alive

  pub now_there : list_at set row ≡ Some kept
  now_there = get_or-set_same h.by_row row (Some kept) None row_within

  now_free : list_at emptied row ≡ None
  now_free = get_or-set_same h.by_row row None None row_within

  same_else : (q : ℕ) → row ≢ q → list_at set q ≡ list_at emptied q
  same_else q other =
      get_or-set_other h.by_row row q (Some kept) None (λ e. other (sym e))
      ∙ sym (get_or-set_other h.by_row row q None None (λ e. other (sym e)))

  back : with_list emptied row (Some kept) ≡ set
  back = ap (λ rows. record h { by_row = rows }) (set-set h.by_row row None (Some kept))

  gone : with_list set row None ≡ emptied
  gone = ap (λ rows. record h { by_row = rows }) (set-set h.by_row row (Some kept) None)

  -- one list more, and its block
  row_spends : Spends emptied set 1 (round4 (length bytes))
  row_spends m c =
      let lives : living emptied + 1 ≡ living set =
      ap (λ g. living g + 1) (sym gone) ∙ living_without set (row ∷ []) (ap is_some now_there, tt) (tt, tt) in
      let long : length emptied.by_row ≡ length set.by_row = length-set h.by_row row None ∙ sym (length-set h.by_row row (Some kept)) in
      let within : row < length emptied.by_row = omega (arith, row_within, length-set h.by_row row None) in
      let whole = footprint-with_list emptied row (Some kept) within in
      let all = ap footprint back in
      let none = ap block_of now_free in
      let rows = ap₂ (λ (k n : ℕ). round4 (10 * max k n)) long (ap (λ n. n + (m + 1)) lives) in
      let short = ap (λ n. round4 (10 * n)) long in
      omega (arith, whole, all, none, rows, short)

  row_grows : (region : Region) (base : ℕ) (table : List TocEntry) (s : Shape) (i : ℕ) → IsRegion h region → IsOther region row → Grows emptied set region base (spans table s i) (row ∷ []) × (bytes_in set region ≡ bytes_in h region)
  row_grows region base table s i there other =
      let first = region_bytes h emptied region row there other refl (λ q a differ. get_or-set_other h.by_row row q None None (λ e. differ (sym e))) in
      let same = region_bytes emptied set region row first.0 other refl (λ q a differ. same_else q differ) in (
        record {
          there = same.0;
          long = ap length same.1;
          stride = same.2;
          beside = λ p b apart. ap (λ ys. take p.width (drop (b + p.place) ys)) same.1;
          static = λ r. refl;
          kept = λ q a differ. same_else q (λ e. alive_other emptied q row a now_free (sym e));
          own = (tt, tt);
          fresh = (now_free, tt);
          named = λ q a.
              elim (cases_eq row q) [
                | inl e ↦ inr (ap (λ b. b || false) (eq-eqb row q e))
                | inr differ ↦ inl (ap is_some (sym (same_else q differ)) ∙ a)
              ];
        },
        same.1 ∙ first.1,
      )

-- ---- its numbers

pub no_rows : (table : List TocEntry) (h : Lists) (k : Kind) (i : ℕ) (bytes : List ℕ) (places : List ℕ) → flat_map (rows_at table h (Number k) i bytes) places ≡ []
no_rows table h k i bytes [] = refl
no_rows table h k i bytes (p ∷ ps) = no_rows table h k i bytes ps

numbers_hold : (table : List TocEntry) (h : Lists) (k : Kind) (i stride : ℕ) (bytes : List ℕ) (at n : ℕ) → desc_of (slice_get table i) + leaf_size k ≤ stride → at + n * stride ≤ length bytes → Each (Holds table h (Number k) i bytes) (places_from at stride n)
numbers_hold table h k i stride bytes at zero fits within = tt
numbers_hold table h k i stride bytes at (suc n) fits within =
    (omega (arith, fits, within, suc-mul n stride), numbers_hold table h k i stride bytes (at + stride) n fits (omega (arith, within, suc-mul n stride)))

-- the list whose leaf stands there, with these bytes
abbrev pub numbers_there : List TocEntry → Kind → ℕ → ℕ → List ℕ → Value
numbers_there table k i stride bytes =
    list_of (map (λ at. Num (number_in k (drop (leaf_place table (i + 1) at) bytes))) (element_starts stride bytes))

numbers_of : (table : List TocEntry) (k : Kind) (i stride : ℕ) (bytes : List ℕ) → is_of (Array stride (Number k)) (numbers_there table k i stride bytes) ≡ true
numbers_of table k i stride bytes =
    each_of
    (is_of (Number k))
    (λ at. Num (number_in k (drop (leaf_place table (i + 1) at) bytes)))
    (λ at. number_of_kind k (drop (leaf_place table (i + 1) at) bytes))
    (element_starts stride bytes)

-- a row's list of numbers has these bytes in place of its own
pub list_kept : (table : List TocEntry) (h : Lists) (i : ℕ) (region : Region) (base : ℕ) (k : Kind) (stride count : ℕ) (bytes : List ℕ) → IsRegion h region
    → let row = row_in table i (bytes_in h region) base in
    IsOther region row
    → Holds table h (Array stride (Number k)) i (bytes_in h region) base
    → desc_of (slice_get table (i + 1)) + leaf_size k ≤ stride
    → length bytes ≡ count * stride
    → Fills table (without h (row ∷ [])) (with_these h row bytes) (Array stride (Number k)) i region base (flat (numbers_there table k i stride bytes)) []
list_kept table h i region base k stride count bytes there other holds fits whole =
    let s = Array stride (Number k) in
    let row = row_in table i (bytes_in h region) base in
    let alive : IsAlive h row = ap is_some holds.1.here in
    let g = with_these h row bytes in
    let v = numbers_there table k i stride bytes in
    let now = now_there h row bytes alive in
    let grows = row_grows h row bytes alive region base table s i there other in
    let seen = grows.1 in
    let held : bytes_at g row ≡ bytes = ap bytes_of now in
    let named : row_in table i (bytes_in g region) base ≡ row = ap (λ ys. row_in table i ys base) seen in
    let is : value_at table g s i (bytes_in g region) base ≡ v =
    ap (λ r. list_of (map (value_at table g (Number k) (i + 1) (bytes_at g r)) (element_starts stride (bytes_at g r)))) named
    ∙ ap (λ ys. numbers_there table k i stride ys) held in
    let rows : rows_at table g s i (bytes_in g region) base ≡ row ∷ [] =
    ap (λ r. r ∷ flat_map (rows_at table g (Number k) (i + 1) (bytes_at g r)) (element_starts stride (bytes_at g r))) named
    ∙ ap (λ rs. row ∷ rs) (no_rows table g k (i + 1) (bytes_at g row) (element_starts stride (bytes_at g row))) in
    let own : is_of s v ≡ true = numbers_of table k i stride bytes in
    let read : filled s (flat v) ≡ (v, []) = ap (filled s) (sym (append-nil (flat v))) ∙ filled_own s v [] own in
    let strides : stride_at h row ≡ stride = ap stride_of holds.1.here in
    let elements : HasElements g row stride (Holds table g (Number k) (i + 1)) = record {
      count = count;
      bytes = bytes;
      some = holds.1.some;
      here = now ∙ ap (λ n. Some (record { stride = n; bytes = bytes })) strides;
      whole = whole;
      elements = numbers_hold table g k (i + 1) stride bytes 0 count fits (omega (arith, whole));
    } in
    let stands : Holds table g s i (bytes_in g region) base = (
      omega (arith, holds.0, ap length seen),
      subst (λ r. HasElements g r stride (Holds table g (Number k) (i + 1))) (sym named) elements,
    ) in
    let lists = sym (value_counted table g s i (bytes_in g region) base) ∙ ap lists_in is in
    let sized = value_sized table g s i (bytes_in g region) base stands in
    let one : sum_by (row_size g) (row ∷ []) ≡ round4 (length bytes) = omega (arith, ap (λ ys. round4 (length ys)) held) in
    let total : list_bytes s v ≡ round4 (length bytes) = sym (ap (list_bytes s) is) ∙ sized ∙ ap (sum_by (row_size g)) rows ∙ one in
    record {
      value = is ∙ sym (ap (λ r. r.0) read);
      others = sym (ap (λ r. r.1) read);
      holds = stands;
      grows = subst (Grows (without h (row ∷ [])) g region base (spans table s i)) (sym rows) grows.0;
      spends = spends_same
          (without h (row ∷ []))
          g
          1
          (round4 (length bytes))
          (lists_in (filled s (flat v)).0)
          (list_bytes s (filled s (flat v)).0)
          (sym (ap length rows) ∙ lists ∙ ap (λ r. lists_in r.0) (sym read))
          (sym total ∙ ap (λ r. list_bytes s r.0) (sym read))
          (row_spends h row bytes alive);
    }

-- and that is the value that its flat form spells
pub numbers_filled : (table : List TocEntry) (k : Kind) (i stride : ℕ) (bytes : List ℕ) → (filled (Array stride (Number k)) (flat (numbers_there table k i stride bytes))).0 ≡ numbers_there table k i stride bytes
numbers_filled table k i stride bytes =
    let v = numbers_there table k i stride bytes in
    let read = ap (filled (Array stride (Number k))) (sym (append-nil (flat v))) ∙ filled_own (Array stride (Number k)) v [] (numbers_of table k i stride bytes) in
    ap (λ r. r.0) read
