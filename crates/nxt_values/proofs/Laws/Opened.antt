-- Rows that are taken for lists, and bytes that are stored in a region.
use Rattle.std.proofs.Common.{◌≡◌, ◌≢◌, ℕ, ◌+◌, ◌*◌, ◌^◌, ◌<◌, ◌≤◌, inl, inr, true, false, ◌||◌, ◌==◌, List, [], ◌∷◌, take, drop, length, sum_by, Some, None, is_some, refl, sym, ap, ◌∙◌, subst, arith, eq-eqb}
use Rattle.std.specs.Int.{to_le_bytes, w16}
use Rattle.std.specs.List.{list_any}
use Rattle.std.proofs.lemmas.Bool.{cases_eq}
use Rattle.std.proofs.lemmas.List.{get_or-set_same, get_or-set_other, set-set}
use Rattle.nxt_types.specs.declared.shape.TocEntry.{TocEntry}
use Rattle.nxt_types.specs.Pool.{round4}
use Rattle.nxt_types.specs.Bytes.{u16_at}
use Rattle.nxt_facts.proofs.Each.{Each}
use Rattle.nxt_heap.specs.Lists.{Lists, list_at, stride_at, bytes_of, stride_of, block_of, with_list, with_length, with_free_row, empty_list, of_length, IsFree, IsAlive, footprint}
use Rattle.nxt_heap.proofs.Laws.Footprints.{footprint-with_list}
use Rattle.nxt_values.specs.Held.{leaf_place, row_in}
use Rattle.nxt_values.specs.Regions.{bytes_in, IsRegion}
use Rattle.nxt_model.specs.Spans.{Span, span}
use Rattle.nxt_values.specs.Writes.{with_bytes, put, IsOther}
use Rattle.nxt_values.specs.Fills.{Grows, IsBeside, IsRow, stride_in, IsOpened}
use Rattle.nxt_values.specs.declared.reading.Region.{Region}
use Rattle.nxt_values.specs.declared.reading.Region.TheVariants.{Static, Row}
use Rattle.nxt_values.proofs.Hold.Frames.{free_row_lists}
use Rattle.nxt_values.proofs.Laws.HeldRows.{alive_within}
use Rattle.nxt_values.proofs.Fill.Bytes.{at_row, bytes_with, region_with, length-put, put_same, row_stored}
use Rattle.nxt_values.proofs.Fill.Bytes as puts
use Rattle.nxt_values.proofs.Fill.Growing.{alive_other, region_other, region_bytes, grows_then}
use Rattle.nxt_values.proofs.Laws.Needs.{taken, spends_same, spends_then, spends_taken, spends_put}
use Rattle.nxt_values.proofs.Laws.Without.{block_size}

-- ---- bytes of a region

other_list : (h : Lists) (region : Region) (bytes : List ℕ) (r : ℕ) → IsOther region r → list_at (with_bytes h region bytes) r ≡ list_at h r
other_list h Static bytes r other = refl
other_list h (Row q) bytes r other =
    get_or-set_other h.by_row q r (Some (record { stride = stride_at h q; bytes = bytes })) None (λ e. other (sym e))

alive_before : (h : Lists) (region : Region) (bytes : List ℕ) (r : ℕ) → IsRegion h region → IsAlive (with_bytes h region bytes) r → IsAlive h r
alive_before h Static bytes r there alive = alive
alive_before h (Row q) bytes r there alive =
    elim (cases_eq q r) [
      | inl same ↦ subst (IsAlive h) same there
      | inr other ↦ ap is_some (sym (other_list h (Row q) bytes r other)) ∙ alive
    ]

same_stride : (h : Lists) (region : Region) (bytes : List ℕ) → IsRegion h region → stride_in (with_bytes h region bytes) region ≡ stride_in h region
same_stride h Static bytes there = refl
same_stride h (Row q) bytes there =
    ap stride_of (at_row h q (Some (record { stride = stride_at h q; bytes = bytes })) there)

static_stays : (h : Lists) (region : Region) (bytes : List ℕ) → IsRow region → (with_bytes h region bytes).static_bytes ≡ h.static_bytes
static_stays h Static bytes row = absurd row
static_stays h (Row q) bytes row = refl

beside_put : (base b : ℕ) (q p : Span) (n : ℕ) → n ≡ p.width → IsBeside base b q p → puts.IsBeside (base + p.place) n b q
beside_put base b q p n wide (inl e) = inl (omega (arith, wide, e))
beside_put base b q p n wide (inr e) = inr e

-- bytes are stored in a span
pub grows_put : (h : Lists) (region : Region) (base : ℕ) (p : Span) (bs : List ℕ) → IsRegion h region → length bs ≡ p.width → Grows h (with_bytes h region (put bs (base + p.place) (bytes_in h region))) region base (p ∷ []) []
grows_put h region base p bs there wide =
    let xs = put bs (base + p.place) (bytes_in h region) in
    let bytes = bytes_with h region xs there in
    record {
      there = region_with h region xs there;
      long = ap length bytes ∙ length-put bs (base + p.place) (bytes_in h region);
      stride = same_stride h region xs there;
      beside = λ q b apart.
          ap (λ ys. take q.width (drop (b + q.place) ys)) bytes
          ∙ (put_same bs (base + p.place) (bytes_in h region) b (q ∷ []) (beside_put base b q p (length bs) wide apart.0, tt)).0;
      static = static_stays h region xs;
      kept = λ row a other. other_list h region xs row other;
      own = tt;
      fresh = tt;
      named = λ row a. inl (alive_before h region xs row there a);
    }

-- ---- rows

taken_other : (h : Lists) (row stride : ℕ) (bytes : List ℕ) (r : ℕ) → row ≢ r → list_at (taken h row stride bytes) r ≡ list_at h r
taken_other h row stride bytes r other =
    get_or-set_other (with_free_row h).by_row row r (Some (record { stride = stride; bytes = bytes })) None (λ e. other (sym e))
    ∙ (free_row_lists h (r ∷ [])).0

taken_row : (h : Lists) (row stride : ℕ) (bytes : List ℕ) → IsFree (with_free_row h).by_row row → list_at (taken h row stride bytes) row ≡ Some (record { stride = stride; bytes = bytes })
taken_row h row stride bytes free =
    get_or-set_same (with_free_row h).by_row row (Some (record { stride = stride; bytes = bytes })) None free.within

pub no_list : (h : Lists) (row : ℕ) → IsFree (with_free_row h).by_row row → list_at h row ≡ None
no_list h row free = sym (free_row_lists h (row ∷ [])).0 ∙ free.empty

it_is : (row r : ℕ) → row ≡ r → list_any (λ q. q == r) (row ∷ []) ≡ true
it_is row r e = ap (λ b. b || false) (eq-eqb row r e)

-- a free row is taken
pub grows_taken : (h : Lists) (region : Region) (base row stride : ℕ) (bytes : List ℕ) → IsRegion h region → IsFree (with_free_row h).by_row row → Grows h (taken h row stride bytes) region base [] (row ∷ []) × (bytes_in (taken h row stride bytes) region ≡ bytes_in h region)
grows_taken h region base row stride bytes there free =
    let g = taken h row stride bytes in
    let none = no_list h row free in
    let same = region_bytes h g region row there (region_other h region row there none) refl (λ r a other. taken_other h row stride bytes r other) in (
      record {
        there = same.0;
        long = ap length same.1;
        stride = same.2;
        beside = λ p b apart. ap (λ ys. take p.width (drop (b + p.place) ys)) same.1;
        static = λ r. refl;
        kept = λ r a other. taken_other h row stride bytes r (λ e. alive_other h r row a none (sym e));
        own = (tt, tt);
        fresh = (none, tt);
        named = λ r a.
            elim (cases_eq row r) [
              | inl e ↦ inr (it_is row r e)
              | inr other ↦ inl (ap is_some (sym (taken_other h row stride bytes r other)) ∙ a)
            ];
      },
      same.1,
    )

-- a row is taken, and its number stored in a leaf
pub opens : (table : List TocEntry) (h g : Lists) (i : ℕ) (region : Region) (base at row stride : ℕ) (bytes : List ℕ) (count : ℕ) → IsRegion h region → at ≡ leaf_place table i base → at + 2 ≤ length (bytes_in h region) → row < 2 ^ 16 → length bytes ≡ count * stride → IsFree (with_free_row h).by_row row → g ≡ with_bytes (taken h row stride bytes) region (put (to_le_bytes w16 row) at (bytes_in h region)) → IsOpened table h g i region base row stride count
opens table h g i region base at row stride bytes count there place within small many free e =
    let k = taken h row stride bytes in
    let first = grows_taken h region base row stride bytes there free in
    let bs = to_le_bytes w16 row in
    let f = with_bytes k region (put bs (base + (span table i 2).place) (bytes_in k region)) in
    let second = grows_put k region base (span table i 2) bs first.0.there refl in
    let is : g ≡ f = e ∙ ap (λ xs. with_bytes k region (put bs at xs)) (sym first.1) ∙ ap (λ p. with_bytes k region (put bs p (bytes_in k region))) place in
    let alive : Each (IsAlive k) (row ∷ []) = (ap is_some (taken_row h row stride bytes free), tt) in
    let both =
    grows_then h k f region base base base [] (span table i 2 ∷ []) (span table i 2 ∷ []) (row ∷ []) [] first.0 second alive (λ p b all. (tt, all))
    in
    let other = region_other h region row there (no_list h row free) in
    let list : list_at f row ≡ Some (record { stride = stride; bytes = bytes }) =
    other_list k region (put bs (base + (span table i 2).place) (bytes_in k region)) row other ∙ taken_row h row stride bytes free in
    let stored : bytes_in f region ≡ put bs (leaf_place table i base) (bytes_in h region) =
    bytes_with k region (put bs (base + (span table i 2).place) (bytes_in k region)) first.0.there ∙ ap (put bs (leaf_place table i base)) first.1 in
    subst
    (λ x. IsOpened table h x i region base row stride count)
    (sym is)
    (record {
      grows = both;
      named = ap (λ ys. u16_at ys (leaf_place table i base)) stored ∙ row_stored row (leaf_place table i base) (bytes_in h region) small (omega (arith, within, place));
      alive = ap is_some list;
      wide = ap stride_of list;
      long = ap (λ o. length (bytes_of o)) list ∙ many;
      spends = spends_same
          h
          f
          (1 + 0)
          (round4 (length bytes) + 0)
          1
          (round4 (count * stride))
          (omega arith)
          (omega (arith, ap round4 many))
          (spends_then h k f 1 (round4 (length bytes)) 0 0 (spends_taken h row stride bytes free) (spends_put k region bs (base + (span table i 2).place) first.0.there));
    })

-- a row is taken whose number stands in the leaf
pub opens_again : (table : List TocEntry) (h g : Lists) (i : ℕ) (region : Region) (base row stride : ℕ) (bytes : List ℕ) (count : ℕ) → IsRegion h region → row_in table i (bytes_in h region) base ≡ row → length bytes ≡ count * stride → IsFree (with_free_row h).by_row row → g ≡ taken h row stride bytes → IsOpened table h g i region base row stride count
opens_again table h g i region base row stride bytes count there named many free is =
    let k = taken h row stride bytes in
    let first = grows_taken h region base row stride bytes there free in
    let list = taken_row h row stride bytes free in
    subst
    (λ x. IsOpened table h x i region base row stride count)
    (sym is)
    (record {
      grows = record {
        there = first.0.there;
        long = first.0.long;
        stride = first.0.stride;
        beside = λ p b apart. first.0.beside p b tt;
        static = first.0.static;
        kept = first.0.kept;
        own = first.0.own;
        fresh = first.0.fresh;
        named = first.0.named;
      };
      named = ap (λ ys. row_in table i ys base) first.1 ∙ named;
      alive = ap is_some list;
      wide = ap stride_of list;
      long = ap (λ o. length (bytes_of o)) list ∙ many;
      spends = spends_same h k 1 (round4 (length bytes)) 1 (round4 (count * stride)) refl (ap round4 many) (spends_taken h row stride bytes free);
    })

-- ---- the footprint

footprint_region : (h : Lists) (region : Region) (bytes : List ℕ) → IsRegion h region → length bytes ≡ length (bytes_in h region) → footprint (with_bytes h region bytes) ≡ footprint h
footprint_region h Static bytes there long = ap (λ n. round4 n + round4 (10 * length h.by_row) + sum_by block_of h.by_row) long
footprint_region h (Row q) bytes there long =
    omega (
      arith,
      footprint-with_list h q (Some (record { stride = stride_at h q; bytes = bytes })) (alive_within h q there),
      block_size (list_at h q),
      ap round4 long,
    )

pub footprint_put : (h : Lists) (region : Region) (bs : List ℕ) (at : ℕ) → IsRegion h region → footprint (with_bytes h region (put bs at (bytes_in h region))) ≡ footprint h
footprint_put h region bs at there = footprint_region h region (put bs at (bytes_in h region)) there (length-put bs at (bytes_in h region))

-- ---- a list that is made

pub made_empty : (h k : Lists) (row stride : ℕ) → IsFree (with_free_row h).by_row row → k ≡ with_list (with_free_row h) row (empty_list stride) → list_at k row ≡ empty_list stride
made_empty h k row stride free is =
    ap (λ x. list_at x row) is ∙ get_or-set_same (with_free_row h).by_row row (empty_list stride) None free.within

pub made_long : (h k g : Lists) (row stride n : ℕ) → IsFree (with_free_row h).by_row row → k ≡ with_list (with_free_row h) row (empty_list stride) → g ≡ with_length k row n → g ≡ taken h row stride (of_length n [])
made_long h k g row stride n free is long =
    let same = made_empty h k row stride free is in
    long
    ∙ ap (λ o. with_list k row (Some (record { stride = stride_of o; bytes = of_length n (bytes_of o) }))) same
    ∙ ap (λ x. with_list x row (Some (record { stride = stride; bytes = of_length n [] }))) is
    ∙ ap
    (λ rows. record h { by_row = rows })
    (set-set (with_free_row h).by_row row (empty_list stride) (Some (record { stride = stride; bytes = of_length n [] })))

pub region_taken : (h g : Lists) (region : Region) (row stride : ℕ) (bytes : List ℕ) → IsRegion h region → IsFree (with_free_row h).by_row row → g ≡ taken h row stride bytes → IsRegion g region × (bytes_in g region ≡ bytes_in h region)
region_taken h g region row stride bytes there free is =
    let grows = grows_taken h region 0 row stride bytes there free in
    (subst (λ x. IsRegion x region) (sym is) grows.0.there, ap (λ x. bytes_in x region) is ∙ grows.1)
