-- Elements that are filled one after another.
use Rattle.nxt_values.proofs.Laws.FilledPlaces.{spans_fit}
use Rattle.std.proofs.Common.{◌≡◌, ℕ, zero, suc, ◌+◌, ◌*◌, ◌/◌, ◌≤◌, inl, inr, List, [], ◌∷◌, ◌++◌, map, flat_map, drop, length, sum_by, Some, refl, sym, ap, ap₂, ◌∙◌, subst, arith, mul-div_cancel, suc-mul}
use Rattle.std.specs.Prelude.{ℤ, nat_abs}
use Rattle.std.proofs.lemmas.List.Sums.{sum_by-cons}
use Rattle.nxt_types.specs.Shapes.{Shape, Array}
use Rattle.nxt_types.specs.declared.shape.TocEntry.{TocEntry}
use Rattle.nxt_model.specs.Values.{ListOf, Front, items, list_of, many, lists_in, lists_among, value}
use Rattle.nxt_model.specs.Footprint.{list_bytes}
use Rattle.nxt_types.specs.Pool.{round4}
use Rattle.nxt_facts.specs.Places.{places_from}
use Rattle.nxt_facts.proofs.Each.{Each, each_then}
use Rattle.nxt_heap.specs.Lists.{Lists, list_at, bytes_at, IsAlive}
use Rattle.nxt_values.specs.Held.{leaf_place, row_in, element_starts, value_at, rows_at, HasElements, Holds}
use Rattle.nxt_values.specs.Regions.{bytes_in, IsRegion}
use Rattle.nxt_model.specs.Spans.{Span, end_of, span, spans, FitsIn}
use Rattle.nxt_values.specs.Fills.{first_of, filled, lists_of, bytes_of_lists, elements_span, IsBeside, Grows, Fills, FillsEach, IsOpened, Spends}
use Rattle.nxt_values.specs.declared.reading.Region.{Region}
use Rattle.nxt_values.specs.declared.reading.Region.TheVariants.{Row}
use Rattle.nxt_values.proofs.Fill.Growing.{grows_then, grows_inside, grows_none}
use Rattle.nxt_values.proofs.Laws.HeldRows.{rows_alive}
use Rattle.nxt_values.proofs.Laws.Needs.{spends_none, spends_same, spends_then}
use Rattle.nxt_values.proofs.Fill.Bytes.{some_list}
use Rattle.nxt_values.proofs.Laws.FilledPlaces.{filled_stays}

-- ---- elements

pub items_many : (next : List ℤ → Front) (n : ℕ) (zs : List ℤ) → length (items (many n next zs).0) ≡ n
items_many next zero zs = refl
items_many next (suc n) zs = let e = items_many next n (next zs).1 in omega (arith, e)

-- the bytes of a list of n elements and of those in them
pub list_bytes_are : (s : Shape) (stride n : ℕ) (zs : List ℤ) → round4 (n * stride) + bytes_of_lists s n zs ≡ list_bytes (Array stride s) (ListOf (many n (filled s) zs).0)
list_bytes_are s stride n zs = ap (λ m. round4 (m * stride) + bytes_of_lists s n zs) (sym (items_many (filled s) n zs))

pub no_element_filled : (table : List TocEntry) (h : Lists) (s : Shape) (i row stride at : ℕ) (zs : List ℤ) → IsAlive h row → FillsEach table h h s i row stride at 0 zs zs
no_element_filled table h s i row stride at zs alive =
    record {
      value = refl;
      others = refl;
      holds = tt;
      grows = grows_none h (Row row) 0 (elements_span stride at 0 ∷ []) alive;
      spends = spends_none h;
    }

inside_beside : (at b stride n : ℕ) (p q : Span) → end_of q ≤ stride → IsBeside 0 b p (elements_span stride at (suc n)) → IsBeside at b p q
inside_beside at b stride n p q fits (inl e) = inl (omega (arith, fits, e, suc-mul n stride))
inside_beside at b stride n p q fits (inr e) = inr (omega (arith, e))

behind_beside : (at b stride n : ℕ) (p : Span) → IsBeside 0 b p (elements_span stride at (suc n)) → IsBeside 0 b p (elements_span stride (at + stride) n)
behind_beside at b stride n p (inl e) = inl (omega (arith, e, suc-mul n stride))
behind_beside at b stride n p (inr e) = inr (omega (arith, e))

pub element_filled : (table : List TocEntry) (h g f : Lists) (s : Shape) (i row stride at n : ℕ) (zs mid rest : List ℤ) → IsAlive h row → FitsIn table s i stride → Fills table h g s i (Row row) at zs mid → FillsEach table g f s i row stride (at + stride) n mid rest → FillsEach table h f s i row stride at (suc n) zs rest
element_filled table h g f s i row stride at n zs mid rest alive fits e k =
    let behind = elements_span stride (at + stride) n in
    let rows = flat_map (rows_at table f s i (bytes_at f row)) (places_from (at + stride) stride n) in
    let room = spans_fit table s i stride fits in
    let beside : Each (λ p. Each (IsBeside 0 at p) (behind ∷ [])) (spans table s i) =
    each_then
    (λ p. end_of p ≤ stride)
    (λ p. Each (IsBeside 0 at p) (behind ∷ []))
    (λ p less. (inr (omega (arith, less)), tt))
    (spans table s i)
    room
    in
    let one = (filled s zs).0 in
    let others = (many n (filled s) (filled s zs).1).0 in
    let stays = filled_stays table h g f s i (Row row) at 0 (behind ∷ []) rows zs mid alive e k.grows beside in
    record {
      value = ap₂ value (stays.value ∙ e.value) (k.value ∙ ap (λ z. (many n (filled s) z).0) e.others);
      others = k.others ∙ ap (λ z. (many n (filled s) z).1) e.others;
      holds = (stays.holds e.holds, k.holds);
      grows = subst
          (λ rs. Grows h f (Row row) 0 (elements_span stride at (suc n) ∷ []) (rs ++ rows))
          (sym stays.rows)
          (grows_then
          h
          g
          f
          (Row row)
          at
          0
          0
          (spans table s i)
          (behind ∷ [])
          (elements_span stride at (suc n) ∷ [])
          (rows_at table g s i (bytes_at g row) at)
          rows
          e.grows
          k.grows
          (rows_alive table g s i (bytes_at g row) at e.holds)
          (λ p b all. (
            each_then (λ q. end_of q ≤ stride) (IsBeside at b p) (λ q less. inside_beside at b stride n p q less all.0) (spans table s i) room,
            (behind_beside at b stride n p all.0, tt),
          )));
      spends = spends_same
          h
          f
          (lists_in one + lists_among others)
          (list_bytes s one + sum_by (list_bytes s) (items others))
          (lists_in one + lists_among others)
          (sum_by (list_bytes s) (one ∷ items others))
          refl
          (sym (sum_by-cons (list_bytes s) one (items others)))
          (spends_then
          h
          g
          f
          (lists_in one)
          (list_bytes s one)
          (lists_among others)
          (sum_by (list_bytes s) (items others))
          e.spends
          (subst (λ z. Spends g f (lists_of s n z) (bytes_of_lists s n z)) e.others k.spends));
    }

-- ---- lists

pub list_filled : (table : List TocEntry) (h g f : Lists) (s : Shape) (stride i : ℕ) (region : Region) (base row n : ℕ) (zs rest : List ℤ) → IsRegion h region → 1 ≤ stride → leaf_place table i base + 2 ≤ length (bytes_in h region) → n ≡ nat_abs (first_of zs) → IsOpened table h g i region base row stride n → FillsEach table g f s (i + 1) row stride 0 n (drop 1 zs) rest → Fills table h f (Array stride s) i region base zs rest
list_filled table h g f s stride i region base row n zs rest there some within count e k =
    let inner = flat_map (rows_at table f s (i + 1) (bytes_at f row)) (places_from 0 stride n) in
    let both = grows_inside h g f region base 0 (span table i 2 ∷ []) (elements_span stride 0 n ∷ []) row inner there e.grows e.alive k.grows in
    let named : row_in table i (bytes_in f region) base ≡ row = ap (λ bytes. row_in table i bytes base) both.1 ∙ e.named in
    let long : length (bytes_at f row) ≡ n * stride = k.grows.long ∙ e.long in
    let many_are : length (bytes_at f row) / stride ≡ n = ap (λ m. m / stride) long ∙ mul-div_cancel n some in
    let list = λ (q : ℕ). list_of (map (value_at table f s (i + 1) (bytes_at f q)) (element_starts stride (bytes_at f q))) in
    let rows = λ (q : ℕ). q ∷ flat_map (rows_at table f s (i + 1) (bytes_at f q)) (element_starts stride (bytes_at f q)) in
    let has : HasElements f row stride (Holds table f s (i + 1)) = record {
      count = n;
      bytes = bytes_at f row;
      some = some;
      here = sym (some_list (list_at f row) k.grows.there)
          ∙ ap (λ m. Some (record { stride = m; bytes = bytes_at f row })) (k.grows.stride ∙ e.wide);
      whole = long;
      elements = k.holds;
    } in
    record {
      value = ap list named
          ∙ ap (λ m. list_of (map (value_at table f s (i + 1) (bytes_at f row)) (places_from 0 stride m))) many_are
          ∙ ap ListOf k.value
          ∙ ap (λ m. ListOf (many m (filled s) (drop 1 zs)).0) count;
      others = k.others ∙ ap (λ m. (many m (filled s) (drop 1 zs)).1) count;
      holds = (
        omega (arith, within, both.0.long),
        subst (λ q. HasElements f q stride (Holds table f s (i + 1))) (sym named) has,
      );
      grows = subst
          (Grows h f region base (span table i 2 ∷ []))
          (sym (ap rows named ∙ ap (λ m. row ∷ flat_map (rows_at table f s (i + 1) (bytes_at f row)) (places_from 0 stride m)) many_are))
          both.0;
      spends = subst
          (λ m. Spends h f (lists_of s m (drop 1 zs) + 1) (list_bytes (Array stride s) (ListOf (many m (filled s) (drop 1 zs)).0)))
          count
          (spends_same
          h
          f
          (1 + lists_of s n (drop 1 zs))
          (round4 (n * stride) + bytes_of_lists s n (drop 1 zs))
          (lists_of s n (drop 1 zs) + 1)
          (list_bytes (Array stride s) (ListOf (many n (filled s) (drop 1 zs)).0))
          (omega arith)
          (list_bytes_are s stride n (drop 1 zs))
          (spends_then h g f 1 (round4 (n * stride)) (lists_of s n (drop 1 zs)) (bytes_of_lists s n (drop 1 zs)) e.spends k.spends));
    }
