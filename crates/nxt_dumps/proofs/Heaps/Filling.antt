-- Each place that has room is filled in some heap.
use Rattle.std.proofs.Common.{◌≡◌, ◌≢◌, ℕ, zero, suc, ◌+◌, ◌-◌, ◌*◌, ◌^◌, ◌<◌, ◌≤◌, Bool, true, false, if◌then◌else◌, List, [], ◌∷◌, ◌++◌, length, get_or, drop, Option, Some, None, is_some, is_none, refl, sym, ap, ap₂, ◌∙◌, subst, arith, length-append, suc-mul}
use Rattle.std.specs.Prelude.{ℤ, nat_abs}
use Rattle.std.specs.Int.{to_le_bytes, w16}
use Rattle.std.specs.List.{list_any}
use Rattle.std.proofs.lemmas.List.Sums.{sum_by-cons}
use Rattle.std.proofs.lemmas.List.{length-set, get_or-set_other}
use Rattle.nxt_types.specs.Names.{size}
use Rattle.nxt_types.specs.Pool.{round4, pool_size}
use Rattle.nxt_types.specs.Shapes.{Shape, Void, Number, Array, Cluster, Mutex, Members, no_members, member}
use Rattle.nxt_types.specs.declared.shape.TocEntry.{TocEntry}
use Rattle.nxt_model.specs.Values.{many, lists_in, lists_among, items}
use Rattle.nxt_model.specs.Footprint.{list_bytes, member_bytes}
use Rattle.nxt_model.specs.Spans.{IsApart, AreApart, FitsIn, spans, spans_among}
use Rattle.nxt_heap.specs.Lists.{Lists, ByteList, list_at, bytes_at, stride_at, IsAlive, IsFree, with_free, any_free, of_length}
use Rattle.nxt_heap.proofs.Laws.Lengths.{length-of_length}
use Rattle.nxt_facts.proofs.Pairs.{pair_parts}
use Rattle.nxt_values.specs.Held.{leaf_place}
use Rattle.nxt_values.specs.Regions.{bytes_in, IsRegion}
use Rattle.nxt_values.specs.Writes.{with_bytes, put, bytes_of_number}
use Rattle.nxt_values.specs.Fills.{first_of, filled, all_filled, needs, needs_for, needs_for_all, needs_for_each, lists_of, bytes_of_lists, Fills, FillsAll, FillsEach, HasRoom, AllHaveRoom}
use Rattle.nxt_values.specs.declared.reading.Region.{Region}
use Rattle.nxt_values.specs.declared.reading.Region.TheVariants.{Static, Row}
use Rattle.nxt_values.proofs.Laws.FilledPlaces.{fits_more, member_filled, none_filled}
use Rattle.nxt_values.proofs.Laws.FilledElements.{element_filled, no_element_filled, list_filled, list_bytes_are}
use Rattle.nxt_values.proofs.Laws.Needs.{taken, needs_more, first_needs}
use Rattle.nxt_values.proofs.Laws.Opened.{opens, region_taken}
use Rattle.nxt_values.proofs.Laws.Steps.{void_filled, mutex_filled, number_filled, cluster_filled, member_room}

-- ---- rows

-- row 0 is there, and has no list
pub record HasFirst (h : Lists) : Type 0 where
  pub some : 1 ≤ length h.by_row
  pub first : list_at h 0 ≡ None

-- with other bytes in a region
first_with : (h : Lists) (region : Region) (bytes : List ℕ) → IsRegion h region → HasFirst h → HasFirst (with_bytes h region bytes)
first_with h Static bytes there f = record { some = f.some; first = f.first }
first_with h (Row q) bytes there f =
    let l : Option ByteList = Some (record { stride = stride_at h q; bytes = bytes }) in
    let other : q ≢ 0 = λ e. let g : ⊥ = cc (there, ap (λ r. is_some (list_at h r)) e, ap is_some f.first) in g in
    record {
      some = omega (arith, f.some, length-set h.by_row q l);
      first = get_or-set_other h.by_row q 0 l None (λ e. other (sym e)) ∙ f.first;
    }

free_first : (xs : List (Option ByteList)) (b : Bool) → any_free xs ≡ b → 1 ≤ length xs → get_or xs 0 None ≡ None → (1 ≤ length (if b then xs else xs ++ None ∷ [])) × (get_or (if b then xs else xs ++ None ∷ []) 0 None ≡ None)
free_first xs true is some first = (some, first)
free_first [] false is some first = absurd (omega (arith, some))
free_first (x ∷ xs) false is some first = (omega (arith, length-append xs (None ∷ [])), first)

-- with a row that is taken
first_taken : (h : Lists) (row stride : ℕ) (bytes : List ℕ) → 0 < row → HasFirst h → HasFirst (taken h row stride bytes)
first_taken h row stride bytes above f =
    let xs = with_free h.by_row in
    let l : Option ByteList = Some (record { stride = stride; bytes = bytes }) in
    let free = free_first h.by_row (any_free h.by_row) refl f.some f.first in
    record {
      some = omega (arith, free.0, length-set xs row l);
      first = get_or-set_other xs row 0 l None (λ e. omega (arith, e, above)) ∙ free.1;
    }

-- some row is free
record Free (xs : List (Option ByteList)) : Type 0 where
  row : ℕ
  free : IsFree xs row

none_there : (xs : List (Option ByteList)) → list_any is_none xs ≡ true → (k : ℕ) × (k < length xs) × (get_or xs k None ≡ None)
none_there [] e = let f : ⊥ = cc in absurd f
none_there (None ∷ xs) e = (0, omega arith, refl)
none_there (Some l ∷ xs) e = let rest = none_there xs e in (suc rest.0, omega (arith, rest.1), rest.2)

last_there : (xs : List (Option ByteList)) → get_or (xs ++ None ∷ []) (length xs) None ≡ None
last_there [] = refl
last_there (x ∷ xs) = last_there xs

free_by : (xs : List (Option ByteList)) (b : Bool) → any_free xs ≡ b → 1 ≤ length xs → Free (if b then xs else xs ++ None ∷ [])
free_by [] b is some = absurd (omega (arith, some))
free_by (x ∷ xs) true is some =
    let found = none_there xs is in
    record { row = suc found.0; free = record { above = omega arith; within = omega (arith, found.1); empty = found.2 } }
free_by (x ∷ xs) false is some =
    record { row = suc (length xs); free = record { above = omega arith; within = omega (arith, length-append xs (None ∷ [])); empty = last_there xs } }

free_row : (h : Lists) → HasFirst h → Free (with_free h.by_row)
free_row h f = free_by h.by_row (any_free h.by_row) refl f.some

-- ---- what fills places

-- numbers fill a place in some heap
abbrev pub Filled : List TocEntry → Lists → Shape → ℕ → Region → ℕ → List ℤ → Type 0
Filled table h s i region base zs = (g : Lists) × Fills table h g s i region base zs (filled s zs).1 × HasFirst g

abbrev pub AllFilled : List TocEntry → Lists → Members → ℕ → Region → ℕ → List ℤ → Type 0
AllFilled table h ss i region base zs = (g : Lists) × FillsAll table h g ss i region base zs (all_filled ss zs).1 × HasFirst g

-- each place with room for a shape does
abbrev Filler : List TocEntry → Shape → ℕ → Type 0
Filler table s i =
    (h : Lists) (region : Region) (base : ℕ) (zs : List ℤ) → IsRegion h region → HasFirst h → HasRoom table s i base (length (bytes_in h region)) → needs_for h s zs ≤ pool_size
    → Filled table h s i region base zs

abbrev EachFilled : List TocEntry → Lists → Shape → ℕ → ℕ → ℕ → ℕ → ℕ → List ℤ → Type 0
EachFilled table h s i row stride at n zs = (g : Lists) × FillsEach table h g s i row stride at n zs (many n (filled s) zs).1 × HasFirst g

-- ---- elements

each_filled : (table : List TocEntry) (s : Shape) (i : ℕ) → Filler table s i → (n : ℕ) (h : Lists) (row stride at : ℕ) (zs : List ℤ) → IsAlive h row → HasFirst h → AreApart (spans table s i) → FitsIn table s i stride
    → at + n * stride ≤ length (bytes_at h row) → needs_for_each h s n zs ≤ pool_size → EachFilled table h s i row stride at n zs
each_filled table s i fill zero h row stride at zs alive f apart fits room needed = (h, no_element_filled table h s i row stride at zs alive, f)
each_filled table s i fill (suc n) h row stride at zs alive f apart fits room needed =
    let size = length (bytes_at h row) in
    let one = (filled s zs).0 in
    let next = (filled s zs).1 in
    let m = lists_of s n next in
    let c = bytes_of_lists s n next in
    let wide : at + stride + n * stride ≤ size = omega (arith, room, suc-mul n stride) in
    let all : needs h (lists_in one + m) (list_bytes s one + c) ≤ pool_size = omega (arith, needed, ap (needs h (lists_in one + m)) (sum_by-cons (list_bytes s) one (items (many n (filled s) next).0))) in
    let first = fill h (Row row) at zs alive f (record { within = omega (arith, wide); apart = apart; fits = fits_more table s i stride (size - at) (omega (arith, wide)) fits })
    (omega (arith, needs_more h (lists_in one) (list_bytes s one) m c, all)) in
    let g = first.0 in
    let rest = each_filled table s i fill n g row stride (at + stride) next first.1.grows.there first.2 apart fits (omega (arith, wide, first.1.grows.long)) (omega (arith, first.1.spends m c, all)) in
    (rest.0, element_filled table h g rest.0 s i row stride at n zs next (many n (filled s) next).1 alive fits first.1 rest.1, rest.2)

-- ---- the whole

mutual
  fill : (table : List TocEntry) (s : Shape) (i : ℕ) → Filler table s i
  fill table Void i h region base zs there f room needed = (h, void_filled table h i region base zs (drop 1 zs) there refl, f)
  fill table (Number k) i h region base zs there f room needed =
      let at = leaf_place table i base in
      let g = with_bytes h region (put (bytes_of_number k (first_of zs)) at (bytes_in h region)) in (
        g,
        number_filled table h g k i region base at (first_of zs) zs (drop 1 zs) there refl (omega (arith, room.within, room.fits)) refl refl refl,
        first_with h region (put (bytes_of_number k (first_of zs)) at (bytes_in h region)) there f,
      )
  fill table (Array stride s) i h region base zs there f room needed =
      let n = nat_abs (first_of zs) in
      let left = drop 1 zs in
      let m = lists_of s n left in
      let c = bytes_of_lists s n left in
      let found = free_row h f in
      let row = found.row in
      let bytes = of_length (n * stride) [] in
      let at = leaf_place table i base in
      let k = taken h row stride bytes in
      let number = put (to_le_bytes w16 row) at (bytes_in h region) in
      let g = with_bytes k region number in
      let within : at + 2 ≤ length (bytes_in h region) = omega (arith, room.within, room.fits.0) in
      let one_more : m + 1 ≡ 1 + m = omega arith in
      let all : needs h (1 + m) (round4 (n * stride) + c) ≤ pool_size = omega (arith, needed, ap₂ (needs h) one_more (sym (list_bytes_are s stride n left))) in
      let small : row < 2 ^ 16 = omega (arith, found.free.within, first_needs h 0, needs_more h 1 0 m (round4 (n * stride) + c), all) in
      let opened = opens table h g i region base at row stride bytes n there refl within small (length-of_length (n * stride) []) found.free refl in
      let there_too = region_taken h k region row stride bytes there found.free refl in
      let first = first_with k region number there_too.0 (first_taken h row stride bytes found.free.above f) in
      let rest = each_filled table s (i + 1) (fill table s (i + 1)) n g row stride 0 left opened.alive first room.fits.3 room.fits.4 (omega (arith, opened.long)) (omega (arith, opened.spends m c, all)) in
      (rest.0, list_filled table h g rest.0 s stride i region base row n zs (many n (filled s) left).1 there room.fits.1 within refl opened rest.1, rest.2)
  fill table (Cluster ss) i h region base zs there f room needed =
      let all = fill_all table ss (i + 1) h region base zs there f (record { within = room.within; apart = room.apart; fits = room.fits }) needed in
      (all.0, cluster_filled table h all.0 ss i region base zs (all_filled ss zs).1 all.1, all.2)
  fill table Mutex i h region base zs there f room needed = (h, mutex_filled table h i region base zs (drop 1 zs) there refl, f)

  pub fill_all : (table : List TocEntry) (ss : Members) (i : ℕ) (h : Lists) (region : Region) (base : ℕ) (zs : List ℤ) → IsRegion h region → HasFirst h → AllHaveRoom table ss i base (length (bytes_in h region))
      → needs_for_all h ss zs ≤ pool_size → AllFilled table h ss i region base zs
  fill_all table no_members i h region base zs there f room needed = (h, none_filled table h i region base zs there, f)
  fill_all table (member s ss) i h region base zs there f room needed =
      let size_there = length (bytes_in h region) in
      let parts = pair_parts IsApart (spans table s i) (spans_among table ss (i + size s)) room.apart in
      let one = (filled s zs).0 in
      let next = (filled s zs).1 in
      let others = (all_filled ss next).0 in
      let m = lists_among others in
      let c = member_bytes ss (items others) in
      let first = fill table s i h region base zs there f (member_room table s ss i base size_there room) (omega (arith, needs_more h (lists_in one) (list_bytes s one) m c, needed)) in
      let g = first.0 in
      let room_left : AllHaveRoom table ss (i + size s) base (length (bytes_in g region)) =
      subst (AllHaveRoom table ss (i + size s) base) (sym first.1.grows.long) (record { within = room.within; apart = parts.rest; fits = room.fits.1 }) in
      let rest = fill_all table ss (i + size s) g region base next first.1.grows.there first.2 room_left (omega (arith, first.1.spends m c, needed)) in
      (rest.0, member_filled table h g rest.0 s ss i region base zs next (all_filled ss next).1 there parts.across first.1 rest.1, rest.2)
