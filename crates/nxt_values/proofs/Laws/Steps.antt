-- What is filled so far, and what is still to be filled.
use Rattle.std.proofs.Common.{◌≡◌, ℕ, suc, ◌+◌, ◌-◌, ◌*◌, ◌<◌, ◌≤◌, List, [], drop, length, refl, sym, ap, ◌∙◌, subst, arith, suc-mul}
use Rattle.std.specs.Prelude.{ℤ}
use Rattle.std.proofs.lemmas.Nat.{mul-le}
use Rattle.std.proofs.lemmas.List.Sums.{sum_by-cons}
use Rattle.nxt_types.specs.Arithmetic.{leaf_size}
use Rattle.nxt_types.specs.Shapes.{Shape, Void, Number, Cluster, Mutex, Members, no_members, member}
use Rattle.nxt_types.specs.Names.{size, sizes}
use Rattle.nxt_types.specs.declared.kind.Kind.{Kind}
use Rattle.nxt_types.specs.declared.shape.TocEntry.{TocEntry}
use Rattle.nxt_model.specs.Footprint.{list_bytes, member_bytes}
use Rattle.nxt_types.specs.Pool.{pool_size}
use Rattle.nxt_model.specs.Means.Text.{number_in}
use Rattle.nxt_model.specs.Values.{Num, GroupOf, items, many, lists_in, lists_among}
use Rattle.nxt_heap.specs.Lists.{Lists, bytes_at, IsAlive, footprint}
use Rattle.nxt_values.specs.Held.{leaf_place}
use Rattle.nxt_values.specs.Regions.{bytes_in, IsRegion}
use Rattle.nxt_model.specs.Spans.{span, spans, spans_among, IsApart, FitsIn, AreApart}
use Rattle.nxt_values.specs.Ahead.{behind}
use Rattle.nxt_values.specs.Writes.{with_bytes, put, bytes_of_number}
use Rattle.nxt_values.specs.Fills.{first_of, filled, all_filled, needs, needs_for, needs_for_all, needs_for_each, lists_of, bytes_of_lists, Fills, FillsAll, FillsEach, HasRoom, AllHaveRoom, FillsThere, FillAllThere, RoomThere, RoomForAll}
use Rattle.nxt_values.specs.Elements.{element_place, HaveRoom, FillsElements}
use Rattle.nxt_values.specs.declared.elements.Elements.{Elements}
use Rattle.nxt_values.specs.declared.reading.Region.{Region}
use Rattle.nxt_values.specs.declared.reading.Region.TheVariants.{Row}
use Rattle.nxt_values.specs.declared.reading.Place.{Place}
use Rattle.nxt_facts.proofs.Pairs.{pair_parts}
use Rattle.nxt_values.proofs.Laws.FilledPlaces.{fits_more, member_filled, none_filled}
use Rattle.nxt_values.proofs.Laws.FilledElements.{element_filled, no_element_filled}
use Rattle.nxt_values.proofs.Fill.Growing.{grows_none}
use Rattle.nxt_values.proofs.Laws.Needs.{needs_more, spends_none, spends_put}
use Rattle.nxt_values.proofs.Laws.Opened.{grows_put}
use Rattle.nxt_values.proofs.Fill.Bytes.{bytes_with, length-put, number_size, number_stored}

-- ---- leaves

pub void_filled : (table : List TocEntry) (h : Lists) (i : ℕ) (region : Region) (base : ℕ) (zs rest : List ℤ) → IsRegion h region → rest ≡ drop 1 zs → Fills table h h Void i region base zs rest
void_filled table h i region base zs rest there e =
    record { value = refl; others = e; holds = tt; grows = grows_none h region base [] there; spends = spends_none h }

pub mutex_filled : (table : List TocEntry) (h : Lists) (i : ℕ) (region : Region) (base : ℕ) (zs rest : List ℤ) → IsRegion h region → rest ≡ drop 1 zs → Fills table h h Mutex i region base zs rest
mutex_filled table h i region base zs rest there e =
    record { value = refl; others = e; holds = tt; grows = grows_none h region base (spans table Mutex i) there; spends = spends_none h }

pub number_filled : (table : List TocEntry) (h g : Lists) (k : Kind) (i : ℕ) (region : Region) (base at : ℕ) (x : ℤ) (zs rest : List ℤ) → IsRegion h region → at ≡ leaf_place table i base → at + leaf_size k ≤ length (bytes_in h region) → x ≡ first_of zs → rest ≡ drop 1 zs → g ≡ with_bytes h region (put (bytes_of_number k x) at (bytes_in h region)) → Fills table h g (Number k) i region base zs rest
number_filled table h g k i region base at x zs rest there place within first e is =
    let bs = bytes_of_number k (first_of zs) in
    let p = leaf_place table i base in
    let xs = put bs p (bytes_in h region) in
    let f = with_bytes h region xs in
    let same : g ≡ f = is ∙ ap (λ q. with_bytes h region (put (bytes_of_number k x) q (bytes_in h region))) place ∙ ap (λ y. with_bytes h region (put (bytes_of_number k y) p (bytes_in h region))) first in
    let bytes : bytes_in f region ≡ xs = bytes_with h region xs there in
    let fits : p + leaf_size k ≤ length (bytes_in h region) = omega (arith, place, within) in
    subst
    (λ y. Fills table h y (Number k) i region base zs rest)
    (sym same)
    (record {
      value = ap (λ ys. Num (number_in k (drop p ys))) bytes ∙ ap Num (number_stored k (first_of zs) p (bytes_in h region) fits);
      others = e;
      holds = omega (arith, fits, ap length bytes, length-put bs p (bytes_in h region));
      grows = grows_put h region base (span table i (leaf_size k)) bs there (number_size k (first_of zs));
      spends = spends_put h region bs p there;
    })

pub cluster_filled : (table : List TocEntry) (h g : Lists) (ss : Members) (i : ℕ) (region : Region) (base : ℕ) (zs rest : List ℤ) → FillsAll table h g ss (i + 1) region base zs rest → Fills table h g (Cluster ss) i region base zs rest
cluster_filled table h g ss i region base zs rest e =
    record { value = ap GroupOf e.value; others = e.others; holds = e.holds; grows = e.grows; spends = e.spends }

-- ---- elements

-- from number k on the elements of a list are still to be filled, and whatever fills them fills the whole
pub record ElementsLeft (table : List TocEntry) (g : Lists) (s : Shape) (e : Elements) (k : ℕ) (left : List ℤ) (total : ℕ) (Whole : Lists → List ℤ → Type 0) : Type 0 where
  pub pool : footprint g ≤ pool_size
  pub alive : IsAlive g e.row
  pub long : length (bytes_at g e.row) ≡ e.count * e.stride
  pub apart : AreApart (spans table s e.entry)
  pub fits : FitsIn table s e.entry e.stride
  pub needed : needs g (lists_of s (e.count - k) left) (bytes_of_lists s (e.count - k) left) ≡ total
  pub onward : (f : Lists) (rest : List ℤ) → FillsEach table g f s e.entry e.row e.stride (k * e.stride) (e.count - k) left rest → Whole f rest

-- there is room for the next one
pub element_room : {table : List TocEntry} {g : Lists} {s : Shape} {e : Elements} {k : ℕ} {place : Place} {left : List ℤ} {total : ℕ} {Whole : Lists → List ℤ → Type 0} → ElementsLeft table g s e k left total Whole → k < e.count → place ≡ element_place e k → RoomThere table g s place
element_room {table} {g} {s} {e} {k} all less at =
    let room : k * e.stride + e.stride ≤ e.count * e.stride = omega (arith, mul-le (suc k) e.stride e.count e.stride (omega (arith, less)) (omega arith), suc-mul k e.stride) in
    subst
    (RoomThere table g s)
    (sym at)
    (record {
      within = omega (arith, room, all.long);
      apart = all.apart;
      fits = fits_more table s e.entry e.stride (length (bytes_at g e.row) - k * e.stride) (omega (arith, room, all.long)) all.fits;
    })

next_needs : (g : Lists) (s : Shape) (n : ℕ) (left next : List ℤ) → next ≡ (filled s left).1 → needs g (lists_in (filled s left).0 + lists_of s n next) (list_bytes s (filled s left).0 + bytes_of_lists s n next) ≡ needs g (lists_of s (suc n) left) (bytes_of_lists s (suc n) left)
next_needs g s n left next e =
    let one = (filled s left).0 in
    let others = (many n (filled s) (filled s left).1).0 in
    ap (λ z. needs g (lists_in one + lists_of s n z) (list_bytes s one + bytes_of_lists s n z)) e
    ∙ ap (needs g (lists_in one + lists_among others)) (sym (sum_by-cons (list_bytes s) one (items others)))

-- and then it is filled
pub element_done : {table : List TocEntry} {g f : Lists} {s : Shape} {e : Elements} {k : ℕ} {place : Place} {left next : List ℤ} {total : ℕ} {Whole : Lists → List ℤ → Type 0} → ElementsLeft table g s e k left total Whole → k < e.count → place ≡ element_place e k → footprint f ≤ pool_size → FillsThere table g f s place left next → ElementsLeft table f s e (k + 1) next total Whole
element_done {table} {g} {f} {s} {e} {k} {place} {left} {next} {total} {Whole} all less at pool filled_there =
    let fills : Fills table g f s e.entry (Row e.row) (k * e.stride) left next = subst (λ (p : Place). FillsThere table g f s p left next) at filled_there in
    let others = e.count - (k + 1) in
    let many : e.count - k ≡ suc others = omega (arith, less) in
    let after : (k + 1) * e.stride ≡ k * e.stride + e.stride = let a : k + 1 ≡ suc k = omega arith in omega (arith, ap (λ n. n * e.stride) a, suc-mul k e.stride) in
    record {
      pool = pool;
      alive = fills.grows.there;
      long = fills.grows.long ∙ all.long;
      apart = all.apart;
      fits = all.fits;
      needed = sym (fills.spends (lists_of s others next) (bytes_of_lists s others next))
          ∙ next_needs g s others left next fills.others
          ∙ ap (λ n. needs g (lists_of s n left) (bytes_of_lists s n left)) (sym many)
          ∙ all.needed;
      onward = λ x rest each.
          all.onward
          x
          rest
          (subst
          (λ n. FillsEach table g x s e.entry e.row e.stride (k * e.stride) n left rest)
          (sym many)
          (element_filled table g f x s e.entry e.row e.stride (k * e.stride) others left next rest all.alive all.fits fills (subst (λ b. FillsEach table f x s e.entry e.row e.stride b others next rest) after each)));
    }

-- ---- members

-- these members take no more than so many entries and are still to be filled, and whatever fills them fills the whole
pub record MembersLeft (table : List TocEntry) (g : Lists) (all : ℕ) (left : List ℤ) (total : ℕ) (Whole : Lists → List ℤ → Type 0) (ss : Members) (p : Place) : Type 0 where
  pub less : sizes ss ≤ all
  pub pool : footprint g ≤ pool_size
  pub there : IsRegion g p.region
  pub room : RoomForAll table g ss p
  pub needed : needs_for_all g ss left ≡ total
  pub onward : (f : Lists) (rest : List ℤ) → FillAllThere table g f ss p left rest → Whole f rest

pub member_room : (table : List TocEntry) (s : Shape) (ss : Members) (entry base n : ℕ) → AllHaveRoom table (member s ss) entry base n → HasRoom table s entry base n
member_room table s ss entry base n e =
    record {
      within = e.within;
      apart = (pair_parts IsApart (spans table s entry) (spans_among table ss (entry + size s)) e.apart).first;
      fits = e.fits.0;
    }

pub member_done : {table : List TocEntry} {g f : Lists} {all : ℕ} {left next : List ℤ} {total : ℕ} {Whole : Lists → List ℤ → Type 0} {s : Shape} {ss : Members} {at : Place} → MembersLeft table g all left total Whole (member s ss) at → footprint f ≤ pool_size → FillsThere table g f s at left next → MembersLeft table f all next total Whole ss (behind at (size s))
member_done {table} {g} {f} {all} {left} {next} {total} {Whole} {s} {ss} {at} e pool fills =
    let parts = pair_parts IsApart (spans table s at.entry) (spans_among table ss (at.entry + size s)) e.room.apart in
    record {
      less = omega (arith, e.less);
      pool = pool;
      there = fills.grows.there;
      room = subst
          (AllHaveRoom table ss (at.entry + size s) at.base)
          (sym fills.grows.long)
          (record { within = e.room.within; apart = parts.rest; fits = e.room.fits.1 });
      needed = sym (fills.spends (lists_among (all_filled ss next).0) (member_bytes ss (items (all_filled ss next).0)))
          ∙ ap
          (λ z. needs g (lists_in (filled s left).0 + lists_among (all_filled ss z).0) (list_bytes s (filled s left).0 + member_bytes ss (items (all_filled ss z).0)))
          fills.others
          ∙ e.needed;
      onward = λ x rest others.
          e.onward x rest (member_filled table g f x s ss at.entry at.region at.base left next rest e.there parts.across fills others);
    }

-- ---- where the elements begin and end

-- all elements of a list are still to be filled
pub elements_begin : {table : List TocEntry} {g : Lists} {s : Shape} {e : Elements} {left : List ℤ} → footprint g ≤ pool_size → HaveRoom table g s e → ElementsLeft table g s e 0 left (needs_for_each g s e.count left) (λ f rest. FillsElements table g f s e left rest)
elements_begin {table} {g} {s} {e} {left} pool room =
    let first : 0 * e.stride ≡ 0 = omega arith in
    let all : e.count - 0 ≡ e.count = omega arith in
    record {
      pool = pool;
      alive = room.alive;
      long = room.long;
      apart = room.apart;
      fits = room.fits;
      needed = ap (λ n. needs_for_each g s n left) all;
      onward = λ f rest each.
          subst
          (λ n. FillsEach table g f s e.entry e.row e.stride 0 n left rest)
          all
          (subst (λ p. FillsEach table g f s e.entry e.row e.stride p (e.count - 0) left rest) first each);
    }

pub elements_end : {table : List TocEntry} {g : Lists} {s : Shape} {e : Elements} {k : ℕ} {left : List ℤ} {total : ℕ} {Whole : Lists → List ℤ → Type 0} → ElementsLeft table g s e k left total Whole → e.count ≤ k → Whole g left
elements_end {table} {g} {s} {e} {k} {left} all end =
    let none : 0 ≡ e.count - k = omega (arith, end) in
    all.onward
    g
    left
    (subst
    (λ n. FillsEach table g g s e.entry e.row e.stride (k * e.stride) n left left)
    none
    (no_element_filled table g s e.entry e.row e.stride (k * e.stride) left all.alive))

pub members_end : {table : List TocEntry} {g : Lists} {all : ℕ} {left : List ℤ} {total : ℕ} {Whole : Lists → List ℤ → Type 0} {ss : Members} {p : Place} → ss ≡ no_members → MembersLeft table g all left total Whole ss p → Whole g left
members_end {table} {g} {all} {left} {total} {Whole} {ss} {p} none e =
    e.onward
    g
    left
    (subst (λ ts. FillAllThere table g g ts p left left) (sym none) (none_filled table g p.entry p.region p.base left e.there))

-- ---- what the pool does not hold

-- the next element needs no more than all that are left
pub element_passed : {table : List TocEntry} {g : Lists} {s : Shape} {e : Elements} {k : ℕ} {left : List ℤ} {total : ℕ} {Whole : Lists → List ℤ → Type 0} → ElementsLeft table g s e k left total Whole → k < e.count → pool_size < needs_for g s left → pool_size < total
element_passed {table} {g} {s} {e} {k} {left} all less passed =
    let m = e.count - (k + 1) in
    let is : e.count - k ≡ suc m = omega (arith, less) in
    let next = (filled s left).1 in
    omega (
      arith,
      passed,
      needs_more g (lists_in (filled s left).0) (list_bytes s (filled s left).0) (lists_of s m next) (bytes_of_lists s m next),
      next_needs g s m left next refl,
      ap (λ n. needs g (lists_of s n left) (bytes_of_lists s n left)) is,
      all.needed,
    )
