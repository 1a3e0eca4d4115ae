-- Places that are filled member by member, and what was filled stays.
use Rattle.std.proofs.Common.{◌≡◌, ℕ, ◌+◌, ◌≤◌, inl, inr, List, [], ◌++◌, None, refl, sym, ap, ap₂, ◌∙◌, subst, arith}
use Rattle.std.specs.Prelude.{ℤ}
use Rattle.nxt_types.specs.Shapes.{Shape, Void, Number, Array, Cluster, Mutex, Members, no_members, member}
use Rattle.nxt_types.specs.Names.{size}
use Rattle.nxt_types.specs.declared.shape.TocEntry.{TocEntry}
use Rattle.nxt_model.specs.Values.{items, lists_in, lists_among, value}
use Rattle.nxt_model.specs.Footprint.{list_bytes, member_bytes}
use Rattle.nxt_facts.proofs.Each.{Each, each_then, each_both, each_apart, each_join}
use Rattle.nxt_heap.specs.Lists.{Lists, list_at, IsAlive}
use Rattle.nxt_values.specs.Held.{rows_at, rows_among}
use Rattle.nxt_values.specs.Regions.{bytes_in, IsRegion}
use Rattle.nxt_model.specs.Spans.{Span, end_of, spans, spans_among, IsApart, FitsIn, FitAll}
use Rattle.nxt_values.specs.Fills.{filled, all_filled, IsBeside, Grows, Fills, FillsAll, Spends}
use Rattle.nxt_values.specs.declared.reading.Region.{Region}
use Rattle.nxt_facts.proofs.Pairs.{Across}
use Rattle.nxt_values.proofs.Hold.Frames.{IsSame, KeepsList, Stays, shape_stays}
use Rattle.nxt_values.proofs.Fill.Growing.{region_other, grows_then, grows_none}
use Rattle.nxt_values.proofs.Laws.HeldRows.{rows_alive}
use Rattle.nxt_values.proofs.Laws.Needs.{spends_none, spends_then}

-- ---- room

mutual
  pub spans_fit : (table : List TocEntry) (s : Shape) (i room : ℕ) → FitsIn table s i room → Each (λ p. end_of p ≤ room) (spans table s i)
  spans_fit table Void i room e = tt
  spans_fit table (Number k) i room e = (e, tt)
  spans_fit table (Array stride s) i room e = (e.0, tt)
  spans_fit table (Cluster ss) i room e = all_fit table ss (i + 1) room e
  spans_fit table Mutex i room e = (e, tt)

  pub all_fit : (table : List TocEntry) (ss : Members) (i room : ℕ) → FitAll table ss i room → Each (λ p. end_of p ≤ room) (spans_among table ss i)
  all_fit table no_members i room e = tt
  all_fit table (member s ss) i room e =
      each_join (λ p. end_of p ≤ room) (spans table s i) (spans_among table ss (i + size s)) (spans_fit table s i room e.0) (all_fit table ss (i + size s) room e.1)

mutual
  pub fits_more : (table : List TocEntry) (s : Shape) (i room more : ℕ) → room ≤ more → FitsIn table s i room → FitsIn table s i more
  fits_more table Void i room more le e = tt
  fits_more table (Number k) i room more le e = omega (arith, le, e)
  fits_more table (Array stride s) i room more le e = (omega (arith, le, e.0), e.1, e.2, e.3, e.4)
  fits_more table (Cluster ss) i room more le e = all_more table ss (i + 1) room more le e
  fits_more table Mutex i room more le e = omega (arith, le, e)

  pub all_more : (table : List TocEntry) (ss : Members) (i room more : ℕ) → room ≤ more → FitAll table ss i room → FitAll table ss i more
  all_more table no_members i room more le e = tt
  all_more table (member s ss) i room more le e = (fits_more table s i room more le e.0, all_more table ss (i + size s) room more le e.1)

-- ---- what was filled stays

-- a value that was filled stays with a change beside it
pub filled_stays : (table : List TocEntry) (h g f : Lists) (s : Shape) (i : ℕ) (region : Region) (base second : ℕ) (ps : List Span) (rows : List ℕ) (zs mid : List ℤ) → IsRegion h region → Fills table h g s i region base zs mid → Grows g f region second ps rows → Each (λ p. Each (IsBeside second base p) ps) (spans table s i) → Stays table g f s i (bytes_in g region) (bytes_in f region) base
filled_stays table h g f s i region base second ps rows zs mid there e k apart =
    let had = rows_at table g s i (bytes_in g region) base in
    shape_stays
    table
    g
    f
    s
    i
    (bytes_in g region)
    (bytes_in f region)
    base
    (each_then
    (λ p. Each (IsBeside second base p) ps)
    (IsSame (bytes_in g region) (bytes_in f region) base)
    (λ p beside. k.beside p base beside)
    (spans table s i)
    apart)
    (each_both
    (IsAlive g)
    (λ r. list_at h r ≡ None)
    (KeepsList g f)
    (λ r alive none. k.kept r alive (region_other h region r there none))
    had
    (rows_alive table g s i (bytes_in g region) base e.holds)
    e.grows.fresh)
    (omega (arith, k.long))

-- ---- members

pub beside_of : (base : ℕ) (p q : Span) → IsApart p q → IsBeside base base p q
beside_of base p q (inl e) = inr (omega (arith, e))
beside_of base p q (inr e) = inl (omega (arith, e))

pub none_filled : (table : List TocEntry) (h : Lists) (i : ℕ) (region : Region) (base : ℕ) (zs : List ℤ) → IsRegion h region → FillsAll table h h no_members i region base zs zs
none_filled table h i region base zs there =
    record { value = refl; others = refl; holds = tt; grows = grows_none h region base [] there; spends = spends_none h }

pub member_filled : (table : List TocEntry) (h g f : Lists) (s : Shape) (ss : Members) (i : ℕ) (region : Region) (base : ℕ) (zs mid rest : List ℤ) → IsRegion h region → Across IsApart (spans table s i) (spans_among table ss (i + size s)) → Fills table h g s i region base zs mid → FillsAll table g f ss (i + size s) region base mid rest → FillsAll table h f (member s ss) i region base zs rest
member_filled table h g f s ss i region base zs mid rest there apart e k =
    let others = spans_among table ss (i + size s) in
    let rows = rows_among table f ss (i + size s) (bytes_in f region) base in
    let beside : Each (λ p. Each (IsBeside base base p) others) (spans table s i) =
    each_then
    (λ p. Each (IsApart p) others)
    (λ p. Each (IsBeside base base p) others)
    (λ p all. each_then (IsApart p) (IsBeside base base p) (λ q a. beside_of base p q a) others all)
    (spans table s i)
    apart
    in
    let stays = filled_stays table h g f s i region base base others rows zs mid there e k.grows beside in
    record {
      value = ap₂ value (stays.value ∙ e.value) (k.value ∙ ap (λ z. (all_filled ss z).0) e.others);
      others = k.others ∙ ap (λ z. (all_filled ss z).1) e.others;
      holds = (stays.holds e.holds, k.holds);
      grows = subst
          (λ rs. Grows h f region base (spans table s i ++ others) (rs ++ rows))
          (sym stays.rows)
          (grows_then
          h
          g
          f
          region
          base
          base
          base
          (spans table s i)
          others
          (spans table s i ++ others)
          (rows_at table g s i (bytes_in g region) base)
          rows
          e.grows
          k.grows
          (rows_alive table g s i (bytes_in g region) base e.holds)
          (λ p b all. each_apart (IsBeside base b p) (spans table s i) others all));
      spends = spends_then
          h
          g
          f
          (lists_in (filled s zs).0)
          (list_bytes s (filled s zs).0)
          (lists_among (all_filled ss (filled s zs).1).0)
          (member_bytes ss (items (all_filled ss (filled s zs).1).0))
          e.spends
          (subst
          (λ z. Spends g f (lists_among (all_filled ss z).0) (member_bytes ss (items (all_filled ss z).0)))
          e.others
          k.spends);
    }
