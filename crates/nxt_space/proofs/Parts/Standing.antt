-- What stands where a name leads.
use Rattle.std.proofs.Common.{◌≡◌, ℕ, ◌+◌, ◌-◌, ◌^◌, ◌<◌, ◌≤◌, inl, inr, List, length, Option, Some, None, refl, sym, ap, ◌∙◌, subst, arith}
use Rattle.std.specs.Prelude.{option_map}
use Rattle.nxt_types.specs.Names.{Name, name_among, size, sizes}
use Rattle.nxt_types.specs.Shapes.{Shape, Void, Number, Array, Cluster, Mutex, Members, no_members, member}
use Rattle.nxt_types.specs.Tables.{Table}
use Rattle.nxt_types.specs.declared.shape.TocEntry.{TocEntry}
use Rattle.nxt_facts.proofs.Each.{each_from}
use Rattle.nxt_table.proofs.Laws.StrideFree.{size_of_table}
use Rattle.nxt_heap.specs.Lists.{Lists}
use Rattle.nxt_values.specs.Held.{value_at, rows_at, rows_among, Holds, HoldAll}
use Rattle.nxt_space.specs.Inside.Kept.{Stand, shape_in, value_in, values_of}
use Rattle.nxt_model.specs.Spans.{spans, spans_among, IsApart, AreApart, FitsIn, FitAll}
use Rattle.nxt_facts.specs.Pairs.{EachPair}
use Rattle.nxt_values.specs.Fills.{HasRoom}
use Rattle.nxt_space.specs.Variables.{shape_by, value_by}
use Rattle.nxt_values.specs.Writes.{AreOwn, IsOther}
use Rattle.nxt_values.specs.declared.reading.Region.TheVariants.{Static}
use Rattle.nxt_facts.proofs.Pairs.{pair_parts, each_pair}
use Rattle.nxt_space.proofs.Parts.Named.{name_stands, part_named}
use Rattle.nxt_values.proofs.Laws.StoredPart.{IsIt, StandsIn, StandsAmong}
use Rattle.nxt_values.proofs.Laws.Without.{Differ}

-- ---- a part of what stands in the static bytes

-- the part is there, in so many entries, with room and rows of its own
pub record IsInside (table : List TocEntry) (h : Lists) (n : ℕ) (s : Shape) (j end : ℕ) : Type 0 where
  pub holds : Holds table h s j h.static_bytes 0
  pub apart : AreApart (spans table s j)
  pub fits : FitsIn table s j n
  pub own : EachPair Differ (rows_at table h s j h.static_bytes 0)
  pub before : j + size s ≤ end

inside_more : (table : List TocEntry) (h : Lists) (n : ℕ) (s : Shape) (j end more : ℕ) → end ≤ more → IsInside table h n s j end → IsInside table h n s j more
inside_more table h n s j end more le e =
    record { holds = e.holds; apart = e.apart; fits = e.fits; own = e.own; before = omega (arith, le, e.before) }

it_is_inside : (table : List TocEntry) (h : Lists) (n : ℕ) (whole : Shape) (i : ℕ) (s : Shape) (j : ℕ) → IsIt whole i s j → IsInside table h n whole i (i + size whole) → IsInside table h n s j (i + size whole)
it_is_inside table h n whole i s j is e =
    subst (λ k. IsInside table h n s k (i + size whole)) is.1 (subst (λ w. IsInside table h n w i (i + size whole)) is.0 e)

mutual
  inside_shape : (table : List TocEntry) (h : Lists) (n : ℕ) (s : Shape) (j : ℕ) (whole : Shape) (i : ℕ) → StandsIn whole i s j → IsInside table h n whole i (i + size whole) → IsInside table h n s j (i + size whole)
  inside_shape table h n s j Void i is e = it_is_inside table h n Void i s j is e
  inside_shape table h n s j (Number k) i is e = it_is_inside table h n (Number k) i s j is e
  inside_shape table h n s j (Array stride t) i is e = it_is_inside table h n (Array stride t) i s j is e
  inside_shape table h n s j (Cluster ss) i (inl is) e = it_is_inside table h n (Cluster ss) i s j is e
  inside_shape table h n s j (Cluster ss) i (inr is) e =
      inside_more table h n s j (i + 1 + sizes ss) (i + size (Cluster ss)) (omega arith) (inside_members table h n s j ss (i + 1) is e.holds e.apart e.fits e.own)
  inside_shape table h n s j Mutex i is e = it_is_inside table h n Mutex i s j is e

  inside_members : (table : List TocEntry) (h : Lists) (n : ℕ) (s : Shape) (j : ℕ) (ss : Members) (i : ℕ) → StandsAmong ss i s j → HoldAll table h ss i h.static_bytes 0 → AreApart (spans_among table ss i) → FitAll table ss i n → EachPair Differ (rows_among table h ss i h.static_bytes 0) → IsInside table h n s j (i + sizes ss)
  inside_members table h n s j no_members i is holds apart fits own = absurd is
  inside_members table h n s j (member t ts) i (inl is) holds apart fits own =
      let spans = pair_parts IsApart (spans table t i) (spans_among table ts (i + size t)) apart in
      let rows = pair_parts Differ (rows_at table h t i h.static_bytes 0) (rows_among table h ts (i + size t) h.static_bytes 0) own in
      inside_more table h n s j (i + size t) (i + sizes (member t ts)) (omega arith) (inside_shape table h n s j t i is (record { holds = holds.0; apart = spans.first; fits = fits.0; own = rows.first; before = omega arith }))
  inside_members table h n s j (member t ts) i (inr is) holds apart fits own =
      let spans = pair_parts IsApart (spans table t i) (spans_among table ts (i + size t)) apart in
      let rows = pair_parts Differ (rows_at table h t i h.static_bytes 0) (rows_among table h ts (i + size t) h.static_bytes 0) own in
      inside_more table h n s j (i + size t + sizes ts) (i + sizes (member t ts)) (omega arith) (inside_members table h n s j ts (i + size t) is holds.1 spans.rest fits.1 rows.rest)

-- ---- what an entry names

-- a value of the shape begins at the entry
pub record Stands (toc : Table) (h : Lists) (s : Shape) (i : ℕ) : Type 0 where
  pub name : Name
  pub named : name_among toc.shapes 0 i ≡ Some name
  pub shape_is : s ≡ name.shape
  pub holds : Holds toc.entries h s i h.static_bytes 0
  pub own : AreOwn Static (rows_at toc.entries h s i h.static_bytes 0)
  pub entries : i + size s < 2 ^ 16
  pub room : HasRoom toc.entries s i 0 (length h.static_bytes)
  pub value : value_at toc.entries h s i h.static_bytes 0 ≡ value_in toc h i
  pub shape : shape_in toc i ≡ s

pub named_variable : (toc : Table) (h : Lists) (i : ℕ) (n : Name) → Stand toc h → name_among toc.shapes 0 i ≡ Some n → Stands toc h n.shape i
named_variable toc h i n e named =
    let table = toc.entries in
    let size_is = size_of_table table toc.shapes e.held.spelled in
    let rows = rows_among table h toc.shapes 0 h.static_bytes 0 in
    let all : length h.static_bytes ≡ length h.static_bytes - 0 = omega arith in
    let inside = inside_members table h (length h.static_bytes) n.shape i toc.shapes 0 (name_stands toc.shapes i n named) e.held.holds e.spans.apart e.spans.fit (each_pair Differ rows e.held.own) in
    record {
      name = n;
      named = named;
      shape_is = refl;
      holds = inside.holds;
      own = record { own = inside.own; other = each_from (IsOther Static) (λ r. tt) (rows_at table h n.shape i h.static_bytes 0) };
      entries = omega (arith, inside.before, size_is, e.entries);
      room = record { within = omega arith; apart = inside.apart; fits = subst (FitsIn table n.shape i) all inside.fits };
      value = sym (part_named table toc.shapes h i n named) ∙ sym (ap (λ o. value_by o (values_of toc h)) named);
      shape = ap shape_by named;
    }

of_name : (toc : Table) (h : Lists) (i : ℕ) (s : Shape) (o : Option Name) → name_among toc.shapes 0 i ≡ o → Stand toc h → Some s ≡ option_map (λ n. n.shape) o → Stands toc h s i
of_name toc h i s None named e is = let f : ⊥ = cc in absurd f
of_name toc h i s (Some n) named e is =
    let same : s ≡ n.shape = cc in
    subst (λ w. Stands toc h w i) (sym same) (named_variable toc h i n e named)

-- where a shape begins at an entry
pub is_variable : (toc : Table) (h : Lists) (i : ℕ) (s : Shape) → Stand toc h → Some s ≡ option_map (λ n. n.shape) (name_among toc.shapes 0 i) → Stands toc h s i
is_variable toc h i s e is = of_name toc h i s (name_among toc.shapes 0 i) refl e is

no_name : (o : Option Name) → None ≡ option_map (λ n. n.shape) o → o ≡ None
no_name None is = refl
no_name (Some n) is = let f : ⊥ = cc in absurd f

-- and where none does
pub no_variable : (toc : Table) (i : ℕ) → None ≡ option_map (λ n. n.shape) (name_among toc.shapes 0 i) → name_among toc.shapes 0 i ≡ None
no_variable toc i is = no_name (name_among toc.shapes 0 i) is
