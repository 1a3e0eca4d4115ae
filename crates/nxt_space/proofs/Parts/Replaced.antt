-- The variables with another value where an entry names one.
use Rattle.std.proofs.Common.{◌≡◌, ℕ, ◌+◌, ◌*◌, ◌≤◌, max, sum_by, List, [], ◌∷◌, length, Some, None, refl, sym, ap, ap₂, ◌∙◌, subst, arith}
use Rattle.std.specs.Prelude.{ℤ}
use Rattle.std.proofs.lemmas.List.{length-set}
use Rattle.nxt_types.specs.Names.{Name, name_among}
use Rattle.nxt_types.specs.Shapes.{Shape, Cluster}
use Rattle.nxt_types.specs.Tables.{Table}
use Rattle.nxt_types.specs.declared.shape.TocEntry.{TocEntry}
use Rattle.nxt_model.specs.Values.{part, with_part, lists_in}
use Rattle.nxt_model.specs.Footprint.{list_bytes}
use Rattle.nxt_types.specs.Pool.{round4, pool_size}
use Rattle.nxt_heap.specs.Lists.{Lists, list_at, block_of, with_list, footprint}
use Rattle.nxt_values.specs.Held.{rows_at, Holds}
use Rattle.nxt_space.specs.Inside.Kept.{Stand, Stores, values_of, with_stored, bytes_with}
use Rattle.nxt_model.specs.Spans.{HasSpans}
use Rattle.nxt_space.specs.Variables.{shape_by, with_by}
use Rattle.nxt_values.specs.Writes.{without, AreOwn}
use Rattle.nxt_values.specs.Fills.{Fills, HasRoom, filled, living, needs_for}
use Rattle.nxt_values.specs.declared.reading.Region.TheVariants.{Static}
use Rattle.nxt_values.proofs.Laws.Shapes.{held_of}
use Rattle.nxt_values.proofs.Laws.HeldSizes.{row_size, value_counted, value_sized, lists_counted, lists_sized}
use Rattle.nxt_values.proofs.Laws.HeldRows.{rows_alive}
use Rattle.nxt_values.proofs.Laws.HeldRows.{rows_sized, held_rows}
use Rattle.nxt_space.proofs.Parts.Named.{name_stands, part_named, with_named}
use Rattle.nxt_space.proofs.Laws.PartSizes.{lists_with_part, bytes_with_part}
use Rattle.nxt_values.proofs.Laws.Rows.{held_living, living_without, spent_rows}
use Rattle.nxt_space.proofs.Parts.Standing.{Stands, named_variable}
use Rattle.nxt_values.proofs.Laws.StoredHeld.{stored_held, stored_values}
use Rattle.nxt_values.proofs.Laws.Without.{static_kept, footprint_without}

-- ---- a variable that is freed

rows_kept : (h : Lists) (rows : List ℕ) → length (without h rows).by_row ≡ length h.by_row
rows_kept h [] = refl
rows_kept h (x ∷ xs) = rows_kept (with_list h x None) xs ∙ length-set h.by_row x None

-- what begins at the entry has no lists
abbrev freed : List TocEntry → Lists → Shape → ℕ → Lists
freed table h s i = without h (rows_at table h s i h.static_bytes 0)

with_name : (toc : Table) (h : Lists) (i : ℕ) (n : Name) (zs : List ℤ) → name_among toc.shapes 0 i ≡ Some n → with_stored toc h i zs ≡ with_part n.path (filled n.shape zs).0 (values_of toc h)
with_name toc h i n zs named = ap (λ o. with_by o (filled (shape_by o) zs).0 (values_of toc h)) named

-- the lists that are left and those of the value that the numbers begin with are those of the variables with that value
record Leaves (toc : Table) (h : Lists) (i : ℕ) (n : Name) (zs : List ℤ) : Type 0 where
  rows : length (freed toc.entries h n.shape i).by_row ≡ length h.by_row
  static : (freed toc.entries h n.shape i).static_bytes ≡ h.static_bytes
  lists : living (freed toc.entries h n.shape i) + lists_in (filled n.shape zs).0 ≡ lists_in (with_stored toc h i zs)
  bytes : sum_by block_of (freed toc.entries h n.shape i).by_row + list_bytes n.shape (filled n.shape zs).0 ≡ list_bytes (Cluster toc.shapes) (with_stored toc h i zs)

leaves : (toc : Table) (h : Lists) (i : ℕ) (n : Name) (zs : List ℤ) → Stand toc h → name_among toc.shapes 0 i ≡ Some n → Leaves toc h i n zs
leaves toc h i n zs e named =
    let table = toc.entries in
    let ss = toc.shapes in
    let s = n.shape in
    let vars = values_of toc h in
    let v = (filled s zs).0 in
    let is = named_variable toc h i n e named in
    let gone = rows_at table h s i h.static_bytes 0 in
    let g = freed toc.entries h s i in
    let alive = rows_alive table h s i h.static_bytes 0 is.holds in
    let of = held_of table ss h in
    let old = part_named table ss h i n named in
    let new = with_name toc h i n zs named in
    let static = static_kept h gone in
    let rows = rows_kept h gone in
    let fell : footprint g + sum_by (row_size h) gone ≡ footprint h = footprint_without h gone alive is.own.own in
    let left : sum_by block_of g.by_row + list_bytes s (part n.path vars) ≡ list_bytes (Cluster ss) vars =
    omega (
      arith,
      fell,
      ap (λ bytes. round4 (length bytes)) static,
      ap (λ k. round4 (10 * k)) rows,
      ap (list_bytes s) old,
      value_sized table h s i h.static_bytes 0 is.holds,
      lists_sized table ss h e.held,
      rows_sized table ss h e.held,
    ) in
    record {
      rows = rows;
      static = static;
      lists = omega (
        arith,
        living_without h gone alive is.own.own,
        held_living table ss h e.held,
        value_counted table h s i h.static_bytes 0,
        ap lists_in old,
        ap lists_in new,
        lists_with_part ss i n v vars named of,
      );
      bytes = omega (arith, left, ap (list_bytes (Cluster ss)) new, bytes_with_part ss i n v vars named of);
    }

-- what the freed heap needs for the value is what the variables take with it
needs_stored : (toc : Table) (h : Lists) (i : ℕ) (n : Name) (zs : List ℤ) → Stand toc h → name_among toc.shapes 0 i ≡ Some n → needs_for (freed toc.entries h n.shape i) n.shape zs ≡ bytes_with toc h (with_stored toc h i zs)
needs_stored toc h i n zs e named =
    let l = leaves toc h i n zs e named in
    let most = ap₂ (λ (k m : ℕ). round4 (10 * max k (m + 1))) l.rows l.lists in
    omega (arith, ap (λ bytes. round4 (length bytes)) l.static, most, l.bytes)

-- ---- a variable that is stored

-- the heap holds the variables with the value that the numbers begin with
stored_stands : (toc : Table) (h g : Lists) (i : ℕ) (n : Name) (zs rest : List ℤ) → Stand toc h → name_among toc.shapes 0 i ≡ Some n → footprint g ≤ pool_size → 1 ≤ length g.by_row → list_at g 0 ≡ None → Fills toc.entries (freed toc.entries h n.shape i) g n.shape i Static 0 zs rest → Stores toc h g (with_stored toc h i zs)
stored_stands toc h g i n zs rest e named pool some first fills =
    let table = toc.entries in
    let ss = toc.shapes in
    let s = n.shape in
    let v = (filled s zs).0 in
    let l = leaves toc h i n zs e named in
    let stands = name_stands ss i n named in
    let held = stored_held table ss h g s i zs rest e.held e.spans stands fills in
    let long : length g.static_bytes ≡ length h.static_bytes = fills.grows.long ∙ ap length l.static in
    let values : values_of toc g ≡ with_stored toc h i zs =
    stored_values table ss h g s i zs rest e.held e.spans stands fills
    ∙ with_named table ss h i n named v
    ∙ sym (with_name toc h i n zs named) in
    let counted = held_living table ss g held in
    let all = counted ∙ ap lists_in values in
    record {
      stand = record {
        entries = e.entries;
        spans = subst (HasSpans table ss) (sym long) e.spans;
        held = held;
        first = first;
        pool = pool;
      };
      long = long;
      values = values;
      rows = spent_rows (freed toc.entries h s i) g (lists_in v) (list_bytes s v) fills.spends (all ∙ sym l.lists) (omega (arith, counted, lists_counted table ss g, held_rows table ss g held some first))
          ∙ ap₂ (λ (k m : ℕ). max k (m + 1)) l.rows all;
    }

-- ---- by the shape that was found

-- what begins at the entry can be freed, and then its place can be filled with the value that the numbers begin with
pub record CanPut (table : List TocEntry) (h : Lists) (s : Shape) (i : ℕ) (zs : List ℤ) : Type 0 where
  pub holds : Holds table h s i h.static_bytes 0
  pub own : AreOwn Static (rows_at table h s i h.static_bytes 0)
  pub room : HasRoom table s i 0 (length h.static_bytes)
  pub fits : needs_for (freed table h s i) s zs ≤ pool_size

pub can_put : (toc : Table) (table : List TocEntry) (h : Lists) (s : Shape) (i : ℕ) (zs : List ℤ) → table ≡ toc.entries → Stand toc h → Stands toc h s i → bytes_with toc h (with_stored toc h i zs) ≤ pool_size → CanPut table h s i zs
can_put toc table h s i zs same e is fits =
    let n = is.name in
    let few : needs_for (freed toc.entries h n.shape i) n.shape zs ≤ pool_size = omega (arith, fits, needs_stored toc h i n zs e is.named) in
    subst
    (λ t. CanPut t h s i zs)
    (sym same)
    (record {
      holds = is.holds;
      own = is.own;
      room = is.room;
      fits = subst (λ w. needs_for (freed toc.entries h w i) w zs ≤ pool_size) (sym is.shape_is) few;
    })

-- and then the heap holds the variables
pub was_put : (toc : Table) (table : List TocEntry) (h g : Lists) (s : Shape) (i : ℕ) (zs rest : List ℤ) → table ≡ toc.entries → Stand toc h → Stands toc h s i → Fills table (freed table h s i) g s i Static 0 zs rest → footprint g ≤ pool_size → 1 ≤ length g.by_row → list_at g 0 ≡ None → Stores toc h g (with_stored toc h i zs)
was_put toc table h g s i zs rest same e is fills pool some first =
    stored_stands toc h g i is.name zs rest e is.named pool some first
    (subst
    (λ w. Fills toc.entries (freed toc.entries h w i) g w i Static 0 zs rest)
    is.shape_is
    (subst (λ t. Fills t (freed t h s i) g s i Static 0 zs rest) same fills))
