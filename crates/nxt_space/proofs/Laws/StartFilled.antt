-- A heap without lists is filled with the variables of the start.
use Rattle.std.proofs.Common.{◌≡◌, ℕ, ◌+◌, ◌*◌, ◌^◌, ◌<◌, ◌≤◌, max, length, List, Result, Ok, Err, OnOk, OnErr, IfOk, None, sym, ap, ◌∙◌, subst, arith}
use Rattle.std.specs.Prelude.{ℤ}
use Rattle.nxt_types.specs.Names.{sizes}
use Rattle.nxt_types.specs.Shapes.{Members}
use Rattle.nxt_types.specs.Tables.{Table}
use Rattle.nxt_model.specs.Values.{lists_in, lists_among, items}
use Rattle.nxt_model.specs.Footprint.{member_bytes}
use Rattle.nxt_types.specs.Pool.{round4, pool_size}
use Rattle.nxt_table.proofs.Laws.StrideFree.{size_of_table}
use Rattle.nxt_heap.specs.Lists.{Lists, list_at, footprint, IsAlive}
use Rattle.nxt_model.specs.Spans.{HasSpans}
use Rattle.nxt_values.specs.Fills.{all_filled, living, needs, needs_for_all, FillsAll}
use Rattle.nxt_space.specs.Inside.Kept.{bytes_with, started_as, Stores, CanStart}
use Rattle.nxt_values.specs.declared.reading.Region.TheVariants.{Static}
use Rattle.nxt_values.proofs.Laws.Begun.{filled_held, filled_values}
use Rattle.nxt_values.proofs.Laws.HeldSizes.{lists_counted}
use Rattle.nxt_values.proofs.Laws.HeldRows.{held_rows}
use Rattle.nxt_values.proofs.Laws.Needs.{footprint_needs}
use Rattle.nxt_values.proofs.Laws.Rows.{held_living, none_living, spent_rows}

-- ---- room

-- a heap without lists needs as many bytes as the variables take
pub start_needs : (toc : Table) (h : Lists) (start : List ℤ) → ((row : ℕ) → IsAlive h row → ⊥) → needs_for_all h toc.shapes start ≡ bytes_with toc h (started_as toc.shapes start)
start_needs toc h start none =
    let lists = lists_among (all_filled toc.shapes start).0 in
    let bytes = member_bytes toc.shapes (items (all_filled toc.shapes start).0) in
    let e = none_living h none in
    let rows : living h + lists + 1 ≡ lists + 1 = omega (arith, e.0) in
    let table = ap (λ n. round4 (10 * max (length h.by_row) n)) rows in
    omega (arith, table, e.1)

pub start_fits : (toc : Table) (ss : Members) (h : Lists) (start : List ℤ) → CanStart toc ss h start → needs_for_all h ss start ≤ pool_size
start_fits toc ss h start e =
    subst (λ ts. needs_for_all h ts start ≤ pool_size) (sym e.variables) (subst (λ n. n ≤ pool_size) (sym (start_needs toc h start e.empty)) e.fits)

pub start_pool : (toc : Table) (ss : Members) (h : Lists) (start : List ℤ) → CanStart toc ss h start → footprint h ≤ pool_size
start_pool toc ss h start e =
    let lists = lists_among (all_filled ss start).0 in
    let bytes = member_bytes ss (items (all_filled ss start).0) in
    let whole : needs h lists bytes ≤ pool_size = start_fits toc ss h start e in
    omega (arith, footprint_needs h lists bytes, whole)

pub start_entries : (toc : Table) (ss : Members) (h : Lists) (start : List ℤ) → CanStart toc ss h start → 0 + sizes ss < 2 ^ 16
start_entries toc ss h start e =
    omega (arith, ap sizes e.variables, size_of_table toc.entries toc.shapes e.spelled, e.entries)

-- ---- what stands there

-- what fits is not refused
pub not_passed : {T E : Type 0} (r : Result T E) (a b : ℕ) (P : Type 0) (Q : T → Type 0) → b ≤ a → OnOk r P → OnErr r (a < b) → IfOk r Q → P × ((x : T) × Q x)
not_passed (Ok x) a b P Q fits ok err filled = (ok, (x, filled))
not_passed (Err x) a b P Q fits ok err filled = absurd (omega (arith, fits, err))

pub start_stored : (toc : Table) (ss : Members) (h g : Lists) (start rest : List ℤ) → CanStart toc ss h start → FillsAll toc.entries h g ss 0 Static 0 start rest → footprint g ≤ pool_size → 1 ≤ length g.by_row → list_at g 0 ≡ None → Stores toc h g (started_as toc.shapes start)
start_stored toc ss h g start rest e fills pool some first =
    let filled = subst (λ ts. FillsAll toc.entries h g ts 0 Static 0 start rest) e.variables fills in
    let held = filled_held toc.entries toc.shapes h g start rest e.spelled e.empty filled in
    let values = filled_values toc.entries toc.shapes h g start rest filled in
    let lists = lists_among (all_filled toc.shapes start).0 in
    let bytes = member_bytes toc.shapes (items (all_filled toc.shapes start).0) in
    let count : living g ≡ lists = held_living toc.entries toc.shapes g held ∙ ap lists_in values in
    let more : living g ≡ living h + lists = omega (arith, count, (none_living h e.empty).0) in
    let less : living g < length g.by_row =
    omega (
      arith,
      held_living toc.entries toc.shapes g held,
      lists_counted toc.entries toc.shapes g,
      held_rows toc.entries toc.shapes g held some first,
    )
    in
    record {
      stand = record {
        entries = e.entries;
        spans = subst (HasSpans toc.entries toc.shapes) (sym filled.grows.long) e.spans;
        held = held;
        first = first;
        pool = pool;
      };
      long = filled.grows.long;
      values = values;
      rows = spent_rows h g lists bytes filled.spends more less ∙ ap (λ n. max (length h.by_row) (n + 1)) count;
    }
