-- A heap that holds values of their shapes.
use Rattle.std.proofs.Common.{◌≡◌, ℕ, zero, suc, ◌+◌, ◌≤◌, true, max, [], length, None, refl, sym, ap, ap₂, ◌∙◌, subst, arith, append-nil}
use Rattle.std.proofs.lemmas.Bool.{false≢true}
use Rattle.std.proofs.lemmas.List.{length-replicate}
use Rattle.nxt_types.specs.Pool.{pool_size}
use Rattle.nxt_types.specs.Shapes.{Cluster, Members}
use Rattle.nxt_model.specs.Values.{Value, Num, ListOf, GroupOf, elements, items, values, flats, is_of, lists_in, lists_among}
use Rattle.nxt_model.specs.Footprint.{footprint, member_bytes}
use Rattle.nxt_model.specs.Spans.{HasSpans}
use Rattle.nxt_model.specs.Dump.{Content}
use Rattle.nxt_model.proofs.Laws.Values.{values-items}
use Rattle.nxt_heap.specs.Lists.{Lists, zero_heap}
use Rattle.nxt_heap.specs.Lists as heap
use Rattle.nxt_values.specs.Fills.{all_filled, needs}
use Rattle.nxt_values.specs.declared.reading.Region.TheVariants.{Static}
use Rattle.nxt_values.proofs.Laws.Begun.{none_alive, variables_room}
use Rattle.nxt_values.proofs.Laws.Filled.{all_own}
use Rattle.nxt_values.proofs.Laws.Needs.{footprint_needs}
use Rattle.nxt_space.specs.Inside.Kept.{started_as, bytes_with, CanStart}
use Rattle.nxt_space.proofs.Laws.StartFilled.{start_fits, start_stored}
use Rattle.nxt_dumps.specs.Holdable.{IsHoldable}
use Rattle.nxt_dumps.specs.InHeap.{table_for, IsInHeap}
use Rattle.nxt_dumps.proofs.Heaps.Filling.{HasFirst, fill_all}

first_zero : (static_size rows : ℕ) → 1 ≤ rows → HasFirst (zero_heap static_size rows)
first_zero static_size zero some = absurd (omega (arith, some))
first_zero static_size (suc rows) some = record { some = omega arith; first = refl }

-- the numbers of the values give them back
back : (ss : Members) (v : Value) → is_of (Cluster ss) v ≡ true → started_as ss (flats (values (elements v))) ≡ v
back ss (Num z) e = absurd (false≢true e)
back ss (ListOf vs) e = absurd (false≢true e)
back ss (GroupOf vs) e =
    ap (λ zs. started_as ss zs) (ap flats (values-items vs) ∙ sym (append-nil (flats vs))) ∙ ap (λ found. GroupOf found.0) (all_own ss vs [] e)

pub made : (c : Content) → IsHoldable c → (h : Lists) × IsInHeap c h
made c e =
    let toc = table_for c in
    let ss = c.shapes in
    let zs = flats (values (elements c.values)) in
    let h = zero_heap c.static_size c.rows in
    let long : length h.static_bytes ≡ c.static_size = length-replicate c.static_size 0 in
    let many : length h.by_row ≡ c.rows = length-replicate c.rows None in
    let is : started_as ss zs ≡ c.values = back ss c.values e.are in
    let most : max c.rows (lists_in c.values + 1) ≡ c.rows = omega (arith, e.rows) in
    let all : bytes_with toc h (started_as ss zs) ≡ footprint c.static_size c.rows ss c.values =
    ap (bytes_with toc h) is
    ∙ ap₂ (λ k n. footprint k (max n (lists_in c.values + 1)) ss c.values) long many
    ∙ ap (λ n. footprint c.static_size n ss c.values) most in
    let can : CanStart toc ss h zs = record {
      entries = e.few;
      variables = refl;
      spelled = e.spelled;
      spans = subst (HasSpans c.entries ss) (sym long) e.spans;
      empty = none_alive c.static_size c.rows;
      fits = subst (λ n. n ≤ pool_size) (sym all) e.fits;
    } in
    let needed = start_fits toc ss h zs can in
    let found = fill_all c.entries ss 0 h Static 0 zs tt (first_zero c.static_size c.rows (omega (arith, e.rows)))
    (variables_room c.entries ss (length h.static_bytes) can.spans) needed in
    let g = found.0 in
    let lists = lists_among (all_filled ss zs).0 in
    let bytes = member_bytes ss (items (all_filled ss zs).0) in
    let no_more_lists : lists + 0 ≡ lists = omega arith in
    let no_more_bytes : bytes + 0 ≡ bytes = omega arith in
    let pool : heap.footprint g ≤ pool_size = omega (arith, footprint_needs g 0 0, found.1.spends 0 0, ap₂ (needs h) no_more_lists no_more_bytes, needed) in
    let stores = start_stored toc ss h g zs (all_filled ss zs).1 can found.1 pool found.2.some found.2.first in (
      g,
      record {
        stand = stores.stand;
        long = stores.long ∙ long;
        values = stores.values ∙ is;
        rows = stores.rows ∙ ap₂ (λ n v. max n (lists_in v + 1)) many is ∙ most;
      },
    )
