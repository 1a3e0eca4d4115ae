-- A row is taken, or added where the pool holds it.
use Rattle.std.proofs.Common.{◌≡◌, ◌≤◌, ◌∙◌, ℕ, ap, arith, subst, sym, take, length, ◌*◌, ◌+◌}
use Rattle.std.specs.Prelude.{Result, Ok, Err, IfOk, OnOk}
use Rattle.std.proofs.lemmas.Result.{IfOk-weaker, IfErr-weaker}
use Rattle.std.proofs.lemmas.List.{with_items_is}
use Rattle.nxt_types.specs.Pool.{pool_size}
use Rattle.nxt_heap.specs.Lists.{Passes, IsFree, footprint, with_list, with_free, with_free_row, empty_list}
use Rattle.nxt_heap.specs.Inside.Pool.{Takes, IsRefused}
use Rattle.nxt_heap.specs.declared.passed.PoolPassed.{PoolPassed}
use Rattle.nxt_heap.proofs.Changed.{shown, after_taken, base_shown, footprint_more, sound_shown, still_heap, taken_fits}
use Rattle.nxt_heap.proofs.Laws.Front.{front_taken}
use Rattle.std.proofs.lemmas.Result.{on_ok_weaker}
use Rattle.nxt_types.specs.Pool.{round4}
use Rattle.nxt_rows.specs.Rows.{row_count}
use Rattle.nxt_heap.specs.Lists.{base_of, any_free}
use Rattle.nxt_heap.specs.Moves.{GrowsTable, KeepsFront}
use Rattle.nxt_heap.specs.Inside.Pool.{lists_in, pool_at, views_of}
use Rattle.nxt_heap.proofs.ListsKept.{length-lists_in}
use Rattle.nxt_heap.proofs.Seen.{length_static}
use Rattle.nxt_heap.proofs.heap.Heap.new_array.Goals as goal

takes : (c : goal.After-self-2-1) → IfOk c.new_list.result (Takes c.self.inside.pool.items c.new_list.new.pool c.new_list.new.fronts c.self.inside.state c.new_list.new.at c.args.stride)
takes c = rw c.deref_mut.ensures.value at c.new_list.ensures.ok

pub returns-clause-free : goal.returns-clause-free
returns-clause-free c =
    IfOk-weaker c.new_list.result (Takes c.self.inside.pool.items c.new_list.new.pool c.new_list.new.fronts c.self.inside.state c.new_list.new.at c.args.stride) (λ row. IsFree (with_free c.args.self.now.lists.by_row) row)
    (λ row t. rw (← c.self.view_is) t.free) (takes c)

pub returns-clause-ok : goal.returns-clause-ok
returns-clause-ok c =
    let pool = c.self.inside.pool.items in
    let fronts = c.self.inside.fronts.items in
    let p = c.self.inside.state in
    let n = c.self.inside.static_size in
    let items = with_items_is c.self.inside.pool c.new_list.new.pool (c.new_list.auto.pool ∙ c.deref_mut.ensures.len) in
    rw items
    (IfOk-weaker c.new_list.result (Takes pool c.new_list.new.pool c.new_list.new.fronts p c.new_list.new.at c.args.stride) (λ row. shown n c.new_list.new.pool c.new_list.new.at ≡ with_list (with_free_row c.args.self.now.lists) row (empty_list c.args.stride))
    (λ row t.
    after_taken n pool c.new_list.new.pool fronts c.new_list.new.fronts p c.new_list.new.at c.args.stride row c.self.invariant t
    ∙ ap (λ h. with_list (with_free_row h.lists) row (empty_list c.args.stride)) c.self.view_is) (takes c))

on_ok : (r : Result ℕ PoolPassed) (P : ℕ → Type 0) (Q : Type 0) → ((row : ℕ) → P row → Q) → IfOk r P → OnOk r Q
on_ok (Ok row) P Q f p = f row p
on_ok (Err e) P Q f p = tt

pub returns-clause-fits : goal.returns-clause-fits
returns-clause-fits c =
    let pool = c.self.inside.pool.items in
    let fronts = c.self.inside.fronts.items in
    let p = c.self.inside.state in
    let n = c.self.inside.static_size in
    on_ok c.new_list.result (Takes pool c.new_list.new.pool c.new_list.new.fronts p c.new_list.new.at c.args.stride) (footprint (with_free_row c.args.self.now.lists) ≤ pool_size)
    (λ row t. rw (← c.self.view_is) (taken_fits n pool c.new_list.new.pool fronts c.new_list.new.fronts p c.new_list.new.at c.args.stride row c.self.invariant t)) (takes c)

pub returns-clause-passed : goal.returns-clause-passed
returns-clause-passed c =
    let pool = c.self.inside.pool.items in
    let fronts = c.self.inside.fronts.items in
    let p = c.self.inside.state in
    let n = c.self.inside.static_size in
    let refused = rw c.deref_mut.ensures.value at c.new_list.ensures.passed in
    IfErr-weaker c.new_list.result (λ e. IsRefused pool p e.0) (λ e. Passes (with_free_row c.args.self.now.lists) e.0)
    (λ e f.
    let more = footprint_more n pool fronts p c.self.invariant f.full in
    record {
      whole = omega (arith, more, f.whole, ap (λ h. footprint (with_free_row h.lists)) c.self.view_is);
      above = f.above;
    }) refused

pub returns-clause-moves : goal.returns-clause-moves
returns-clause-moves c =
    let pool = c.self.inside.pool.items in
    let fronts = c.self.inside.fronts.items in
    let p = c.self.inside.state in
    let n = c.self.inside.static_size in
    let items = with_items_is c.self.inside.pool c.new_list.new.pool (c.new_list.auto.pool ∙ c.deref_mut.ensures.len) in
    let base : p.base ≡ round4 (length (take n pool)) = c.self.invariant.base_is ∙ sym (ap round4 (length_static n pool fronts p c.self.invariant)) in
    let new = pool_at c.new_list.new.pool c.new_list.new.at in
    let need = rw c.deref_mut.ensures.value at c.new_list.ensures.need in
    rw items
    (on_ok_weaker c.new_list.result (λ g.
    subst (λ h. GrowsTable (base_of h.lists) h.pool new (any_free h.lists.by_row) (round4 (10 * (length h.lists.by_row + 1)))) c.self.view_is
    (subst (λ m. GrowsTable (round4 (length (take n pool))) (pool_at pool p) new (any_free (lists_in pool p.table)) (round4 (10 * (m + 1)))) (sym (length-lists_in pool p.table))
    (subst (λ b. GrowsTable b (pool_at pool p) new (any_free (lists_in pool p.table)) (round4 (10 * (row_count pool p.table + 1)))) base g))) need)

both : (r : Result ℕ PoolPassed) (P : ℕ → Type 0) (G Q : Type 0) → ((row : ℕ) → P row → G → Q) → IfOk r P → OnOk r G → OnOk r Q
both (Ok row) P G Q f p g = f row p g
both (Err e) P G Q f p g = tt

pub returns-clause-front : goal.returns-clause-front
returns-clause-front c =
    let pool = c.self.inside.pool.items in
    let fronts = c.self.inside.fronts.items in
    let p = c.self.inside.state in
    let q = c.new_list.new.at in
    let n = c.self.inside.static_size in
    let items = with_items_is c.self.inside.pool c.new_list.new.pool (c.new_list.auto.pool ∙ c.deref_mut.ensures.len) in
    let old = views_of n (pool_at pool p) in
    let new = views_of n (pool_at c.new_list.new.pool q) in
    let bytes = round4 (10 * (row_count pool p.table + 1)) in
    rw items
    (both c.new_list.result (Takes pool c.new_list.new.pool c.new_list.new.fronts p q c.args.stride) (GrowsTable p.base old.pool new.pool (any_free old.lists.by_row) bytes) (KeepsFront c.args.self.now new)
    (λ row t g.
    subst (λ h. KeepsFront h new) c.self.view_is
    (front_taken old new row c.args.stride bytes (sound_shown n pool fronts p c.self.invariant)
    (sound_shown n c.new_list.new.pool c.new_list.new.fronts q (still_heap n pool c.new_list.new.pool fronts c.new_list.new.fronts p q c.self.invariant t.blocks t.base))
    (after_taken n pool c.new_list.new.pool fronts c.new_list.new.fronts p q c.args.stride row c.self.invariant t)
    (subst (λ b. GrowsTable b old.pool new.pool (any_free old.lists.by_row) bytes) (base_shown n pool fronts p c.self.invariant) g)))
    (takes c) (rw c.deref_mut.ensures.value at c.new_list.ensures.need))
