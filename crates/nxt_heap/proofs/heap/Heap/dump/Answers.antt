-- The pool up to the end of the last block.
use Rattle.std.proofs.Common.{◌<◌, ◌≡◌, ◌∙◌, [], sym, ap, subst, arith, length, take}
use Rattle.std.proofs.lemmas.Grind.{common_steps}
use Rattle.nxt_model.specs.Dump.{greatest_end}
use Rattle.nxt_compact.specs.Pools.{blocks_in}
use Rattle.nxt_heap.specs.Dumps.{HoldHeap, IsDopeTable, row_of}
use Rattle.nxt_heap.specs.Inside.Pool.{Shows}
use Rattle.nxt_heap.proofs.Dumped.{end_below, length_front, shows_front, holds_front, end_is_greatest}
use Rattle.nxt_heap.proofs.ListsKept.{length-lists_in}
use Rattle.nxt_heap.proofs.Tabled.{dope_table, same_row}
use Rattle.nxt_heap.proofs.heap.Heap.dump.Goals as goal

front : (c : goal.In_ok-append) → c.append.new.self ≡ take c.self.inside.state.end c.self.inside.pool.items
front c =
    let empty : c.new-bytes.result ≡ [] = c.new-bytes.ensures in
    grind (arith, common_steps)

pub returns-clause-shows : goal.returns-clause-shows
returns-clause-shows c =
    let pool = c.self.inside.pool.items in
    let fronts = c.self.inside.fronts.items in
    let p = c.self.inside.state in
    let n = c.self.inside.static_size in
    subst (λ h. Shows c.append.new.self h.pool.table h.lists) c.self.view_is (rw (front c) (shows_front n pool fronts p c.self.invariant p.end (omega arith) (end_below n pool fronts p c.self.invariant)))

pub returns-clause-holds : goal.returns-clause-holds
returns-clause-holds c =
    let pool = c.self.inside.pool.items in
    let fronts = c.self.inside.fronts.items in
    let p = c.self.inside.state in
    let n = c.self.inside.static_size in
    subst (λ h. HoldHeap c.append.new.self h.pool.table h.lists) c.self.view_is (rw (front c) (holds_front n pool fronts p c.self.invariant p.end (omega arith) (end_below n pool fronts p c.self.invariant)))

pub returns-clause-table : goal.returns-clause-table
returns-clause-table c =
    let pool = c.self.inside.pool.items in
    let fronts = c.self.inside.fronts.items in
    let p = c.self.inside.state in
    let n = c.self.inside.static_size in
    subst (λ h. IsDopeTable c.append.new.self h.pool.table h.lists) c.self.view_is (rw (front c) (dope_table n pool fronts p c.self.invariant p.end (omega arith) (end_below n pool fronts p c.self.invariant)))

pub returns-clause-rows : goal.returns-clause-rows
returns-clause-rows c r =
    let pool = c.self.inside.pool.items in
    let fronts = c.self.inside.fronts.items in
    let p = c.self.inside.state in
    let n = c.self.inside.static_size in
    subst (λ h. r < length h.lists.by_row → row_of c.append.new.self h.pool.table r ≡ row_of h.pool.bytes h.pool.table r) c.self.view_is
    (λ less. rw (front c) (same_row n pool fronts p c.self.invariant p.end (omega arith) (end_below n pool fronts p c.self.invariant) r (omega (arith, less, length-lists_in pool p.table))))

pub returns-clause-front : goal.returns-clause-front
returns-clause-front c =
    let pool = c.self.inside.pool.items in
    let fronts = c.self.inside.fronts.items in
    let p = c.self.inside.state in
    let n = c.self.inside.static_size in
    let size = length_front n pool fronts p c.self.invariant p.end (omega arith) (end_below n pool fronts p c.self.invariant) in
    subst
    (λ h. c.append.new.self ≡ take (length c.append.new.self) h.pool.bytes)
    c.self.view_is
    (front c ∙ ap (λ k. take k pool) (sym (ap length (front c) ∙ size)))

pub returns-clause-length : goal.returns-clause-length
returns-clause-length c =
    let pool = c.self.inside.pool.items in
    let fronts = c.self.inside.fronts.items in
    let p = c.self.inside.state in
    let n = c.self.inside.static_size in
    ap length (front c) ∙ length_front n pool fronts p c.self.invariant p.end (omega arith) (end_below n pool fronts p c.self.invariant)
    ∙ sym (end_is_greatest pool p.table p.end c.self.invariant.blocks.end_is)
    ∙ ap (λ h. greatest_end (blocks_in h.pool.bytes h.pool.table)) c.self.view_is
