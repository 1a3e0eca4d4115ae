-- Row 0 is no list, and the pool holds all others.
use Rattle.std.proofs.Common.{◌≡◌, None, ◌∙◌, length, take, sym, ap, subst}
use Rattle.nxt_types.specs.Pool.{round4, pool_size}
use Rattle.nxt_compact.specs.Pools.{IsSound}
use Rattle.nxt_heap.specs.Lists.{base_of}
use Rattle.nxt_heap.specs.Dumps.{HoldHeap, IsDopeTable}
use Rattle.nxt_heap.proofs.Dumped.{pool_holds}
use Rattle.nxt_heap.proofs.Tabled.{pool_dope_table}
use Rattle.nxt_heap.proofs.ListsKept.{lists_in-at, list_in-first}
use Rattle.nxt_heap.proofs.Seen.{length_static}
use Rattle.nxt_heap.proofs.heap.Heap.recall_sound.Goals as goal

pub returns-clause-first : goal.returns-clause-first
returns-clause-first c =
    let pool = c.self.inside.pool.items in
    let table = c.self.inside.state.table in
    rw (← c.self.view_is) (lists_in-at pool table 0 None c.self.invariant.blocks.is_pool.sound.some ∙ list_in-first pool table)

pub returns-clause-holds : goal.returns-clause-holds
returns-clause-holds c =
    subst (λ h. HoldHeap h.pool.bytes h.pool.table h.lists) c.self.view_is (pool_holds c.self.inside.static_size c.self.inside.pool.items c.self.inside.fronts.items c.self.inside.state c.self.invariant)

pub returns-clause-apart : goal.returns-clause-apart
returns-clause-apart c =
    let pool = c.self.inside.pool.items in
    let p = c.self.inside.state in
    let n = c.self.inside.static_size in
    let base : p.base ≡ round4 (length (take n pool)) = c.self.invariant.base_is ∙ sym (ap round4 (length_static n pool c.self.inside.fronts.items p c.self.invariant)) in
    subst (λ h. IsSound h.pool.bytes h.pool.table (base_of h.lists)) c.self.view_is (subst (IsSound pool p.table) base c.self.invariant.blocks.is_pool.sound)

pub returns-clause-size : goal.returns-clause-size
returns-clause-size c = subst (λ h. length h.pool.bytes ≡ pool_size) c.self.view_is c.self.invariant.blocks.is_pool.size

pub returns-clause-table : goal.returns-clause-table
returns-clause-table c =
    subst (λ h. IsDopeTable h.pool.bytes h.pool.table h.lists) c.self.view_is (pool_dope_table c.self.inside.static_size c.self.inside.pool.items c.self.inside.fronts.items c.self.inside.state c.self.invariant)
