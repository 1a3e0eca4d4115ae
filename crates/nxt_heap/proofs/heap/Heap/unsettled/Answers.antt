use Rattle.std.proofs.Common.{◌∙◌, sym, ap}
use Rattle.nxt_types.specs.Pool.{round4}
use Rattle.nxt_blocks.specs.Blocks.{unsettled}
use Rattle.nxt_compact.specs.Pools.{blocks_in}
use Rattle.nxt_heap.specs.Lists.{base_of}
use Rattle.nxt_heap.proofs.Seen.{length_static}
use Rattle.nxt_heap.proofs.heap.Heap.unsettled.Goals as goal

pub returns : goal.returns
returns c =
    let pool = c.self.inside.pool.items in
    let fronts = c.self.inside.fronts.items in
    let p = c.self.inside.state in
    let n = c.self.inside.static_size in
    let base = c.self.invariant.base_is ∙ sym (ap round4 (length_static n pool fronts p c.self.invariant)) in
    (rw c.deref.ensures.value at c.unsettled.ensures)
    ∙ ap (λ b. unsettled b (blocks_in pool p.table)) base
    ∙ ap (λ h. unsettled (base_of h.lists) (blocks_in h.pool.bytes h.pool.table)) c.self.view_is
