use Rattle.std.proofs.Common.{◌∙◌, sym, ap, arith}
use Rattle.nxt_heap.specs.Lists.{footprint}
use Rattle.nxt_heap.proofs.Seen.{footprint_state}
use Rattle.nxt_heap.proofs.Settled.{total_below, end_inside}
use Rattle.nxt_heap.proofs.heap.Heap.footprint.Goals as goal

pub returns-clause-whole : goal.returns-clause-whole
returns-clause-whole c =
    sym (footprint_state c.self.inside.static_size c.self.inside.pool.items c.self.inside.fronts.items c.self.inside.state c.self.invariant)
    ∙ ap (λ h. footprint h.lists) c.self.view_is

pub returns-clause-fits : goal.returns-clause-fits
returns-clause-fits c =
    let b = c.self.invariant.blocks in
    let pool = c.self.inside.pool.items in
    let p = c.self.inside.state in
    omega (arith, b.footprint_is, total_below pool p.table p.base p.end b.is_pool b.end_is, end_inside pool p.table p.base p.end b.is_pool b.end_is)
