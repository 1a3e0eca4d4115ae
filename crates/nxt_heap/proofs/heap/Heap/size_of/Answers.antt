use Rattle.std.proofs.Common.{◌∙◌, sym, ap, length}
use Rattle.nxt_heap.specs.Lists.{bytes_at}
use Rattle.nxt_heap.specs.Inside.Pool.{row_bytes}
use Rattle.nxt_heap.proofs.Changed.{size_lived}
use Rattle.nxt_heap.proofs.Seen.{lives, row_inside}
use Rattle.nxt_heap.proofs.heap.Heap.size_of.Goals as goal

pub get-requires : goal.get-requires
get-requires c =
    let pool = c.self.inside.pool.items in
    let p = c.self.inside.state in
    let l = lives pool p.table c.args.row (rw (← c.self.view_is) at c.requires) in
    rw c.deref.ensures.value (row_inside pool p.table p.base c.args.row c.self.invariant.blocks.is_pool l.within)

pub returns : goal.returns
returns c =
    let pool = c.self.inside.pool.items in
    let fronts = c.self.inside.fronts.items in
    let p = c.self.inside.state in
    let n = c.self.inside.static_size in
    let l = lives pool p.table c.args.row (rw (← c.self.view_is) at c.requires) in
    let found = ap row_bytes (rw c.deref.ensures.value at c.get.ensures) in
    c.byte_count.ensures ∙ found ∙ sym (size_lived n pool fronts p c.args.row c.self.invariant l)
    ∙ ap (λ h. length (bytes_at h.lists c.args.row)) c.self.view_is
