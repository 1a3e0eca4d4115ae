use Rattle.std.proofs.Common.{◌∙◌, sym, ap, length}
use Rattle.nxt_heap.proofs.ListsKept.{length-lists_in}
use Rattle.nxt_heap.proofs.Seen.{row_inside}
use Rattle.nxt_heap.proofs.heap.Heap.row_count.Goals as goal

pub get-requires : goal.get-requires
get-requires c =
    let p = c.self.invariant.blocks.is_pool in
    rw c.deref.ensures.value (row_inside c.self.inside.pool.items c.self.inside.state.table c.self.inside.state.base 0 p p.sound.some)

pub returns-clause-rows : goal.returns-clause-rows
returns-clause-rows c =
    ap (λ r. r.count) (rw c.deref.ensures.value at c.get.ensures)
    ∙ sym (length-lists_in c.self.inside.pool.items c.self.inside.state.table)
    ∙ ap (λ h. length h.lists.by_row) c.self.view_is
