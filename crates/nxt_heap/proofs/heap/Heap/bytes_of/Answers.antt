use Rattle.std.proofs.Common.{◌∙◌, sym, ap, arith}
use Rattle.nxt_heap.specs.Lists.{bytes_at, bytes_of}
use Rattle.nxt_heap.proofs.Seen.{lives, row_inside}
use Rattle.nxt_heap.proofs.Windows.{le-block}
use Rattle.nxt_rows.specs.Rows.{dope_row}
use Rattle.nxt_heap.proofs.heap.Heap.bytes_of.Goals as goal

pub row_bytes-requires-clause-row : goal.row_bytes-requires-clause-row
row_bytes-requires-clause-row c =
    let pool = c.self.inside.pool.items in
    let p = c.self.inside.state in
    let l = lives pool p.table c.args.row (rw (← c.self.view_is) at c.requires) in
    rw c.deref.ensures.value (row_inside pool p.table p.base c.args.row c.self.invariant.blocks.is_pool l.within)

pub row_bytes-requires-clause-inside : goal.row_bytes-requires-clause-inside
row_bytes-requires-clause-inside c =
    let pool = c.self.inside.pool.items in
    let p = c.self.inside.state in
    let l = lives pool p.table c.args.row (rw (← c.self.view_is) at c.requires) in
    let x = dope_row pool p.table c.args.row in
    rw c.deref.ensures.value (λ some. omega (arith, le-block x, c.self.invariant.blocks.is_pool.sound.within c.args.row (record { within = l.within; some = omega (arith, some, le-block x) })))

pub returns : goal.returns
returns c =
    let pool = c.self.inside.pool.items in
    let l = lives pool c.self.inside.state.table c.args.row (rw (← c.self.view_is) at c.requires) in
    (rw c.deref.ensures.value at c.row_bytes.ensures) ∙ sym (ap bytes_of l.is) ∙ ap (λ h. bytes_at h.lists c.args.row) c.self.view_is
