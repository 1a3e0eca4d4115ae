use Rattle.std.proofs.Common.{◌≡◌, ◌+◌, ◌*◌, ◌<◌, length, ap, ◌∙◌, arith}
use Rattle.nxt_rows.specs.Rows.{dope_row}
use Rattle.nxt_rows.proofs.Laws.Writes.{row_count-fits}
use Rattle.nxt_compact.specs.Pools.{block_bytes, IsFull}
use Rattle.nxt_compact.specs.Orders.{block_key}
use Rattle.nxt_compact.proofs.Ordered.{listed_more, listed_same}
use Rattle.nxt_compact.proofs.blocks.list_blocks.Goals as goal
use Rattle.nxt_compact.proofs.blocks.list_blocks.Goals.{then-block_bytes-gt0, else-block_bytes-gt0}

pub loop-row-preserved : goal.loop-row-preserved
loop-row-preserved c =
    let before = c.loop-row.invariant in
    let row = c.loop-row.row in
    let size : c.block_bytes.result ≡ block_bytes (dope_row c.args.pool.now c.args.table row) = c.block_bytes.ensures ∙ ap block_bytes c.get-found.ensures in
    let small : row < 65536 = omega (arith, c.loop-row-test.true, before.0, row_count-fits c.args.pool.now c.args.table c.type_inv.pool) in
    let long : length c.if-block_bytes-gt0.keys ≡ length c.args.keys.now = c.if-block_bytes-gt0.auto.keys ∙ before.2 in
    elim c.if-block_bytes-gt0.branch [
      | then-block_bytes-gt0 w ↦
          let full : IsFull c.args.pool.now c.args.table row = record { within = omega (arith, c.loop-row-test.true, before.0); some = omega (arith, size, w.if-block_bytes-gt0.true) } in
          let named : w.key_of.result ≡ block_key c.args.pool.now c.args.table row = w.key_of.ensures ∙ ap (λ d. 65536 * d.place + row) c.get-found.ensures in
          (before.0, omega (arith, w.blocks-is, before.1), long, rw (w.keys-is, w.blocks-is, named) (listed_more c.args.pool.now c.args.table row c.loop-row.keys c.loop-row.blocks small (omega (arith, before.1, before.2, before.0, c.loop-row-test.true, c.requires.room)) full before.3))
      | else-block_bytes-gt0 w ↦
          (before.0, omega (arith, w.blocks-is, before.1), long, rw (w.keys-is, w.blocks-is) (listed_same c.args.pool.now c.args.table row c.loop-row.keys c.loop-row.blocks (omega (arith, size, w.if-block_bytes-gt0.false)) before.3))
    ]
