use Rattle.std.proofs.Common.{◌≡◌, ◌+◌, ◌≤◌, ap, ◌∙◌, arith}
use Rattle.nxt_rows.specs.Rows.{dope_row, row_count}
use Rattle.nxt_blocks.specs.Blocks.{total}
use Rattle.nxt_compact.specs.Pools.{block_bytes, blocks_in}
use Rattle.nxt_compact.proofs.Laws.Opening.{bytes_before, before_next, before_all, before_most}
use Rattle.nxt_compact.proofs.up.end_of_blocks.Goals as goal

size : (c : goal.After-block_bytes) → c.block_bytes.result ≡ block_bytes (dope_row c.args.pool.now c.args.table c.loop-row.row)
size c = c.block_bytes.ensures ∙ ap block_bytes c.get.ensures

most : (c : goal.After-block_bytes) → c.loop-row.end + c.block_bytes.result ≤ c.args.base + total (blocks_in c.args.pool.now c.args.table)
most c = omega (arith, size c, c.loop-row.invariant.1, before_most c.args.pool.now c.args.table c.loop-row.row (omega (arith, c.loop-row-test.true, c.loop-row.invariant.0)))

pub overflow_cast-end : goal.overflow_cast-end
overflow_cast-end c = omega (arith, most c, c.requires.fits)

pub overflow_add-end : goal.overflow_add-end
overflow_add-end c = omega (arith, most c, c.requires.fits)

pub loop-row-preserved : goal.loop-row-preserved
loop-row-preserved c = (c.loop-row.invariant.0, omega (arith, c.loop-row.invariant.1, size c, before_next c.args.pool.now c.args.table c.loop-row.row))

pub returns : goal.returns
returns c =
    let all : c.loop-row.row ≡ row_count c.args.pool.now c.args.table = omega (arith, c.loop-row-test.false, c.loop-row.auto.row-end, c.loop-row.invariant.0) in
    omega (arith, c.loop-row.invariant.1, before_all c.args.pool.now c.args.table, ap (bytes_before c.args.pool.now c.args.table) all)
