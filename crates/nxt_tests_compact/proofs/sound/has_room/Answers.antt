-- All rows are counted, so the sum is that of all blocks.
use Rattle.std.proofs.Common.{◌≡◌, ◌+◌, ◌-◌, length, ap, ◌∙◌, arith}
use Rattle.std.proofs.lemmas.Bool.{leb-true}
use Rattle.nxt_rows.specs.Rows.{dope_row, row_count}
use Rattle.nxt_blocks.specs.Blocks.{total}
use Rattle.nxt_compact.specs.Pools.{block_bytes, blocks_in}
use Rattle.nxt_compact.proofs.Laws.Opening.{bytes_before, before_next, before_all}
use Rattle.nxt_tests_compact.proofs.Room.{row_inside, all_inside, next_inside}
use Rattle.nxt_tests_compact.proofs.sound.has_room.Goals as goal

pub get-rows-requires : goal.get-rows-requires
get-rows-requires c = omega (arith, row_inside c.args.pool.now c.args.table c.args.base 0 c.requires c.requires.some)

pub get-requires : goal.get-requires
get-requires c = row_inside c.args.pool.now c.args.table c.args.base c.args.row c.requires (omega (arith, c.if-row-rows.false, ap (λ d. d.count) c.get-rows.ensures))

pub get-requires-in-loop-row : goal.get-requires-in-loop-row
get-requires-in-loop-row c = row_inside c.args.pool.now c.args.table c.args.base c.loop-row.row c.requires (omega (arith, c.loop-row-test.true, ap (λ d. d.count) c.get-rows.ensures))

pub overflow_add-end : goal.overflow_add-end
overflow_add-end c =
    let size : c.block_bytes-end.result ≡ block_bytes (dope_row c.args.pool.now c.args.table c.loop-row.row) = c.block_bytes-end.ensures ∙ ap block_bytes c.get-in-loop-row.ensures in
    omega (
      arith,
      size,
      c.loop-row.invariant,
      next_inside c.args.pool.now c.args.table c.args.base c.loop-row.row c.requires (omega (arith, c.loop-row-test.true, ap (λ d. d.count) c.get-rows.ensures)),
      c.requires.size,
    )

pub loop-row-preserved : goal.loop-row-preserved
loop-row-preserved c =
    let size : c.block_bytes-end.result ≡ block_bytes (dope_row c.args.pool.now c.args.table c.loop-row.row) = c.block_bytes-end.ensures ∙ ap block_bytes c.get-in-loop-row.ensures in
    omega (arith, size, c.loop-row.invariant, before_next c.args.pool.now c.args.table c.loop-row.row)

-- the sum after the last row
all : (c : goal.Else-room-had) → c.loop-row.end ≡ c.args.base + total (blocks_in c.args.pool.now c.args.table)
all c =
    let last : c.loop-row.row ≡ row_count c.args.pool.now c.args.table = omega (arith, c.loop-row-test.false, c.loop-row.auto.row-end, ap (λ d. d.count) c.get-rows.ensures) in
    omega (arith, c.loop-row.invariant, before_all c.args.pool.now c.args.table, ap (bytes_before c.args.pool.now c.args.table) last)

pub overflow_add-result : goal.overflow_add-result
overflow_add-result c = omega (arith, all c, all_inside c.args.pool.now c.args.table c.args.base c.requires, c.requires.size, c.round4-room.ensures)

pub returns-then-room-had : goal.returns-then-room-had
returns-then-room-had c holds =
    let had : c.block_bytes-had.result ≡ block_bytes (dope_row c.args.pool.now c.args.table c.args.row) = c.block_bytes-had.ensures ∙ ap block_bytes c.get.ensures in
    record {
      sound = c.requires;
      within = omega (arith, c.if-row-rows.false, ap (λ d. d.count) c.get-rows.ensures);
      fits = omega (arith, all_inside c.args.pool.now c.args.table c.args.base c.requires, had, c.if-room-had.true, c.round4-room.ensures);
    }

pub returns-else-room-had : goal.returns-else-room-had
returns-else-room-had c holds =
    let had : c.block_bytes-had.result ≡ block_bytes (dope_row c.args.pool.now c.args.table c.args.row) = c.block_bytes-had.ensures ∙ ap block_bytes c.get.ensures in
    record {
      sound = c.requires;
      within = omega (arith, c.if-row-rows.false, ap (λ d. d.count) c.get-rows.ensures);
      fits = omega (arith, all c, had, c.if-room-had.false, c.round4-room.ensures, leb-true (c.loop-row.end + (c.round4-room.result - c.block_bytes-had.result)) (length c.args.pool.now) holds);
    }
