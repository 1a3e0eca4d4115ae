use Rattle.std.proofs.Common.{◌≡◌, ◌+◌, ap, ◌∙◌, arith}
use Rattle.nxt_rows.specs.Rows.{dope_row}
use Rattle.nxt_compact.specs.Pools.{block_bytes}
use Rattle.nxt_heap.proofs.Begins.{table_inside}
use Rattle.nxt_heap.proofs.IntoHole.{ends_there, ends_below, ends_still}
use Rattle.nxt_heap.proofs.blocks.end_after.Goals as goal

pub get-found-requires : goal.get-found-requires
get-found-requires c = omega (arith, c.requires.moved.full.within, table_inside c.args.pool.now c.args.at.table c.args.at.base c.requires.pool)

pub overflow_cast-bytes : goal.overflow_cast-bytes
overflow_cast-bytes c =
    let bytes : c.block_bytes-bytes.result ≡ block_bytes (dope_row c.args.pool.now c.args.at.table c.args.row) = c.block_bytes-bytes.ensures ∙ ap block_bytes c.get-found.ensures in
    omega (arith, bytes, c.requires.pool.sound.within c.args.row c.requires.moved.full, c.requires.pool.size)

pub overflow_add-end : goal.overflow_add-end
overflow_add-end c =
    let place : c.get-found.result.place ≡ (dope_row c.args.pool.now c.args.at.table c.args.row).place = ap (λ d. d.place) c.get-found.ensures in
    let bytes : c.block_bytes-bytes.result ≡ block_bytes (dope_row c.args.pool.now c.args.at.table c.args.row) = c.block_bytes-bytes.ensures ∙ ap block_bytes c.get-found.ensures in
    omega (arith, place, bytes, c.requires.pool.sound.within c.args.row c.requires.moved.full, c.requires.pool.size)

pub overflow_add-from : goal.overflow_add-from
overflow_add-from c =
    let bytes : c.block_bytes-bytes.result ≡ block_bytes (dope_row c.args.pool.now c.args.at.table c.args.row) = c.block_bytes-bytes.ensures ∙ ap block_bytes c.get-found.ensures in
    omega (arith, bytes, c.requires.moved.most, c.requires.moved.inside)

pub last_end-requires-clause-below : goal.last_end-requires-clause-below
last_end-requires-clause-below c = omega (arith, c.if-from-bytes.true, c.requires.moved.inside)

pub last_end-requires-clause-some : goal.last_end-requires-clause-some
last_end-requires-clause-some c =
    let place : c.get-found.result.place ≡ (dope_row c.args.pool.now c.args.at.table c.args.row).place = ap (λ d. d.place) c.get-found.ensures in
    (c.args.row, c.requires.moved.full, omega (arith, c.if-end-at.false, c.if-from-bytes.true, place))

pub returns-then-end-at : goal.returns-then-end-at
returns-then-end-at c =
    let place : c.get-found.result.place ≡ (dope_row c.args.pool.now c.args.at.table c.args.row).place = ap (λ d. d.place) c.get-found.ensures in
    let bytes : c.block_bytes-bytes.result ≡ block_bytes (dope_row c.args.pool.now c.args.at.table c.args.row) = c.block_bytes-bytes.ensures ∙ ap block_bytes c.get-found.ensures in
    ends_there c.args.pool.now c.args.at c.args.row c.args.from c.requires.moved (c.get-found.result.place + c.block_bytes-bytes.result) (omega (arith, place, bytes)) c.if-end-at.true

pub returns-then-from-bytes : goal.returns-then-from-bytes
returns-then-from-bytes c =
    let place : c.get-found.result.place ≡ (dope_row c.args.pool.now c.args.at.table c.args.row).place = ap (λ d. d.place) c.get-found.ensures in
    let bytes : c.block_bytes-bytes.result ≡ block_bytes (dope_row c.args.pool.now c.args.at.table c.args.row) = c.block_bytes-bytes.ensures ∙ ap block_bytes c.get-found.ensures in
    ends_below c.args.pool.now c.args.at c.args.row c.args.from c.requires.moved c.last_end.result (omega (arith, place, bytes, c.if-end-at.false)) (omega (arith, bytes, c.if-from-bytes.true)) c.last_end.ensures

pub returns-else-from-bytes : goal.returns-else-from-bytes
returns-else-from-bytes c =
    let place : c.get-found.result.place ≡ (dope_row c.args.pool.now c.args.at.table c.args.row).place = ap (λ d. d.place) c.get-found.ensures in
    let bytes : c.block_bytes-bytes.result ≡ block_bytes (dope_row c.args.pool.now c.args.at.table c.args.row) = c.block_bytes-bytes.ensures ∙ ap block_bytes c.get-found.ensures in
    ends_still c.args.pool.now c.args.at c.args.row c.args.from c.requires.moved (omega (arith, place, bytes, c.if-end-at.false)) (λ e. c.if-from-bytes.false (omega (arith, bytes, e)))
