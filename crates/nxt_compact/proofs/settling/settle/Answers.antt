use Rattle.std.proofs.Common.{◌≡◌, suc, length, ap, subst, ◌∙◌, arith}
use Rattle.nxt_rows.specs.Rows.{dope_row}
use Rattle.nxt_compact.specs.Pools.{block_bytes}
use Rattle.nxt_compact.proofs.Laws.Next.{IsNext}
use Rattle.nxt_compact.proofs.Laws.Going.{Going-start, Going-moved, Going-stayed, Going-full, Going-out, Block', going_inside, next_inside, going_above, movable}
use Rattle.nxt_compact.proofs.Ordered.{Ahead, ahead_first, next_row, ahead_next, all_passed}
use Rattle.nxt_compact.proofs.settling.settle.Goals as goal
use Rattle.nxt_compact.proofs.settling.settle.Goals.{then-at-found, else-at-found}

pub loop-key-init : goal.loop-key-init
loop-key-init c = (0, Going-start c.args.pool.now c.args.table.now c.args.base c.requires.sound, ahead_first c.args.order.now, omega arith)

pub returns-then-settled-k : goal.returns-then-settled-k
returns-then-settled-k c =
    Going-full c.args.pool.now c.loop-key.pool c.args.table.now c.loop-key.table c.args.base c.loop-key.at c.loop-key.settled c.loop-key.invariant.0 c.args.k
    c.requires.sound c.loop-key.invariant.1 c.if-settled-k.true

pub returns : goal.returns
returns c =
    let upto = c.loop-key.invariant.0 in
    let ahead : Ahead c.args.order.now (length c.args.order.now) upto = subst (λ i. Ahead c.args.order.now i upto) (omega (arith, c.loop-key-test.false, c.loop-key.auto.key-index-end)) c.loop-key.invariant.2 in
    Going-out c.args.pool.now c.loop-key.pool c.args.table.now c.loop-key.table c.args.base c.loop-key.at c.loop-key.settled upto c.args.k
    c.requires.sound c.loop-key.invariant.1
    (all_passed c.args.pool.now c.args.order.now c.args.table.now c.args.base upto c.requires.sound c.requires.order ahead)
    c.loop-key.invariant.3

next_at : (c : goal.After-row_known-in-loop-key-1) → IsNext c.loop-key.pool c.loop-key.table c.loop-key.at c.row_in-row.result
next_at c =
    next_row c.args.pool.now c.loop-key.pool c.args.order.now c.args.table.now c.loop-key.table c.args.base c.loop-key.at c.loop-key.settled c.loop-key.invariant.0 c.loop-key.key-index c.row_in-row.result
    c.requires.sound c.requires.order c.loop-key.invariant.1 c.loop-key.invariant.2 c.loop-key-test.true c.row_in-row.ensures

pub get-found-requires : goal.get-found-requires
get-found-requires c =
    let inside = going_inside c.args.pool.now c.loop-key.pool c.args.table.now c.loop-key.table c.args.base c.loop-key.at c.loop-key.settled c.loop-key.invariant.0 c.requires.sound c.loop-key.invariant.1 in
    omega (arith, inside.fits, (next_at c).full.within)

pub move_block-requires : goal.move_block-requires
move_block-requires c =
    movable c.args.pool.now c.loop-key.pool c.args.table.now c.loop-key.table c.args.base c.loop-key.at c.loop-key.settled c.loop-key.invariant.0 c.row_in-row.result c.loop-key.invariant.1 c.requires.sound
    (next_row c.args.pool.now c.loop-key.pool c.args.order.now c.args.table.now c.loop-key.table c.args.base c.loop-key.at c.loop-key.settled c.loop-key.invariant.0 c.loop-key.key-index c.row_in-row.result
    c.requires.sound c.requires.order c.loop-key.invariant.1 c.loop-key.invariant.2 c.loop-key-test.true c.row_in-row.ensures)

next : (c : goal.After-block_bytes) → IsNext c.loop-key.pool c.loop-key.table c.loop-key.at c.row_in-row.result
next c =
    next_row c.args.pool.now c.loop-key.pool c.args.order.now c.args.table.now c.loop-key.table c.args.base c.loop-key.at c.loop-key.settled c.loop-key.invariant.0 c.loop-key.key-index c.row_in-row.result
    c.requires.sound c.requires.order c.loop-key.invariant.1 c.loop-key.invariant.2 c.loop-key-test.true c.row_in-row.ensures

size : (c : goal.After-block_bytes) → c.block_bytes.result ≡ block_bytes (dope_row c.loop-key.pool c.loop-key.table c.row_in-row.result)
size c = c.block_bytes.ensures ∙ ap block_bytes c.get-found.ensures

fits : (c : goal.After-block_bytes) → Block' c.loop-key.pool c.loop-key.table c.loop-key.at c.row_in-row.result
fits c = next_inside c.args.pool.now c.loop-key.pool c.args.table.now c.loop-key.table c.args.base c.loop-key.at c.loop-key.settled c.loop-key.invariant.0 c.row_in-row.result c.requires.sound c.loop-key.invariant.1 (next c)

pub overflow_cast-at : goal.overflow_cast-at
overflow_cast-at c = let f = fits c in omega (arith, size c, f.within, f.small)

pub overflow_add-at : goal.overflow_add-at
overflow_add-at c = let f = fits c in omega (arith, size c, f.within, f.small)

pub loop-key-preserved : goal.loop-key-preserved
loop-key-preserved c =
    let upto = c.loop-key.invariant.0 in
    let g = c.loop-key.invariant.1 in
    let row = c.row_in-row.result in
    let place : c.get-found.result.place ≡ (dope_row c.loop-key.pool c.loop-key.table row).place = ap (λ d. d.place) c.get-found.ensures in
    let ahead = ahead_next c.args.pool.now c.args.order.now c.args.table.now c.args.base c.loop-key.key-index upto row c.requires.sound c.requires.order c.loop-key.invariant.2 c.loop-key-test.true c.row_in-row.ensures in
    elim c.if-at-found.branch [
      | then-at-found w ↦
          let above = going_above c.args.pool.now c.loop-key.pool c.args.table.now c.loop-key.table c.args.base c.loop-key.at c.loop-key.settled upto c.requires.sound g in
          let moved = Going-moved c.args.pool.now c.loop-key.pool w.move_block.new.pool c.args.table.now c.loop-key.table w.move_block.new.table c.args.base c.loop-key.at c.loop-key.settled upto row c.requires.sound g (next c)
          (omega (arith, w.if-at-found.true, place)) (w.move_block.ensures c.args.base above.0 above.1) in (
            suc (dope_row c.args.pool.now c.args.table.now row).place,
            rw (w.pool-is, w.table-is, w.settled-is, size c) moved,
            ahead,
            omega (arith, w.settled-is, c.loop-key.invariant.3, c.if-settled-k.false),
          )
      | else-at-found w ↦
          let stayed = Going-stayed c.args.pool.now c.loop-key.pool c.args.table.now c.loop-key.table c.args.base c.loop-key.at c.loop-key.settled upto row c.requires.sound g (next c) (omega (arith, w.if-at-found.false, place)) in (
            suc (dope_row c.args.pool.now c.args.table.now row).place,
            rw (w.pool-is, w.table-is, w.settled-is, size c) stayed,
            ahead,
            omega (arith, w.settled-is, c.loop-key.invariant.3),
          )
    ]
