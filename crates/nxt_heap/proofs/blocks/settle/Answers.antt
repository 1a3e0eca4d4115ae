use Rattle.std.proofs.Common.{◌≡◌, ◌+◌, ◌<◌, ◌≤◌, suc, refl, ap, sym, ◌∙◌, arith}
use Rattle.nxt_types.specs.Pool.{pool_size}
use Rattle.nxt_rows.specs.Rows.{dope_row}
use Rattle.nxt_compact.specs.Pools.{block_bytes, Compacts}
use Rattle.nxt_compact.proofs.Laws.Next.{IsNext}
use Rattle.nxt_heap.proofs.Begins.{table_inside}
use Rattle.nxt_heap.proofs.Settled.{rests}
use Rattle.nxt_heap.proofs.Settling.{settling_start, low_word, low_above, end_fits, next_block, next_open, next_moved, next_stayed, settled_full, settled_out, settling_moves}
use Rattle.nxt_heap.proofs.blocks.settle.Goals as goal
use Rattle.nxt_heap.proofs.blocks.settle.Goals.{then-low-found, else-low-found}

pub returns-then-at-clause-compacts : goal.returns-then-at-clause-compacts
returns-then-at-clause-compacts c =
    let b = c.requires in
    rests c.args.pool.now c.args.at.now.table c.args.at.now.base c.args.at.now.end c.args.k b.is_pool b.end_is (c.if-at.true ∙ b.footprint_is)

pub returns-then-at-clause-moves : goal.returns-then-at-clause-moves
returns-then-at-clause-moves c =
    let b = c.requires in
    let r = rests c.args.pool.now c.args.at.now.table c.args.at.now.base c.args.at.now.end c.args.k b.is_pool b.end_is (c.if-at.true ∙ b.footprint_is) in
    record { blocks = b; moves = r.moves; base = refl; footprint = refl }

pub loop-settled-init : goal.loop-settled-init
loop-settled-init c = (0, settling_start c.args.pool.now c.args.fronts.now c.args.at.now c.requires, omega arith)

pub first_front-requires : goal.first_front-requires
first_front-requires c =
    let i = c.loop-settled.invariant in
    omega (arith, c.word-in-loop-settled.ensures, i.1.blocks.are_fronts.size, end_fits c.args.pool.now c.loop-settled.pool c.args.fronts.now c.loop-settled.fronts c.args.at.now c.loop-settled.at c.loop-settled.low c.loop-settled.settled i.0 c.requires i.1)

-- no block is left
out : (c : goal.In_default) → Compacts c.args.at.now.base c.args.k c.args.pool.now c.loop-settled.pool c.args.at.now.table c.loop-settled.at.table c.loop-settled.settled
out c =
    let i = c.loop-settled.invariant in
    settled_out c.args.pool.now c.loop-settled.pool c.args.fronts.now c.loop-settled.fronts c.args.at.now c.loop-settled.at c.loop-settled.low c.loop-settled.settled i.0 c.requires i.1 c.args.k i.2
    (λ w low high. c.in_default.ensures.none w (omega (arith, low, c.word.ensures)) (omega (arith, high, c.word-in-loop-settled.ensures)))

pub returns-in_default-clause-compacts : goal.returns-in_default-clause-compacts
returns-in_default-clause-compacts c = out c

pub returns-in_default-clause-moves : goal.returns-in_default-clause-moves
returns-in_default-clause-moves c =
    let i = c.loop-settled.invariant in
    settling_moves c.args.pool.now c.loop-settled.pool c.args.fronts.now c.loop-settled.fronts c.args.at.now c.loop-settled.at c.loop-settled.low c.loop-settled.settled i.0 c.requires i.1 c.args.k (out c)

pub get-found-requires : goal.get-found-requires
get-found-requires c =
    let n = next_block c.args.pool.now c.loop-settled.pool c.args.fronts.now c.loop-settled.fronts c.args.at.now c.loop-settled.at c.loop-settled.low c.loop-settled.settled c.loop-settled.invariant.0 c.requires c.loop-settled.invariant.1 c.in-Some.row
    (rw (sym c.word.ensures, sym c.word-in-loop-settled.ensures) c.in-Some.ensures.some) in
    omega (arith, n.full.within, table_inside c.loop-settled.pool c.loop-settled.at.table c.loop-settled.at.base c.loop-settled.invariant.1.blocks.is_pool)

-- the next block moves down
next_down : (c : goal.After-move_to-arg-then-low-found-2-1) → IsNext c.loop-settled.pool c.loop-settled.at.table c.loop-settled.low c.in-Some.row
next_down c =
    next_block c.args.pool.now c.loop-settled.pool c.args.fronts.now c.loop-settled.fronts c.args.at.now c.loop-settled.at c.loop-settled.low c.loop-settled.settled c.loop-settled.invariant.0 c.requires c.loop-settled.invariant.1 c.in-Some.row
    (rw (sym c.word.ensures, sym c.word-in-loop-settled.ensures) c.in-Some.ensures.some)

pub move_to-requires-clause-blocks : goal.move_to-requires-clause-blocks
move_to-requires-clause-blocks c = c.loop-settled.invariant.1.blocks

pub move_to-requires-clause-full : goal.move_to-requires-clause-full
move_to-requires-clause-full c = (next_down c).full

pub move_to-requires-clause-above : goal.move_to-requires-clause-above
move_to-requires-clause-above c = low_above c.args.pool.now c.loop-settled.pool c.args.fronts.now c.loop-settled.fronts c.args.at.now c.loop-settled.at c.loop-settled.low c.loop-settled.settled c.loop-settled.invariant.0 c.requires c.loop-settled.invariant.1

pub move_to-requires-clause-word : goal.move_to-requires-clause-word
move_to-requires-clause-word c = low_word c.args.pool.now c.loop-settled.pool c.args.fronts.now c.loop-settled.fronts c.args.at.now c.loop-settled.at c.loop-settled.low c.loop-settled.settled c.loop-settled.invariant.0 c.requires c.loop-settled.invariant.1

pub move_to-requires-clause-hole : goal.move_to-requires-clause-hole
move_to-requires-clause-hole c = next_open c.args.pool.now c.loop-settled.pool c.args.fronts.now c.loop-settled.fronts c.args.at.now c.loop-settled.at c.loop-settled.low c.loop-settled.settled c.loop-settled.invariant.0 c.requires c.loop-settled.invariant.1 c.in-Some.row (next_down c)

-- and the search goes on behind it
next : (c : goal.After-block_bytes) → IsNext c.loop-settled.pool c.loop-settled.at.table c.loop-settled.low c.in-Some.row
next c =
    next_block c.args.pool.now c.loop-settled.pool c.args.fronts.now c.loop-settled.fronts c.args.at.now c.loop-settled.at c.loop-settled.low c.loop-settled.settled c.loop-settled.invariant.0 c.requires c.loop-settled.invariant.1 c.in-Some.row
    (rw (sym c.word.ensures, sym c.word-in-loop-settled.ensures) c.in-Some.ensures.some)

size : (c : goal.After-block_bytes) → c.block_bytes.result ≡ block_bytes (dope_row c.loop-settled.pool c.loop-settled.at.table c.in-Some.row)
size c = c.block_bytes.ensures ∙ ap block_bytes c.get-found.ensures

inside : (c : goal.After-block_bytes) → c.loop-settled.low + c.block_bytes.result ≤ pool_size
inside c = omega (arith, size c, (next_open c.args.pool.now c.loop-settled.pool c.args.fronts.now c.loop-settled.fronts c.args.at.now c.loop-settled.at c.loop-settled.low c.loop-settled.settled c.loop-settled.invariant.0 c.requires c.loop-settled.invariant.1 c.in-Some.row (next c)).within, c.loop-settled.invariant.1.blocks.is_pool.size)

pub overflow_cast-low : goal.overflow_cast-low
overflow_cast-low c = omega (arith, inside c)

pub overflow_add-low : goal.overflow_add-low
overflow_add-low c = omega (arith, inside c)

pub loop-settled-smaller : goal.loop-settled-smaller
loop-settled-smaller c = omega (arith, inside c, size c, (next c).full.some)

pub loop-settled-preserved : goal.loop-settled-preserved
loop-settled-preserved c =
    let i = c.loop-settled.invariant in
    let row = c.in-Some.row in
    let place : c.get-found.result.place ≡ (dope_row c.loop-settled.pool c.loop-settled.at.table row).place = ap (λ d. d.place) c.get-found.ensures in
    elim c.if-low-found.branch [
      | then-low-found w ↦
          let less : c.loop-settled.low < (dope_row c.loop-settled.pool c.loop-settled.at.table row).place = omega (arith, w.if-low-found.true, place) in
          let moved = next_moved c.args.pool.now c.loop-settled.pool c.args.fronts.now c.loop-settled.fronts c.args.at.now c.loop-settled.at c.loop-settled.low c.loop-settled.settled c.loop-settled.invariant.0 c.requires c.loop-settled.invariant.1 row (next c) w.move_to.new.pool w.move_to.new.fronts w.move_to.new.at less w.move_to.ensures in (
            suc (dope_row c.args.pool.now c.args.at.now.table row).place,
            rw (w.pool-is, w.fronts-is, w.at-is, w.settled-is, size c) moved,
            omega (arith, w.settled-is, i.2, c.loop-settled-test.true),
          )
      | else-low-found w ↦
          let stayed = next_stayed c.args.pool.now c.loop-settled.pool c.args.fronts.now c.loop-settled.fronts c.args.at.now c.loop-settled.at c.loop-settled.low c.loop-settled.settled c.loop-settled.invariant.0 c.requires c.loop-settled.invariant.1 row (next c) (omega (arith, w.if-low-found.false, place)) in (
            suc (dope_row c.args.pool.now c.args.at.now.table row).place,
            rw (w.pool-is, w.fronts-is, w.at-is, w.settled-is, size c) stayed,
            omega (arith, w.settled-is, i.2),
          )
    ]

-- as many have settled as may
full : (c : goal.After-loop-settled) → Compacts c.args.at.now.base c.args.k c.args.pool.now c.loop-settled.pool c.args.at.now.table c.loop-settled.at.table c.loop-settled.settled
full c = settled_full c.args.pool.now c.loop-settled.pool c.args.fronts.now c.loop-settled.fronts c.args.at.now c.loop-settled.at c.loop-settled.low c.loop-settled.settled c.loop-settled.invariant.0 c.requires c.loop-settled.invariant.1 c.args.k (omega (arith, c.loop-settled.invariant.2, c.loop-settled-test.false))

pub returns-clause-compacts : goal.returns-clause-compacts
returns-clause-compacts c = full c

pub returns-clause-moves : goal.returns-clause-moves
returns-clause-moves c = settling_moves c.args.pool.now c.loop-settled.pool c.args.fronts.now c.loop-settled.fronts c.args.at.now c.loop-settled.at c.loop-settled.low c.loop-settled.settled c.loop-settled.invariant.0 c.requires c.loop-settled.invariant.1 c.args.k (full c)
