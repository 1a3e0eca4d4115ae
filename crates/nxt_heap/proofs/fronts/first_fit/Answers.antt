use Rattle.std.proofs.Common.{◌+◌, ◌/◌, sym, arith}
use Rattle.nxt_heap.proofs.Begins.{Found, found, fit_here, fit_behind, no_fit, table_inside}
use Rattle.nxt_heap.proofs.fronts.first_fit.Goals as goal

pub loop-at-init : goal.loop-at-init
loop-at-init c = record {
  low = omega arith;
  word = c.requires.word;
  inside = omega (arith, c.requires.start, c.requires.pool.1.size);
  clean = c.requires.clean;
  first = λ p above hole. above;
}

pub returns-in-None-clause-some : goal.returns-in-None-clause-some
returns-in-None-clause-some c =
    fit_here c.args.pool.now c.args.table c.requires.pool.0 c.args.fronts.now c.args.start c.args.bytes c.loop-at.at c.requires.pool.1 c.requires.fronts c.requires.bytes (omega (arith, c.loop-at-test.true, c.requires.pool.1.size)) c.loop-at.invariant
    (λ w low high. c.in-None.ensures.none w (omega (arith, low, c.word.ensures)) (omega (arith, high, c.word-in-loop-at.ensures)))

pub block_end-at-requires-clause-row : goal.block_end-at-requires-clause-row
block_end-at-requires-clause-row c =
    let f : Found c.args.pool.now c.args.table (c.loop-at.at / 4) ((c.loop-at.at + c.args.bytes) / 4) c.in-Some.row = found c.args.pool.now c.args.table c.requires.pool.0 c.args.fronts.now (c.loop-at.at / 4) ((c.loop-at.at + c.args.bytes) / 4) c.in-Some.row c.requires.pool.1 c.requires.fronts
    (omega (arith, c.loop-at-test.true)) (rw (sym c.word.ensures, sym c.word-in-loop-at.ensures) c.in-Some.ensures.some) in
    omega (arith, f.full.within, table_inside c.args.pool.now c.args.table c.requires.pool.0 c.requires.pool.1)

pub block_end-at-requires-clause-fits : goal.block_end-at-requires-clause-fits
block_end-at-requires-clause-fits c =
    let f : Found c.args.pool.now c.args.table (c.loop-at.at / 4) ((c.loop-at.at + c.args.bytes) / 4) c.in-Some.row = found c.args.pool.now c.args.table c.requires.pool.0 c.args.fronts.now (c.loop-at.at / 4) ((c.loop-at.at + c.args.bytes) / 4) c.in-Some.row c.requires.pool.1 c.requires.fronts
    (omega (arith, c.loop-at-test.true)) (rw (sym c.word.ensures, sym c.word-in-loop-at.ensures) c.in-Some.ensures.some) in
    omega (arith, c.requires.pool.1.sound.within c.in-Some.row f.full, c.requires.pool.1.size)

pub loop-at-preserved : goal.loop-at-preserved
loop-at-preserved c =
    let f : Found c.args.pool.now c.args.table (c.loop-at.at / 4) ((c.loop-at.at + c.args.bytes) / 4) c.in-Some.row = found c.args.pool.now c.args.table c.requires.pool.0 c.args.fronts.now (c.loop-at.at / 4) ((c.loop-at.at + c.args.bytes) / 4) c.in-Some.row c.requires.pool.1 c.requires.fronts
    (omega (arith, c.loop-at-test.true)) (rw (sym c.word.ensures, sym c.word-in-loop-at.ensures) c.in-Some.ensures.some) in
    rw c.block_end-at.ensures (fit_behind c.args.pool.now c.args.table c.requires.pool.0 c.args.start c.args.bytes c.loop-at.at c.in-Some.row c.requires.pool.1 c.requires.bytes c.loop-at.invariant f)

pub loop-at-smaller : goal.loop-at-smaller
loop-at-smaller c =
    let f : Found c.args.pool.now c.args.table (c.loop-at.at / 4) ((c.loop-at.at + c.args.bytes) / 4) c.in-Some.row = found c.args.pool.now c.args.table c.requires.pool.0 c.args.fronts.now (c.loop-at.at / 4) ((c.loop-at.at + c.args.bytes) / 4) c.in-Some.row c.requires.pool.1 c.requires.fronts
    (omega (arith, c.loop-at-test.true)) (rw (sym c.word.ensures, sym c.word-in-loop-at.ensures) c.in-Some.ensures.some) in
    omega (arith, c.block_end-at.ensures, f.low, f.full.some, c.loop-at.invariant.word, c.requires.pool.1.sound.within c.in-Some.row f.full)

pub returns-clause-none : goal.returns-clause-none
returns-clause-none c = no_fit c.args.pool.now c.args.table c.args.start c.args.bytes c.loop-at.at (omega (arith, c.loop-at-test.false, c.requires.pool.1.size)) c.loop-at.invariant
