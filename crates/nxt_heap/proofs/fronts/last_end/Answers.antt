use Rattle.std.proofs.Common.{◌-◌, slice_index, refl, subst, arith}
use Rattle.nxt_heap.proofs.Begins.{NoneAbove, last_is, none_left, table_inside}
use Rattle.nxt_heap.proofs.fronts.last_end.Goals as goal

pub block_end-requires-clause-row : goal.block_end-requires-clause-row
block_end-requires-clause-row c =
    let found = last_is c.args.pool.now c.args.table c.requires.pool.0 c.args.fronts.now (c.loop-at.at - 1) c.args.below (slice_index c.args.fronts.now (c.loop-at.at - 1)) c.requires.pool.1 c.requires.fronts c.requires.below
    (subst (λ n. NoneAbove c.args.fronts.now n c.args.below) (omega (arith, c.loop-at-test.true)) c.loop-at.invariant) refl c.if-row.true in
    omega (arith, found.1.within, table_inside c.args.pool.now c.args.table c.requires.pool.0 c.requires.pool.1)

pub block_end-requires-clause-fits : goal.block_end-requires-clause-fits
block_end-requires-clause-fits c =
    let found = last_is c.args.pool.now c.args.table c.requires.pool.0 c.args.fronts.now (c.loop-at.at - 1) c.args.below (slice_index c.args.fronts.now (c.loop-at.at - 1)) c.requires.pool.1 c.requires.fronts c.requires.below
    (subst (λ n. NoneAbove c.args.fronts.now n c.args.below) (omega (arith, c.loop-at-test.true)) c.loop-at.invariant) refl c.if-row.true in
    omega (arith, c.requires.pool.1.sound.within (slice_index c.args.fronts.now (c.loop-at.at - 1)) found.1, c.requires.pool.1.size)

pub returns-then-row : goal.returns-then-row
returns-then-row c =
    let found = last_is c.args.pool.now c.args.table c.requires.pool.0 c.args.fronts.now (c.loop-at.at - 1) c.args.below (slice_index c.args.fronts.now (c.loop-at.at - 1)) c.requires.pool.1 c.requires.fronts c.requires.below
    (subst (λ n. NoneAbove c.args.fronts.now n c.args.below) (omega (arith, c.loop-at-test.true)) c.loop-at.invariant) refl c.if-row.true in
    rw c.block_end.ensures found.0

pub returns : goal.returns
returns c =
    let some = c.requires.some in
    absurd (none_left c.args.pool.now c.args.table c.requires.pool.0 c.args.fronts.now c.args.below some.0 c.requires.pool.1 c.requires.fronts
    (subst (λ n. NoneAbove c.args.fronts.now n c.args.below) (omega (arith, c.loop-at-test.false)) c.loop-at.invariant) some.1 some.2)
