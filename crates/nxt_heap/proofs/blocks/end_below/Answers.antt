use Rattle.std.proofs.Common.{arith}
use Rattle.nxt_compact.proofs.Laws.Going.{first_full}
use Rattle.nxt_heap.proofs.Settled.{packed_end}
use Rattle.nxt_heap.proofs.blocks.end_below.Goals as goal

pub last_end-requires-clause-some : goal.last_end-requires-clause-some
last_end-requires-clause-some c =
    let first = first_full c.args.pool.now c.args.at.table c.args.at.base c.requires.pool.sound in
    (0, first, omega (arith, c.requires.most 0 first, first.some))

pub returns-then-at : goal.returns-then-at
returns-then-at c = packed_end c.args.pool.now c.args.at.table c.args.at.base c.args.place c.requires.pool c.requires.most (c.requires.packed c.if-at.true)
