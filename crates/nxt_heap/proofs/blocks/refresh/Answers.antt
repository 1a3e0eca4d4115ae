use Rattle.std.proofs.Common.{arith}
use Rattle.nxt_compact.proofs.Laws.Going.{first_full}
use Rattle.nxt_heap.proofs.blocks.refresh.Goals as goal

pub last_end-requires-clause-some : goal.last_end-requires-clause-some
last_end-requires-clause-some c =
    let p = c.requires.pool.1 in
    let first = first_full c.args.pool.now c.args.table c.requires.pool.0 p.sound in
    (0, first, omega (arith, p.sound.within 0 first, first.some, p.size))

pub returns-clause-end : goal.returns-clause-end
returns-clause-end c =
    let p = c.requires.pool.1 in
    let e = c.last_end.ensures in
    record {
      most = λ r f. e.most r f (omega (arith, p.sound.within r f, f.some, p.size));
      is = (e.is.0, e.is.1, e.is.3);
    }
