use Rattle.std.proofs.Common.{arith}
use Rattle.nxt_heap.proofs.Begins.{table_inside}
use Rattle.nxt_heap.proofs.fronts.note_all.Goals as goal

pub get-rows-requires : goal.get-rows-requires
get-rows-requires c = omega (arith, table_inside c.args.pool.now c.args.table c.requires.pool.0 c.requires.pool.1, c.requires.pool.1.sound.some)

pub get-found-requires : goal.get-found-requires
get-found-requires c = omega (arith, table_inside c.args.pool.now c.args.table c.requires.pool.0 c.requires.pool.1, c.loop-row-test.true, c.loop-row.invariant.0)
