use Rattle.std.proofs.Common.{arith}
use Rattle.nxt_rows.proofs.Laws.FreeRows.{Walks-start, Walks-end, Stepped, Walks-step}
use Rattle.nxt_rows.proofs.Laws.Writes.{row_count-fits}
use Rattle.nxt_rows.proofs.spare.Goals as goal

pub loop-row-init : goal.loop-row-init
loop-row-init c = rw c.get-row.ensures (Walks-start c.args.pool.now c.args.table)

stepped : (c : goal.In-loop-row) → Stepped c.args.pool.now c.args.table c.loop-row.free c.loop-row.row
stepped c =
    Walks-step c.args.pool.now c.args.table c.loop-row.free c.loop-row.row c.requires.table c.requires.chain c.loop-row.invariant
    (omega (arith, c.loop-row-test.true))

-- the same after the row is read
stepped_on : (c : goal.After-get-row-in-loop-row) → Stepped c.args.pool.now c.args.table c.loop-row.free c.loop-row.row
stepped_on c =
    Walks-step c.args.pool.now c.args.table c.loop-row.free c.loop-row.row c.requires.table c.requires.chain c.loop-row.invariant
    (omega (arith, c.loop-row-test.true))

pub overflow_add-free : goal.overflow_add-free
overflow_add-free c = let s = stepped c in omega (arith, s.more, s.fits, row_count-fits c.args.pool.now c.args.table c.type_inv.pool)

pub get-row-requires-in-loop-row : goal.get-row-requires-in-loop-row
get-row-requires-in-loop-row c = let s = stepped c in omega (arith, s.inside, c.requires.table.within)

pub loop-row-smaller : goal.loop-row-smaller
loop-row-smaller c = let s = stepped_on c in omega (arith, s.more, s.fits)

pub loop-row-preserved : goal.loop-row-preserved
loop-row-preserved c = rw c.get-row-in-loop-row.ensures ((stepped_on c).next)

pub returns : goal.returns
returns c = Walks-end c.args.pool.now c.args.table c.loop-row.free (rw c.loop-row-test.false at c.loop-row.invariant)
