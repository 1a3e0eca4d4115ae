use Rattle.std.proofs.Common.{rules, arith, ◌≡◌, get_or, length, replicate, ap, ◌∙◌}
use Rattle.nxt_heap.proofs.AtStart.{Freed, Freed-start, Freed-last, Freed-pool, Freed-end, Freed-total, Freed-lists, get_or-zeros}
use Rattle.nxt_heap.proofs.blocks.free_all.Goals as goal

pub loop-row-init : goal.loop-row-init
loop-row-init c =
    let zeros : c.fill.new.self ≡ replicate (length c.args.pool.now) 0 = search rules in
    Freed-start c.fill.new.self c.set.new.pool c.args.table c.args.rows 0 c.requires.rows (omega arith)
    (λ k. ap (λ xs. get_or xs k 0) zeros ∙ get_or-zeros (length c.args.pool.now) k) c.set.ensures.row c.set.ensures.others (λ k low. c.set.ensures.below k 0 (omega arith))

-- every row above 0 is free
freed : (c : goal.After-loop-row) → Freed c.loop-row.pool c.args.table c.args.rows 1
freed c = Freed-last c.loop-row.pool c.args.table c.args.rows c.loop-row.row c.loop-row-test.false c.loop-row.invariant

pub returns-clause-pool : goal.returns-clause-pool
returns-clause-pool c = Freed-pool c.loop-row.pool c.args.table c.args.rows (freed c) c.requires.fits c.requires.word

pub returns-clause-end : goal.returns-clause-end
returns-clause-end c = Freed-end c.loop-row.pool c.args.table c.args.rows (freed c) c.requires.fits

pub returns-clause-total : goal.returns-clause-total
returns-clause-total c = Freed-total c.loop-row.pool c.args.table c.args.rows (freed c) c.requires.fits

pub returns-clause-lists : goal.returns-clause-lists
returns-clause-lists c = Freed-lists c.loop-row.pool c.args.table c.args.rows (freed c)
