use Rattle.std.proofs.Common.{◌++◌, length-append, arith}
use Rattle.nxt_edge.proofs.Laws.{Consumes-Consumes}
use Rattle.nxt_edge.proofs.read_write.read_front.Goals as goal

-- what was taken before, and what the last call took
pub returns-in-Err-clause-gone : goal.returns-in-Err-clause-gone
returns-in-Err-clause-gone g c =
    let before = c.loop-bytes.bytes in
    let last = c.in-Err.ensures.gone in
    (before ++ last.0, omega (arith, length-append before last.0, last.1, c.loop-bytes.invariant.within), Consumes-Consumes _ _ _ before last.0 c.loop-bytes.invariant.taken last.2)
