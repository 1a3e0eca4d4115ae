-- So many words stand behind their number.
use Rattle.std.proofs.Common.{◌≡◌}
use Rattle.nxt_ops.specs.Elements.{pairs_of}
use Rattle.nxt_ops.proofs.PairedNumbers.{pair_words}
use Rattle.nxt_ops.proofs.lists.combined.Given as goal

abbrev pub invariant-loop-k : goal.invariant-loop-k
invariant-loop-k l = l.flat ≡ pair_words l.operator l.signed (pairs_of l.xs l.ys) l.k
