-- So many words stand behind their number.
use Rattle.std.proofs.Common.{◌≡◌}
use Rattle.nxt_ops.proofs.PairedNumbers.{number_words}
use Rattle.nxt_ops.proofs.lists.mapped.Given as goal

abbrev pub invariant-loop-number : goal.invariant-loop-number
invariant-loop-number l = l.flat ≡ number_words l.operator l.signed l.numbers l.number-index
