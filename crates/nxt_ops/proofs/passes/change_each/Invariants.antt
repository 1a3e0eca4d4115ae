-- So many words are changed.
use Rattle.std.specs.Prelude.{pos}
use Rattle.nxt_ops.specs.Ops.{word_of_one}
use Rattle.nxt_ops.proofs.Passing.{Passed}
use Rattle.nxt_ops.proofs.passes.change_each.Given as goal

abbrev pub invariant-loop-k : goal.invariant-loop-k
invariant-loop-k l = Passed (λ w. word_of_one l.operator l.signed (pos w)) l.initial.xs l.initial.xs l.xs l.k
