-- So many words are read.
use Rattle.nxt_types.specs.Arithmetic.{word}
use Rattle.nxt_model.specs.Values.{elements, number}
use Rattle.nxt_space.specs.Spots.{numbers_in_bytes}
use Rattle.nxt_ops.proofs.Passing.{Passed}
use Rattle.nxt_ops.proofs.passes.read_each.Given as goal

abbrev pub invariant-loop-k : goal.invariant-loop-k
invariant-loop-k l =
    Passed (λ v. word (number v)) (elements (numbers_in_bytes l.kind l.bytes)) l.initial.into l.into l.k
