-- So many words are combined.
use Rattle.std.specs.Prelude.{ℕ, pos, zip}
use Rattle.nxt_ops.specs.Ops.{word_of_two}
use Rattle.nxt_ops.proofs.Passing.{Passed}
use Rattle.nxt_ops.proofs.passes.combine_each.Given as goal

abbrev pub invariant-loop-k : goal.invariant-loop-k
invariant-loop-k l =
    Passed (λ (p : ℕ × ℕ). word_of_two l.operator l.signed (pos p.0) (pos p.1)) (zip l.initial.xs l.ys) l.initial.xs l.xs l.k
