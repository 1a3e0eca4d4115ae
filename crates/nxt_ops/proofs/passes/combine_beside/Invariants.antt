-- So many words are combined.
use Rattle.std.specs.Prelude.{ℕ, pos, zip}
use Rattle.nxt_space.specs.Spots.{numbers_in_bytes}
use Rattle.nxt_ops.specs.Ops.{word_of_two}
use Rattle.nxt_ops.specs.Passes.{words_of}
use Rattle.nxt_ops.proofs.Passing.{Passed}
use Rattle.nxt_ops.proofs.passes.combine_beside.Given as goal

abbrev pub invariant-loop-k : goal.invariant-loop-k
invariant-loop-k l =
    Passed (λ (p : ℕ × ℕ). word_of_two l.operator l.signed (pos p.0) (pos p.1)) (zip l.initial.xs (words_of (numbers_in_bytes l.kind l.bytes))) l.initial.xs l.xs l.k
