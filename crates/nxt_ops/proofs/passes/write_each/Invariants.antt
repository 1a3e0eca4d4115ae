-- So many numbers are written.
use Rattle.std.proofs.Common.{◌≡◌, length}
use Rattle.std.specs.Prelude.{pos}
use Rattle.nxt_types.specs.Arithmetic.{cut}
use Rattle.nxt_model.specs.Values.{Num, elements}
use Rattle.nxt_space.specs.Spots.{numbers_in_bytes}
use Rattle.nxt_ops.proofs.Passing.{Passed}
use Rattle.nxt_ops.proofs.passes.write_each.Given as goal

abbrev pub invariant-loop-k : goal.invariant-loop-k
invariant-loop-k l = record {
  long : length l.into ≡ length l.initial.into;
  numbers : Passed (λ w. Num (cut l.kind (pos w))) l.words (elements (numbers_in_bytes l.kind l.initial.into)) (elements (numbers_in_bytes l.kind l.into)) l.k;
}
