-- No number before k is that large.
use Rattle.std.proofs.Common.{◌≡◌, ◌<◌, ℕ, false}
use Rattle.std.specs.Prelude.{nat_le, slice_get}
use Rattle.nxt_types.specs.Refusals.{passes}
use Rattle.nxt_code.proofs.clumps.first_from.Given as goal

abbrev pub invariant-loop-k : goal.invariant-loop-k
invariant-loop-k l = (j : ℕ) → j < l.k → passes (nat_le l.least) (slice_get l.numbers j) ≡ false
