-- The sum so far, and the lines that are left.
use Rattle.std.proofs.Common.{◌≡◌, ◌+ℤ◌, drop}
use Rattle.nxt_gen.specs.Generator.{sum_of_powers}
use Rattle.nxt_gen.proofs.tally.sum_of_powers.Given as goal

abbrev pub invariant-loop-line : goal.invariant-loop-line
invariant-loop-line l = l.sum +ℤ sum_of_powers (drop l.line-index l.lines) ≡ sum_of_powers l.lines
