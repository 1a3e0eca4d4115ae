-- Only the values change.
use Rattle.std.proofs.Common.{◌≡◌}
use Rattle.nxt_tests_space.proofs.space.check_cuts.Given as goal

abbrev pub invariant-loop-i : goal.invariant-loop-i
invariant-loop-i g l = l.space.vars.shapes ≡ l.fn.space.vars.shapes
