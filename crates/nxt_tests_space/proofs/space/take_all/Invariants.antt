-- Only the values change.
use Rattle.std.proofs.Common.{◌≡◌}
use Rattle.nxt_tests_space.proofs.space.take_all.Given as goal

abbrev pub invariant-loop-step : goal.invariant-loop-step
invariant-loop-step g l = l.space.vars.shapes ≡ l.fn.space.vars.shapes
