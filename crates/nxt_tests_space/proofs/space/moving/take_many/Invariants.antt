-- Only the values change.
use Rattle.std.proofs.Common.{◌≡◌}
use Rattle.nxt_tests_space.proofs.space.moving.take_many.Given as goal

abbrev pub invariant-loop : goal.invariant-loop
invariant-loop g l = l.space.vars.shapes ≡ l.fn.space.vars.shapes
