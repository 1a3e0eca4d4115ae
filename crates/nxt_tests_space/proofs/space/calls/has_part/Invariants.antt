-- The positions that were followed.
use Rattle.nxt_types.specs.Shapes.{tree}
use Rattle.nxt_tests_space.proofs.Along.{Followed}
use Rattle.nxt_tests_space.proofs.space.calls.has_part.Given as goal

abbrev pub invariant-loop-step : goal.invariant-loop-step
invariant-loop-step l = Followed l.space.vars l.path l.front (tree l.shape) l.step-index
