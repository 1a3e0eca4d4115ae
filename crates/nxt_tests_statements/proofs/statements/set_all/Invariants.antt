-- Only the values change.
use Rattle.std.proofs.Common.{◌≡◌}
use Rattle.nxt_tests_statements.proofs.statements.set_all.Given as goal

abbrev pub invariant-loop-i : goal.invariant-loop-i
invariant-loop-i g l = (l.space.vars.entries ≡ l.fn.space.vars.entries) × (l.space.vars.shapes ≡ l.fn.space.vars.shapes)
