-- The clump starts at the statement.
use Rattle.nxt_tests_statements.proofs.Fitting.{fit_at_start}
use Rattle.nxt_tests_statements.proofs.statements.fit_statement.Goals as goal

pub returns-in-Ok-clause-fit : goal.returns-in-Ok-clause-fit
returns-in-Ok-clause-fit c =
    fit_at_start (record { fire = 0; dependents = 0; start = c.args.at }) (rw c.new-clumps.ensures at c.in_ok-push.ensures.ok) c.in_ok-code.ensures.fit c.in_ok-code.ensures.parts.0
    (rw (c.words-2.ensures, c.from-2.ensures) at c.in-Ok.ensures.found)
