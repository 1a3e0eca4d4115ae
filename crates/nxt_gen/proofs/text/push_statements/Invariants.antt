-- The text so far, and the statements that are left.
use Rattle.std.proofs.Common.{◌≡◌, ◌-◌, ◌++◌}
use Rattle.nxt_gen.specs.Generator.{statements_from}
use Rattle.nxt_gen.proofs.text.push_statements.Given as goal

abbrev pub invariant-loop : goal.invariant-loop
invariant-loop l = l.text ++ statements_from (l.times - l.counter) l.seed ≡ l.fn.text ++ statements_from l.times l.fn.number
