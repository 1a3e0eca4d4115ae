-- The rows so far, and those that are left.
use Rattle.std.proofs.Common.{◌≡◌, ◌-◌, ◌++◌}
use Rattle.nxt_gen.specs.Generator.{repeated_rows}
use Rattle.nxt_gen.proofs.rows.repeated_rows.Given as goal

abbrev pub invariant-loop : goal.invariant-loop
invariant-loop l = l.rows.items ++ repeated_rows (l.times - l.counter) ≡ repeated_rows l.times
