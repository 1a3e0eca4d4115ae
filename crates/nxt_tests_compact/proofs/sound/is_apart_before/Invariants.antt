-- The rows that were looked at.
use Rattle.std.proofs.Common.{ℕ, ◌<◌}
use Rattle.nxt_rows.specs.Rows.{dope_row}
use Rattle.nxt_tests_compact.specs.Stands.{AreApart}
use Rattle.nxt_tests_compact.proofs.sound.is_apart_before.Given as goal

abbrev pub invariant-loop-other : goal.invariant-loop-other
invariant-loop-other l = (q : ℕ) → q < l.other → AreApart (dope_row l.pool l.table q) (dope_row l.pool l.table l.row)
