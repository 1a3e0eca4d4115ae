-- The rows that were looked at.
use Rattle.std.proofs.Common.{ℕ, ◌<◌, length}
use Rattle.nxt_rows.specs.Rows.{dope_row}
use Rattle.nxt_tests_compact.specs.Stands.{IsApartBefore, IsInside}
use Rattle.nxt_tests_compact.proofs.sound.is_sound.Given as goal

abbrev pub invariant-loop-row : goal.invariant-loop-row
invariant-loop-row l =
    (r : ℕ) → r < l.row → IsInside (dope_row l.pool l.table r) l.base (length l.pool) × IsApartBefore l.pool l.table r
