-- The bytes of the rows that were looked at.
use Rattle.std.proofs.Common.{◌≡◌, ◌+◌}
use Rattle.nxt_compact.proofs.Laws.Opening.{bytes_before}
use Rattle.nxt_tests_compact.proofs.sound.has_room.Given as goal

abbrev pub invariant-loop-row : goal.invariant-loop-row
invariant-loop-row l = l.end ≡ l.base + bytes_before l.pool l.table l.row
