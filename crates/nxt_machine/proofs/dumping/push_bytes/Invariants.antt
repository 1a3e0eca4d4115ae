-- The lines of the bytes that are left still come.
use Rattle.std.proofs.Common.{◌≡◌, ◌+◌, ◌++◌, length}
use Rattle.nxt_model.specs.Dump.{bytes_lines}
use Rattle.nxt_machine.proofs.dumping.push_bytes.Given as goal

abbrev pub invariant-loop-rest : goal.invariant-loop-rest
invariant-loop-rest l = record {
  lines : l.lines.items ++ bytes_lines (length l.rest) l.at l.rest ≡ l.fn.lines.items ++ bytes_lines (length l.fn.bytes) 0 l.fn.bytes;
  place : l.at + length l.rest ≡ length l.fn.bytes;
}

abbrev pub decreases-loop-rest : goal.decreases-loop-rest
decreases-loop-rest l = length l.rest
