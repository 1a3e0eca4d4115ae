-- The lines so far stand behind those of before, and there is room for the others.
use Rattle.std.proofs.Common.{◌≡◌, ◌+◌, ◌≤◌, ◌++◌, length}
use Rattle.nxt_machine.proofs.dumping.push_lines.Given as goal

abbrev pub invariant-loop-line : goal.invariant-loop-line
invariant-loop-line l = record {
  lines : l.out.lines ≡ l.fn.out.lines ++ l.yielded;
  room : length l.fn.lines.items ≤ l.out.room + length l.yielded;
}
