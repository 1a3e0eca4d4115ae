use Rattle.std.proofs.Common.{length, ◌-◌, ◌≤◌, take}
use Rattle.std.specs.Io.KnownBytes.{Appends}
use Rattle.nxt_edge.proofs.read_write.write_all.Given as goal

-- what was written is the piece up to here
abbrev pub invariant-loop-at : goal.invariant-loop-at
invariant-loop-at g l = record {
  within : l.at ≤ length l.piece;
  wrote : Appends (g.S.Sink.written l.initial.sink) (g.S.Sink.written l.sink) (take l.at l.piece);
  later : g.S.Sink.faults l.initial.sink ≤ g.S.Sink.faults l.sink;
}

abbrev pub decreases-loop-at : goal.decreases-loop-at
decreases-loop-at g l = length l.piece - l.at
