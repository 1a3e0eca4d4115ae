-- So many numbers are copied.
use Rattle.nxt_space.specs.Keeping.{TableStays}
use Rattle.nxt_ops.proofs.Memberwise.{Copies}
use Rattle.nxt_ops.proofs.clusters.copy_numbers.Given as goal

abbrev pub invariant-loop-k : goal.invariant-loop-k
invariant-loop-k l = record {
  copies : Copies l.fn.space.vars l.dest l.source l.space.vars l.k;
  stays : TableStays l.fn.space l.space;
}
