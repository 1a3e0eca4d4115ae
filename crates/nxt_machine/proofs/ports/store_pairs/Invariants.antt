-- What is left of the pairs ends as all of them.
use Rattle.std.proofs.Common.{◌≡◌, ◌-◌, ◌≤◌, drop, length}
use Rattle.nxt_types.specs.Statements.{statement_of}
use Rattle.nxt_model.specs.Devices.{motor_at, with_motor}
use Rattle.nxt_machine.specs.Numbers.{with_pairs}
use Rattle.nxt_machine.proofs.ports.store_pairs.Given as goal

abbrev pub invariant-loop-k : goal.invariant-loop-k
invariant-loop-k l = record {
  few : l.k ≤ 65537;
  motors : length l.io.motors ≡ 3;
  same : with_motor l.port (with_pairs l.space.vars (drop l.k (statement_of l.instr l.words).args) (motor_at l.port l.io)) l.io
      ≡ with_motor l.port (with_pairs l.space.vars (drop 1 (statement_of l.instr l.words).args) (motor_at l.port l.initial.io)) l.initial.io;
}

abbrev pub decreases-loop-k : goal.decreases-loop-k
decreases-loop-k l = l.count - l.k
