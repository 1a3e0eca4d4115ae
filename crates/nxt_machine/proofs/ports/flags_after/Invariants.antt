-- What is left of the pairs ends as all of them.
use Rattle.std.proofs.Common.{◌≡◌, ◌-◌, ◌≤◌, drop}
use Rattle.nxt_types.specs.Statements.{statement_of}
use Rattle.nxt_model.specs.Devices.{motor_at, update_flags}
use Rattle.nxt_machine.proofs.Meanings.Ports.{flags_by}
use Rattle.nxt_machine.proofs.ports.flags_after.Given as goal

abbrev pub invariant-loop-k : goal.invariant-loop-k
invariant-loop-k l = record {
  few : l.k ≤ 65537;
  same : flags_by l.space.vars (drop l.k (statement_of l.instr l.words).args) l.flags
      ≡ flags_by l.space.vars (drop 1 (statement_of l.instr l.words).args) (update_flags (motor_at l.port l.io));
}

abbrev pub decreases-loop-k : goal.decreases-loop-k
decreases-loop-k l = l.count - l.k
