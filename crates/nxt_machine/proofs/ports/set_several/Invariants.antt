-- What the ports that are left change, after those before, is what all of them change. There is room for their lines.
use Rattle.std.proofs.Common.{◌≡◌, ◌+◌, ◌≤◌, ◌++◌, [], ◌∷◌, drop, map}
use Rattle.std.specs.Prelude.{filter}
use Rattle.nxt_types.specs.Statements.{statement_of}
use Rattle.nxt_model.specs.Devices.{Change, each_port}
use Rattle.nxt_machine.specs.Numbers.{is_among, set_motor_by, set_motors_by}
use Rattle.nxt_types.specs.Arithmetic.{word}
use Rattle.nxt_machine.proofs.ports.set_several.Given as goal

abbrev pub invariant-loop-port : goal.invariant-loop-port
invariant-loop-port l =
    let pairs = drop 1 (statement_of l.instr l.words).args in
    let left : Change = each_port (filter (is_among (map word l.ports)) (drop l.port-index l.port-items)) (set_motor_by l.space.vars pairs) l.io in
    let all : Change = set_motors_by l.space.vars (map word l.ports) pairs l.initial.io in
    record {
      room : 3 ≤ l.out.room + l.port-index;
      items : l.port-items ≡ 0 ∷ 1 ∷ 2 ∷ [];
      devices : left.devices ≡ all.devices;
      lines : l.out.lines ++ left.lines ≡ l.initial.out.lines ++ all.lines;
    }
