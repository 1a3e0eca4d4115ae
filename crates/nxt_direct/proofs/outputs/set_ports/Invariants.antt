-- The ports so far have had their fields, each in the room of a line.
use Rattle.std.proofs.Common.{◌≡◌, ◌+◌, ◌≤◌, ◌++◌, take}
use Rattle.nxt_model.specs.Devices.{each_port, commit}
use Rattle.nxt_model.specs.DirectCommands.{output_set}
use Rattle.nxt_direct.proofs.outputs.set_ports.Given as goal

abbrev pub invariant-loop-port : goal.invariant-loop-port
invariant-loop-port l =
    record {
      devices : l.io ≡ (each_port (take l.port-index l.ports) (λ p now. commit p (output_set l.bytes p now)) l.fn.io).devices;
      lines : l.out.lines ≡ l.fn.out.lines ++ (each_port (take l.port-index l.ports) (λ p now. commit p (output_set l.bytes p now)) l.fn.io).lines;
      room : l.fn.out.room ≤ l.out.room + l.port-index;
    }
