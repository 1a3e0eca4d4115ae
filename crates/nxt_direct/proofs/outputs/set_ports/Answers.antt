-- One more port has had its fields.
use Rattle.std.proofs.Common.{◌≡◌, ◌<◌, ◌++◌, ℕ, length, slice_index, arith}
use Rattle.std.proofs.lemmas.Grind.{common_steps}
use Rattle.nxt_model.specs.Devices.{Devices, Change, commit}
use Rattle.nxt_model.specs.DirectCommands.{output_set}
use Rattle.nxt_direct.proofs.Ports.{after_next}
use Rattle.nxt_direct.proofs.outputs.set_ports.Goals as goal

pub loop-port-preserved : goal.loop-port-preserved
loop-port-preserved c =
    let i = c.loop-port.port-index in
    let f : ℕ → Devices → Change = λ p now. commit p (output_set c.args.bytes.now p now) in
    let inside : i < length c.args.ports.now = omega arith in
    let moved : c.commit.new.self ≡ (f (slice_index c.args.ports.now i) c.loop-port.io).devices = grind (arith, common_steps) in
    let tells : c.commit.new.out.lines ≡ c.loop-port.out.lines ++ (f (slice_index c.args.ports.now i) c.loop-port.io).lines =
    grind (arith, common_steps) in
    let next =
    after_next c.args.ports.now i f c.args.io.now c.loop-port.io c.commit.new.self c.args.out.now.lines c.loop-port.out.lines
    c.commit.new.out.lines inside c.loop-port.invariant.devices c.loop-port.invariant.lines moved tells in
    record { devices = next.devices; lines = next.lines; room = omega arith }
