-- The motor's properties one after another are the motor that the tacho told.
use Rattle.std.proofs.Common.{◌<◌, ◌≡◌, length, slice_index_or, [], arith}
use Rattle.std.proofs.lemmas.Grind.{common_steps}
use Rattle.nxt_io.specs.Taken.{counted}
use Rattle.nxt_io.proofs.Motors.{tacho_at}
use Rattle.nxt_io.proofs.io.Io.count.Goals as goal

pub returns-then-from-motors : goal.returns-then-from-motors
returns-then-from-motors c =
    let table = c.self.inside.motors in
    let inside : c.args.port < length table = omega arith in
    let motor : c.count.new.self ≡ counted c.args.speed c.args.count c.args.block c.args.rotation (slice_index_or table c.args.port []) =
    grind (arith, common_steps) in
    grind (arith, common_steps, tacho_at table c.args.port c.args.speed c.args.count c.args.block c.args.rotation inside)
