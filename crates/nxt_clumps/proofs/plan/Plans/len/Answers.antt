-- As many plans as records.
use Rattle.std.proofs.Common.{ap, length, arith}
use Rattle.nxt_clumps.proofs.Records.{length-plans_of}
use Rattle.nxt_clumps.proofs.plan.Plans.len.Goals as goal

pub returns : goal.returns
returns c =
    omega (arith, length-plans_of c.self.inside.records.items c.self.inside.dependents.items, ap length c.self.view_is)
