-- As many mutexes as entries.
use Rattle.std.proofs.Common.{ap, ◌∙◌, arith}
use Rattle.nxt_model.specs.Clumps.{clumps_at_start}
use Rattle.nxt_clumps.proofs.Queue.Starts.{length-mutexes_from}
use Rattle.nxt_clumps.proofs.state.State.new.Goals as goal

pub returns : goal.returns
returns c =
    c.restart.ensures ∙ ap (clumps_at_start c.args.plans.now)
    (omega (arith, length-mutexes_from 0 c.in_ok-vec.field-0.items c.in_ok-with_capacity-3.field-0.items, c.in_ok-vec.ensures.len))
