-- Each dependent is passed over or lowered, and the first that is not due stops it.
use Rattle.std.proofs.Common.{◌∙◌, sym}
use Rattle.nxt_clumps.proofs.Queue.Lowered.{passes-over}
use Rattle.nxt_clumps.proofs.clumps.lower_between.Goals as goal

pub loop-k-preserved-then-not-lies_between : goal.loop-k-preserved-then-not-lies_between
loop-k-preserved-then-not-lies_between c = record {
  state = sym (passes-over c.args.plans.now _ _ c.loop-k.k c.args.dependents.now c.loop-k.state c.loop-k-test.true (sym (c.if-not-lies_between.ensures {u = tt}))) ∙ c.loop-k.invariant.state;
  kept = c.loop-k.invariant.kept;
}
