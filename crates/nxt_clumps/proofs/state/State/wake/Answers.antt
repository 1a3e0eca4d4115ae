-- The first sleeper wakes, and then the others.
use Rattle.std.proofs.Common.{◌<◌, ◌∙◌, length, ap, sym, subst}
use Rattle.nxt_model.specs.Clumps.{Clumps, wake}
use Rattle.nxt_clumps.specs.Inside.Sleepers.{in_order}
use Rattle.nxt_clumps.proofs.Sleepers.Waking.{due-first, wake-next, wake-done, order-less}
use Rattle.nxt_clumps.proofs.state.State.wake.Goals as goal

pub wake_one-requires : goal.wake_one-requires
wake_one-requires c = due-first c.args.clock _ c.in-Some.c (sym c.in-Some.ensures)

pub loop-c-preserved : goal.loop-c-preserved
loop-c-preserved c = record {
  state = ap (wake c.args.clock) c.wake_one.ensures.state ∙ sym (wake-next c.args.clock c.loop-c.self c.in-Some.c (sym c.in-Some.ensures)) ∙ c.loop-c.invariant.state;
  kept = c.wake_one.ensures.kept ∙ c.loop-c.invariant.kept;
}

pub loop-c-smaller : goal.loop-c-smaller
loop-c-smaller c =
    let Less : Clumps → Type 0 = λ s. length (in_order s.clumps) < length (in_order c.loop-c.self.clumps) in
    subst Less (sym c.wake_one.ensures.state) (order-less c.args.clock c.loop-c.self c.in-Some.c (sym c.in-Some.ensures))

pub returns-clause-state : goal.returns-clause-state
returns-clause-state c = sym (wake-done c.args.clock c.loop-c.self (sym (c.in_default.ensures {u = tt}))) ∙ c.loop-c.invariant.state
