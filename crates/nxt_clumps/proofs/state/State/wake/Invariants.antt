-- What is left to wake gives what was to be woken. Each round one sleeper less is left.
use Rattle.std.proofs.Common.{◌≡◌, length}
use Rattle.nxt_model.specs.Clumps.{wake}
use Rattle.nxt_clumps.specs.Inside.Sleepers.{in_order}
use Rattle.nxt_clumps.proofs.state.State.wake.Given as goal

abbrev pub invariant-loop-c : goal.invariant-loop-c
invariant-loop-c l = record {
  state : wake l.clock l.self ≡ wake l.clock l.initial.self;
  kept : length l.self.clumps ≡ length l.initial.self.clumps;
}

abbrev pub decreases-loop-c : goal.decreases-loop-c
decreases-loop-c l = length (in_order l.self.clumps)
