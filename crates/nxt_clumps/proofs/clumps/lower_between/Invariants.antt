-- What is left to lower gives what was to be lowered.
use Rattle.std.proofs.Common.{◌≡◌, drop, length}
use Rattle.nxt_model.specs.Clumps.{lower_all, between}
use Rattle.nxt_clumps.proofs.clumps.lower_between.Given as goal

abbrev pub invariant-loop-k : goal.invariant-loop-k
invariant-loop-k l = record {
  state : lower_all l.plans (between l.start l.end l.k (drop l.k l.dependents)) l.state ≡ lower_all l.plans (between l.start l.end 0 l.dependents) l.initial.state;
  kept : length l.state.clumps ≡ length l.initial.state.clumps;
}
