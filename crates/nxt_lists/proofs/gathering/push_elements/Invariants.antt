-- The elements before index k are there.
use Rattle.std.proofs.Common.{◌≡◌, ◌++◌, flat_map}
use Rattle.std.specs.Prelude.{slice_range}
use Rattle.nxt_model.specs.Values.{elements, flat}
use Rattle.nxt_space.specs.Variables.{value_of}
use Rattle.nxt_lists.proofs.gathering.push_elements.Given as goal

abbrev pub invariant-loop-k : goal.invariant-loop-k
invariant-loop-k l = l.flat ≡ l.initial.flat ++ flat_map flat (slice_range (elements (value_of l.space.vars l.list)) l.from l.k)
