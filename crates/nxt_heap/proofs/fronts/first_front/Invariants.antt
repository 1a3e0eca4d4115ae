use Rattle.std.proofs.Common.{◌≡◌, ℕ, ◌<◌, ◌≤◌, slice_index}
use Rattle.nxt_heap.specs.Inside.Pool.{no_row}
use Rattle.nxt_heap.proofs.fronts.first_front.Given as goal

abbrev pub invariant-loop-at : goal.invariant-loop-at
invariant-loop-at l = (w : ℕ) → l.from ≤ w → w < l.at → slice_index l.fronts w ≡ no_row
