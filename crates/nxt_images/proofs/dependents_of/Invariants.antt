-- What was added, and what is left.
use Rattle.std.proofs.Common.{◌≡◌, ◌+◌, ◌*◌, ◌≤◌, drop}
use Rattle.nxt_rxe.specs.Files.{dependent_count}
use Rattle.nxt_images.proofs.dependents_of.Given as goal

abbrev pub invariant-loop-clump : goal.invariant-loop-clump
invariant-loop-clump l =
    (l.sum + dependent_count (drop l.clump-index l.clumps) ≡ dependent_count l.clumps)
    × (l.sum ≤ 255 * l.clump-index)
