use Rattle.std.proofs.Common.{◌≡◌, ◌+◌, ◌*◌, ◌≤◌, length}
use Rattle.std.specs.Slice.Iter.{chunks_exact_rest, chunks_exact_size}
use Rattle.nxt_rxe.specs.FileRules.{dependents_told}
use Rattle.nxt_rxe.proofs.sections.dependents_told.Given as goal

-- what was told, and what is left
abbrev pub invariant-loop-clump : goal.invariant-loop-clump
invariant-loop-clump l = record {
  value : l.told + dependents_told (chunks_exact_rest l.clump-iterator) ≡ dependents_told l.fn.clumps;
  size : chunks_exact_size l.clump-iterator ≡ 4;
  few : l.told + 64 * length (chunks_exact_rest l.clump-iterator) ≤ 64 * length l.fn.clumps;
}
