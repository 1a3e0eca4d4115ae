use Rattle.std.proofs.Common.{◌≡◌, ◌%◌, ◌++◌, length, flat_map, All}
use Rattle.std.specs.Slice.Iter.{chunks_exact_rest, chunks_exact_size}
use Rattle.nxt_rxe.specs.Files.{clump_bytes, ClumpFits}
use Rattle.nxt_rxe.proofs.records.read_clumps.Given as goal

-- what was read, and what is left
abbrev pub invariant-loop-clump : goal.invariant-loop-clump
invariant-loop-clump l = record {
  spelled : flat_map clump_bytes l.clumps ++ chunks_exact_rest l.clump-iterator ≡ l.fn.bytes;
  size : chunks_exact_size l.clump-iterator ≡ 4;
  whole : length (chunks_exact_rest l.clump-iterator) % 4 ≡ 0;
  fits : All (ClumpFits) l.clumps;
}
