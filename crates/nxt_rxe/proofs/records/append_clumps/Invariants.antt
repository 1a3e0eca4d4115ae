use Rattle.std.proofs.Common.{◌≡◌, ℕ, ◌<◌, ◌++◌, flat_map, drop}
use Rattle.std.specs.List.{slice_index_or}
use Rattle.nxt_types.specs.declared.lists.ClumpRec.{ClumpRec}
use Rattle.nxt_rxe.specs.Files.{clump_bytes, ClumpFits}
use Rattle.nxt_rxe.proofs.records.append_clumps.Given as goal

-- what was written, and what is left
abbrev pub invariant-loop-clump : goal.invariant-loop-clump
invariant-loop-clump l = record {
  spelled : l.file ++ flat_map clump_bytes (drop l.clump-index l.clumps) ≡ l.fn.file ++ flat_map clump_bytes l.clumps;
  fits : (k : ℕ) (d : ClumpRec) → k < l.clump-index → ClumpFits (slice_index_or l.clumps k d);
}
