-- The text so far, and the clumps that are left with the dependents that are left, as many as theirs.
use Rattle.std.proofs.Common.{◌≡◌, ◌++◌, drop, length}
use Rattle.std.specs.Prelude.{flat_map, zip}
use Rattle.std.specs.List.{enumerate_from}
use Rattle.nxt_rxe.specs.Files.{dependent_count}
use Rattle.nxt_code.specs.CodeRules.{dependent_lists}
use Rattle.nxt_list.specs.Listing.{clump_line, clump_lines}
use Rattle.nxt_list.proofs.clumps.push_clumps.Given as goal

abbrev pub invariant-loop-i : goal.invariant-loop-i
invariant-loop-i l = record {
  counted : length l.rest ≡ dependent_count (drop l.i l.clumps);
  whole : l.into ++ flat_map clump_line (enumerate_from l.i (zip (drop l.i l.clumps) (dependent_lists (drop l.i l.clumps) l.rest))) ≡ l.fn.into ++ clump_lines l.clumps l.dependents;
}
