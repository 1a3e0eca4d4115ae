-- The dependents of the clumps before i name clumps, and the rest are those of the clumps from i on.
use Rattle.std.proofs.Common.{◌≡◌, ◌<◌, ℕ, false, length, drop}
use Rattle.nxt_rxe.specs.Files.{dependent_count}
use Rattle.nxt_code.specs.CodeRules.{names_no_clump, dependent_lists}
use Rattle.nxt_code.proofs.clumps.bad_dependent.Given as goal

abbrev pub invariant-loop-i : goal.invariant-loop-i
invariant-loop-i l = record {
  named : (c k : ℕ) → c < l.i → names_no_clump l.clumps l.dependents c k ≡ false;
  lists : drop l.i (dependent_lists l.clumps l.dependents) ≡ dependent_lists (drop l.i l.clumps) l.rest;
  counted : length l.rest ≡ dependent_count (drop l.i l.clumps);
}
