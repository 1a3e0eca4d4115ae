use Rattle.std.proofs.Common.{◌≡◌, ◌+◌, ◌≤◌, length}
use Rattle.nxt_model.specs.Nbc.Forms.{brackets}
use Rattle.nxt_nbc_lines.specs.Seen.{more_brackets, words_seen}
use Rattle.nxt_nbc_lines.proofs.declarations.brackets.Given as goal

-- the pairs so far stand in front of the others
abbrev pub invariant-loop-arrays : goal.invariant-loop-arrays
invariant-loop-arrays l = record {
  pairs : brackets (words_seen l.fn.words) ≡ more_brackets l.arrays (brackets (words_seen l.rest));
  few : l.arrays + length l.rest ≤ length l.fn.words;
}

abbrev pub decreases-loop-arrays : goal.decreases-loop-arrays
decreases-loop-arrays l = length l.rest
