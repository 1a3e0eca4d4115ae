use Rattle.std.proofs.Common.{◌+◌, ◌-◌, ◌≤◌, length}
use Rattle.nxt_nbc_lines.proofs.TokensLaw.{IsSoFar}
use Rattle.nxt_nbc_lines.proofs.lexer.lex.Given as goal

-- the pieces up to a place gave these tokens; no line begins without a byte
abbrev pub invariant-loop-at : goal.invariant-loop-at
invariant-loop-at l = record {
  within : l.at ≤ length l.text;
  few_lines : l.line ≤ l.at + 1;
  tokens : IsSoFar l.text l.tokens l.line l.at;
}

abbrev pub decreases-loop-at : goal.decreases-loop-at
decreases-loop-at l = length l.text - l.at
