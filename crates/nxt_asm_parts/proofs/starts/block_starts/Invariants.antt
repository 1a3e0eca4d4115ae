-- The statements before this one begin at the words so far.
use Rattle.std.proofs.Common.{◌≡◌, ◌+◌, [], ◌∷◌, ◌++◌, take}
use Rattle.std.specs.Prelude.{sum_by}
use Rattle.nxt_model.specs.Assembled.{starts_from, word_count}
use Rattle.nxt_asm_parts.proofs.starts.block_starts.Given as goal

abbrev pub invariant-loop-statement : goal.invariant-loop-statement
invariant-loop-statement l = record {
  word : l.word ≡ l.here + sum_by word_count (take l.statement-index l.body);
  all : l.starts ++ l.word ∷ [] ≡ starts_from l.here (take l.statement-index l.body);
}
