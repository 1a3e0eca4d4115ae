use Rattle.std.proofs.Common.{◌≡◌, ◌++◌, flat_map, drop}
use Rattle.nxt_rxe.specs.Files.{two_bytes}
use Rattle.nxt_rxe.proofs.records.append_words.Given as goal

-- what was written, and what is left
abbrev pub invariant-loop-word : goal.invariant-loop-word
invariant-loop-word l = l.file ++ flat_map two_bytes (drop l.word-index l.words) ≡ l.fn.file ++ flat_map two_bytes l.words
