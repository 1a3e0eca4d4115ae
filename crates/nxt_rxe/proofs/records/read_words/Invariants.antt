use Rattle.std.proofs.Common.{◌≡◌, ◌<◌, ◌^◌, ◌%◌, ◌++◌, length, flat_map, All}
use Rattle.std.specs.Slice.Iter.{chunks_exact_rest, chunks_exact_size}
use Rattle.nxt_rxe.specs.Files.{two_bytes}
use Rattle.nxt_rxe.proofs.records.read_words.Given as goal

-- what was read, and what is left
abbrev pub invariant-loop-word : goal.invariant-loop-word
invariant-loop-word l = record {
  spelled : flat_map two_bytes l.words ++ chunks_exact_rest l.word-iterator ≡ l.fn.bytes;
  size : chunks_exact_size l.word-iterator ≡ 2;
  whole : length (chunks_exact_rest l.word-iterator) % 2 ≡ 0;
  fits : All (λ w. w < 2 ^ 16) l.words;
}
