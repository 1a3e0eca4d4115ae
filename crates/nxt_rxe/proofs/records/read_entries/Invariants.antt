use Rattle.std.proofs.Common.{◌≡◌, ◌%◌, ◌++◌, length, flat_map, All}
use Rattle.std.specs.Slice.Iter.{chunks_exact_rest, chunks_exact_size}
use Rattle.nxt_rxe.specs.Files.{entry_bytes, EntryFits}
use Rattle.nxt_rxe.proofs.records.read_entries.Given as goal

-- what was read, and what is left
abbrev pub invariant-loop-entry : goal.invariant-loop-entry
invariant-loop-entry l = record {
  spelled : flat_map entry_bytes l.entries ++ chunks_exact_rest l.entry-iterator ≡ l.fn.bytes;
  size : chunks_exact_size l.entry-iterator ≡ 4;
  whole : length (chunks_exact_rest l.entry-iterator) % 4 ≡ 0;
  fits : All (EntryFits) l.entries;
}
