use Rattle.std.proofs.Common.{◌≡◌, ℕ, ◌<◌, ◌++◌, flat_map, drop}
use Rattle.std.specs.List.{slice_index_or}
use Rattle.nxt_types.specs.declared.shape.TocEntry.{TocEntry}
use Rattle.nxt_rxe.specs.Files.{entry_bytes, EntryFits}
use Rattle.nxt_rxe.proofs.records.append_entries.Given as goal

-- what was written, and what is left
abbrev pub invariant-loop-entry : goal.invariant-loop-entry
invariant-loop-entry l = record {
  spelled : l.file ++ flat_map entry_bytes (drop l.entry-index l.entries) ≡ l.fn.file ++ flat_map entry_bytes l.entries;
  fits : (k : ℕ) (d : TocEntry) → k < l.entry-index → EntryFits (slice_index_or l.entries k d);
}
