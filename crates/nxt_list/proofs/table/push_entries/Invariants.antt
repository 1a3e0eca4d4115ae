-- The text so far, and the entries that are left.
use Rattle.std.proofs.Common.{◌≡◌, ◌++◌, drop}
use Rattle.std.specs.Prelude.{flat_map}
use Rattle.std.specs.List.{enumerate_from}
use Rattle.nxt_list.specs.Listing.{entry_line}
use Rattle.nxt_list.proofs.table.push_entries.Given as goal

abbrev pub invariant-loop-i : goal.invariant-loop-i
invariant-loop-i l = l.into ++ flat_map entry_line (enumerate_from l.i (drop l.i l.entries)) ≡ l.fn.into ++ flat_map entry_line (enumerate_from 0 l.entries)
