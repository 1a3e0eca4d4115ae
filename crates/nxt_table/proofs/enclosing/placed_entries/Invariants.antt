-- What was placed, and what is left, are all entries with their marks.
use Rattle.std.proofs.Common.{◌≡◌, ◌++◌, ◌≤◌, ◌*◌, drop, map, length}
use Rattle.nxt_types.specs.Shapes.{outline}
use Rattle.nxt_table.specs.Inside.Items.{first_from}
use Rattle.nxt_table.specs.Inside.Enclosing.{marks, marks_from, placed_by, placed_entries, is_deep}
use Rattle.nxt_table.proofs.enclosing.placed_entries.Given as goal

abbrev pub invariant-loop-i : goal.invariant-loop-i
invariant-loop-i l = record {
  same : l.placed.items ++ placed_by (drop l.i l.entries) (marks_from l.needed l.frames.items l.i (map outline (drop l.i l.entries))) ≡ placed_entries l.entries;
  deep : first_from is_deep 0 (marks l.entries) ≡ first_from is_deep l.i (marks_from l.needed l.frames.items l.i (map outline (drop l.i l.entries)));
  few : l.needed ≤ 65535 * l.i;
  count : length l.placed.items ≡ l.i;
}
