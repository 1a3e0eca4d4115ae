-- What is left decides, and each entry needs at most 65535 shapes.
use Rattle.std.proofs.Common.{◌≡◌, ◌≤◌, ◌*◌, drop, map}
use Rattle.nxt_types.specs.Shapes.{outline}
use Rattle.nxt_table.specs.Inside.Items.{open_from}
use Rattle.nxt_table.proofs.table.open_variable.Given as goal

abbrev pub invariant-loop-i : goal.invariant-loop-i
invariant-loop-i l = record {
  same : open_from 0 0 0 (map outline l.entries) ≡ open_from l.start l.needed l.i (map outline (drop l.i l.entries));
  few : l.needed ≤ 65535 * l.i;
}
