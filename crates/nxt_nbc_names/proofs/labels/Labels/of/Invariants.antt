use Rattle.std.proofs.Common.{◌≡◌, ◌≤◌, ◌++◌, drop, map}
use Rattle.nxt_model.specs.Nbc.Text.{labels_from}
use Rattle.nxt_nbc_lines.specs.Seen.{line_form_seen}
use Rattle.nxt_nbc_names.proofs.labels.Labels.of.Given as goal

-- the labels so far and those of the lines that are left are all; no more statements were passed than lines
abbrev pub invariant-loop-line : goal.invariant-loop-line
invariant-loop-line l = record {
  all : l.labels ++ labels_from l.position (map line_form_seen (drop l.line-index l.lines)) ≡ labels_from 0 (map line_form_seen l.lines);
  passed : l.position ≤ l.line-index;
}
