use Rattle.std.proofs.Common.{◌≡◌, take, map}
use Rattle.std.specs.Prelude.{filter_map}
use Rattle.nxt_model.specs.Nbc.Text.{declared_name}
use Rattle.nxt_nbc_lines.specs.Seen.{line_form_seen}
use Rattle.nxt_nbc_names.proofs.names.Names.of.Given as goal

-- the names of the lines so far
abbrev pub invariant-loop-line : goal.invariant-loop-line
invariant-loop-line l = l.names ≡ filter_map declared_name (map line_form_seen (take l.line-index l.lines))
