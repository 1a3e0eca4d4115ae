use Rattle.std.proofs.Common.{◌≡◌, take, map}
use Rattle.std.specs.Prelude.{filter_map}
use Rattle.nxt_model.specs.Nbc.Text.{variable_of}
use Rattle.nxt_nbc_lines.specs.Seen.{line_form_seen}
use Rattle.nxt_nbc_names.proofs.variables.Variables.of.Given as goal

-- the variables of the lines so far
abbrev pub invariant-loop-line : goal.invariant-loop-line
invariant-loop-line l = l.variables ≡ filter_map (variable_of l.structs.structs) (map line_form_seen (take l.line-index l.lines))
