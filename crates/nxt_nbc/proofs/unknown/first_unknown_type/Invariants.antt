use Rattle.std.proofs.Common.{◌≡◌, drop, map}
use Rattle.nxt_model.specs.Nbc.NbcRules.{uses_unknown_type}
use Rattle.nxt_nbc_lines.specs.Firsts.{first_line}
use Rattle.nxt_nbc_lines.specs.Seen.{line_form_seen}
use Rattle.nxt_nbc_names.specs.SourceSeen.{source_seen}
use Rattle.nxt_nbc.proofs.unknown.first_unknown_type.Given as goal

-- none of the lines so far declares something of an unknown type
abbrev pub invariant-loop-line : goal.invariant-loop-line
invariant-loop-line l =
    let test = uses_unknown_type (source_seen l.fn.source) in
    first_line test (map line_form_seen l.fn.lines) ≡ first_line test (map line_form_seen (drop l.line-index l.fn.lines))
