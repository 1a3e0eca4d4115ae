use Rattle.std.proofs.Common.{◌≡◌, drop, map}
use Rattle.nxt_model.specs.Nbc.NbcRules.{is_out_of_range}
use Rattle.nxt_nbc_lines.specs.Firsts.{first_line}
use Rattle.nxt_nbc_lines.specs.Seen.{line_form_seen}
use Rattle.nxt_nbc_names.specs.SourceSeen.{source_seen}
use Rattle.nxt_nbc_kinds.proofs.ranges.first_out_of_range.Given as goal

-- none of the lines so far has a number out of its range
abbrev pub invariant-loop-line : goal.invariant-loop-line
invariant-loop-line l =
    let test = is_out_of_range (source_seen l.fn.source) in
    first_line test (map line_form_seen l.fn.lines) ≡ first_line test (map line_form_seen (drop l.line-index l.fn.lines))
