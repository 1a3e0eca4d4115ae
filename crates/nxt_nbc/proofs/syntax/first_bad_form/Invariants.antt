use Rattle.std.proofs.Common.{◌≡◌, drop, map}
use Rattle.nxt_nbc_lines.specs.Firsts.{first_line}
use Rattle.nxt_nbc_lines.specs.Seen.{line_form_seen}
use Rattle.nxt_nbc.specs.Syntax.{is_bad_form}
use Rattle.nxt_nbc.proofs.syntax.first_bad_form.Given as goal

-- none of the lines so far is bad
abbrev pub invariant-loop-line : goal.invariant-loop-line
invariant-loop-line l =
    let test = is_bad_form l.fn.structs.structs in
    first_line test (map line_form_seen l.fn.lines) ≡ first_line test (map line_form_seen (drop l.line-index l.fn.lines))
