-- The lines so far have no operand of a wrong kind.
use Rattle.std.proofs.Common.{◌≡◌, drop, map}
use Rattle.nxt_nbc_lines.specs.Firsts.{first_pair}
use Rattle.nxt_nbc_lines.specs.Seen.{line_form_seen}
use Rattle.nxt_nbc_names.specs.SourceSeen.{source_seen}
use Rattle.nxt_nbc_kinds.proofs.Laws.FirstWrong.{first_wrong}
use Rattle.nxt_nbc_kinds.proofs.kinds.wrong_kind.Given as goal

abbrev pub invariant-loop-line : goal.invariant-loop-line
invariant-loop-line l =
    first_pair (first_wrong (source_seen l.source)) (map line_form_seen l.line-items)
    ≡ first_pair (first_wrong (source_seen l.source)) (map line_form_seen (drop l.line-index l.line-items))
