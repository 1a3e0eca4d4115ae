use Rattle.std.proofs.Common.{drop, map}
use Rattle.nxt_model.specs.Nbc.NbcRules.{is_taken, members_in}
use Rattle.nxt_nbc_lines.specs.Seen.{line_form_seen}
use Rattle.nxt_nbc_names.specs.SourceSeen.{source_seen}
use Rattle.nxt_nbc.proofs.SpaceLoops.{Declares}
use Rattle.nxt_nbc.proofs.spaces.member_space.Given as goal

-- the names so far, and those of the lines that are left
abbrev pub invariant-loop-line : goal.invariant-loop-line
invariant-loop-line l =
    Declares (is_taken (source_seen l.source)) l.space.names l.space.twice
    (members_in (map line_form_seen (drop l.line-index l.behind))) (members_in (map line_form_seen l.behind))
