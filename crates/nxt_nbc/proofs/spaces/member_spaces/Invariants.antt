use Rattle.std.proofs.Common.{drop, map}
use Rattle.nxt_model.specs.Nbc.NbcRules.{is_taken, member_spaces}
use Rattle.nxt_nbc_lines.specs.Seen.{line_form_seen}
use Rattle.nxt_nbc_names.specs.SourceSeen.{source_seen}
use Rattle.nxt_nbc.proofs.SpaceLoops.{Tell}
use Rattle.nxt_nbc.proofs.spaces.member_spaces.Given as goal

-- the structs so far, and those of the lines that are left
abbrev pub invariant-loop-i : goal.invariant-loop-i
invariant-loop-i l =
    Tell (is_taken (source_seen l.source)) l.declared.twice l.declared.count
    (member_spaces (map line_form_seen (drop l.i l.lines))) (member_spaces (map line_form_seen l.lines))
