use Rattle.std.proofs.Common.{drop, map, filter_map}
use Rattle.nxt_model.specs.Nbc.NbcRules.{is_taken, shared_name}
use Rattle.nxt_nbc_lines.specs.Seen.{line_form_seen}
use Rattle.nxt_nbc_names.specs.SourceSeen.{source_seen}
use Rattle.nxt_nbc.proofs.SpaceLoops.{Declares}
use Rattle.nxt_nbc.proofs.spaces.shared_space.Given as goal

-- the names so far, and those of the lines that are left
abbrev pub invariant-loop-line : goal.invariant-loop-line
invariant-loop-line l =
    Declares (is_taken (source_seen l.source)) l.space.names l.space.twice
    (filter_map shared_name (map line_form_seen (drop l.line-index l.lines))) (filter_map shared_name (map line_form_seen l.lines))
