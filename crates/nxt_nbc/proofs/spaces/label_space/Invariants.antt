use Rattle.std.proofs.Common.{drop, map}
use Rattle.nxt_model.specs.Nbc.NbcRules.{is_taken}
use Rattle.nxt_nbc_names.specs.LabelsSeen.{label_seen}
use Rattle.nxt_nbc_names.specs.SourceSeen.{source_seen}
use Rattle.nxt_nbc.proofs.SpaceLoops.{Declares}
use Rattle.nxt_nbc.proofs.spaces.label_space.Given as goal

-- the names so far, and those of the labels that are left
abbrev pub invariant-loop-label : goal.invariant-loop-label
invariant-loop-label l =
    Declares (is_taken (source_seen l.source)) l.space.names l.space.twice
    (map (λ x. (x.line, x.name)) (map label_seen (drop l.label-index l.label-items))) (map (λ x. (x.line, x.name)) (map label_seen l.label-items))
