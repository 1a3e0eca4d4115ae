use Rattle.std.proofs.Common.{◌≡◌, map, take}
use Rattle.std.specs.Prelude.{flat_map}
use Rattle.nxt_model.specs.Nbc.Text.{labels_from, statements_in}
use Rattle.nxt_nbc_lines.specs.Seen.{line_form_seen}
use Rattle.nxt_nbc_names.specs.BlocksSeen.{block_seen}
use Rattle.nxt_nbc_names.specs.SourceSeen.{source_seen}
use Rattle.nxt_nbc_program.proofs.statements.body_of.Given as goal

-- those of the lines so far
abbrev pub invariant-loop-line : goal.invariant-loop-line
invariant-loop-line l =
    l.statements
    ≡ flat_map (statements_in (source_seen l.source) (labels_from 0 (block_seen l.block).items) l.number l.block.subroutine l.dependents)
    (map line_form_seen (take l.line-index l.line-items))
