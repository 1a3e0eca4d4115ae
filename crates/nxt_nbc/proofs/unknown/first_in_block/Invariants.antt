use Rattle.std.proofs.Common.{◌≡◌, ℕ, Bool, drop, map}
use Rattle.nxt_model.specs.Nbc.Forms.{Form}
use Rattle.nxt_model.specs.Nbc.Text.{labels_from}
use Rattle.nxt_model.specs.Nbc.NbcRules.{uses_unknown}
use Rattle.nxt_nbc_lines.specs.Firsts.{first_line}
use Rattle.nxt_nbc_lines.specs.Seen.{line_form_seen}
use Rattle.nxt_nbc_names.specs.BlocksSeen.{block_seen}
use Rattle.nxt_nbc_names.specs.SourceSeen.{source_seen}
use Rattle.nxt_nbc.proofs.unknown.first_in_block.Given as goal

-- none of the lines so far uses what isn't there
abbrev pub invariant-loop-line : goal.invariant-loop-line
invariant-loop-line l =
    let items = (block_seen l.fn.block).items in
    let test : ℕ → Form → Bool = λ line f. uses_unknown (source_seen l.fn.source) (labels_from 0 items) line f in
    first_line test items ≡ first_line test (map line_form_seen (drop l.line-index l.line-items))
