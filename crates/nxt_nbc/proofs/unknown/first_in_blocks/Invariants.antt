use Rattle.std.proofs.Common.{◌≡◌, ℕ, Bool, List, drop, map}
use Rattle.nxt_model.specs.Nbc.Forms.{Form}
use Rattle.nxt_model.specs.Nbc.Text.{LabelAt}
use Rattle.nxt_model.specs.Nbc.NbcRules.{uses_unknown}
use Rattle.nxt_nbc_lines.specs.Firsts.{first_in_blocks, lesser}
use Rattle.nxt_nbc_names.specs.BlocksSeen.{block_seen}
use Rattle.nxt_nbc_names.specs.SourceSeen.{source_seen}
use Rattle.nxt_nbc.proofs.unknown.first_in_blocks.Given as goal

-- the first line of the blocks so far, and that of those that are left
abbrev pub invariant-loop-block : goal.invariant-loop-block
invariant-loop-block l =
    let test : ℕ → List LabelAt → Form → Bool = λ line ls. uses_unknown (source_seen l.source) ls line in
    lesser l.first (first_in_blocks test (map block_seen (drop l.block-index l.blocks))) ≡ first_in_blocks test (map block_seen l.blocks)
