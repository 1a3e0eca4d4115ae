use Rattle.std.proofs.Common.{◌≡◌, ◌++◌, drop, map}
use Rattle.nxt_model.specs.Nbc.Text.{blocks_in}
use Rattle.nxt_nbc_lines.specs.Seen.{line_form_seen}
use Rattle.nxt_nbc_names.specs.BlocksSeen.{block_seen}
use Rattle.nxt_nbc_names.proofs.blocks.blocks_in.Given as goal

-- the blocks so far and those of the lines that are left are all
abbrev pub invariant-loop-i : goal.invariant-loop-i
invariant-loop-i l = map block_seen l.found.items ++ blocks_in (map line_form_seen (drop l.i l.lines)) ≡ blocks_in (map line_form_seen l.lines)
