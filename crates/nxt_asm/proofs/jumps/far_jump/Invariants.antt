-- The least line of the blocks before this one.
use Rattle.std.proofs.Common.{◌≡◌, take}
use Rattle.nxt_asm_rules.specs.AsmRules.{far_in_blocks}
use Rattle.nxt_nbc_lines.specs.Firsts.{IsLeast}
use Rattle.nxt_asm_parts.specs.Starts.{blocks_starts}
use Rattle.nxt_asm.proofs.jumps.far_jump.Given as goal

abbrev pub invariant-loop-i : goal.invariant-loop-i
invariant-loop-i l = l.starts ≡ blocks_starts 0 l.blocks → IsLeast (λ line. far_in_blocks line 0 (take l.i l.blocks)) l.found
