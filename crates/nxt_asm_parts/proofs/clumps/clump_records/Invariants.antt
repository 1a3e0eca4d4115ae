use Rattle.std.proofs.Common.{◌≡◌, take}
use Rattle.nxt_model.specs.Assembled.{records_from}
use Rattle.nxt_asm_parts.proofs.clumps.clump_records.Given as goal

abbrev pub invariant-loop-i : goal.invariant-loop-i
invariant-loop-i l = l.records ≡ records_from 0 (take l.i l.blocks)
