use Rattle.std.proofs.Common.{ap, arith}
use Rattle.nxt_asm_parts.proofs.Laws.Tables.{total_is}
use Rattle.nxt_asm_parts.proofs.measure.Measure.bytes.Goals as goal

pub returns : goal.returns
returns c =
    λ s is. omega (
      arith,
      ap (λ m. m.fours) is,
      ap (λ m. m.twos) is,
      ap (λ m. m.ones) is,
      total_is s,
      c.saturating_add.ensures,
      c.saturating_add-2.ensures,
    )
