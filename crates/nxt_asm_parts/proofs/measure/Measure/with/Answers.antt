use Rattle.nxt_asm_parts.proofs.Taken.{measure_push}
use Rattle.nxt_asm_parts.proofs.measure.Measure.with.Goals as goal

pub returns : goal.returns
returns c = λ ss s first one.
    measure_push ss s c.args.self c.args.member _ first one c.saturating_add.ensures c.saturating_add-2.ensures c.saturating_add-3.ensures
    c.saturating_add-4.ensures c.saturating_add-5.ensures
