use Rattle.std.proofs.Common.{ap, ◌∙◌}
use Rattle.nxt_model.specs.TextProgram.{variable_number}
use Rattle.nxt_asm_parts.specs.Measures.{held}
use Rattle.nxt_asm_parts.proofs.FirstPlaces.{number_past}
use Rattle.nxt_asm_parts.proofs.firsts.FirstEntries.first_behind.Goals as goal

pub returns : goal.returns
returns c = λ ss is.
    c.first.ensures ss is
    ∙ ap (λ n. held (variable_number ss n)) c.min.ensures
    ∙ ap held (number_past ss c.args.from c.saturating_add-position.result c.args.place c.len.result (c.len.ensures ss is) c.saturating_add-position.ensures c.len.type_inv)
