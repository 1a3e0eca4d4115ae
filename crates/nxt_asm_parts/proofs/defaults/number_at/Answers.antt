use Rattle.std.proofs.Common.{ap, pos, to_z-of_z, w64, ◌∙◌}
use Rattle.std.specs.Option.{unwrap_or}
use Rattle.std.proofs.lemmas.Option.{unwrap_or-slice_get}
use Rattle.nxt_asm_parts.proofs.defaults.number_at.Goals as goal

pub returns : goal.returns
returns c =
    to_z-of_z {w = w64} {z = c.unwrap_or.result} (record { sfits = c.unwrap_or.type_inv })
    ∙ c.unwrap_or.ensures
    ∙ ap (λ o. unwrap_or o (pos 0)) c.number.ensures
    ∙ unwrap_or-slice_get c.args.constants.now.numbers c.args.place (pos 0)
