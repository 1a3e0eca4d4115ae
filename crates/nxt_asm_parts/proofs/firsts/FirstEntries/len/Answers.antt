use Rattle.std.proofs.Common.{length, ap, ◌∙◌}
use Rattle.nxt_asm_parts.proofs.FirstPlaces.{length-firsts}
use Rattle.nxt_asm_parts.proofs.firsts.FirstEntries.len.Goals as goal

pub returns : goal.returns
returns c = λ ss is. c.len.ensures ∙ ap (λ f. length f.of_each) is ∙ length-firsts 0 ss
