use Rattle.std.proofs.Common.{◌-◌, length, ap, ◌∙◌}
use Rattle.std.specs.Prelude.{slice_index}
use Rattle.std.specs.Option.{unwrap_or}
use Rattle.std.proofs.lemmas.Option.{unwrap_or-slice_get}
use Rattle.nxt_asm_parts.proofs.Laws.Words.{end_at}
use Rattle.nxt_asm_parts.proofs.starts.end_of.Goals as goal

pub returns : goal.returns
returns c = λ here ss is.
    c.unwrap_or.ensures
    ∙ ap (λ o. unwrap_or o 0) (c.copied.ensures ∙ c.last.ensures.value)
    ∙ unwrap_or-slice_get c.args.starts.now (length c.args.starts.now - 1) 0
    ∙ ap (λ l. slice_index l (length l - 1)) is
    ∙ end_at here ss
