use Rattle.std.proofs.Common.{slice_index_or, ap, ◌∙◌}
use Rattle.nxt_asm_parts.specs.Firsts.{firsts_from}
use Rattle.nxt_asm_parts.proofs.FirstPlaces.{first_in}
use Rattle.nxt_asm_parts.proofs.firsts.FirstEntries.first.Goals as goal

pub returns : goal.returns
returns c = λ ss is.
    let n = c.args.position in
    c.item_or.ensures
    ∙ ap (λ l. slice_index_or l n c.args.self.now.behind) (c.as_slice.ensures ∙ ap (λ f. f.of_each) is)
    ∙ ap (λ f. slice_index_or (firsts_from 0 ss) n f.behind) is
    ∙ first_in ss n
