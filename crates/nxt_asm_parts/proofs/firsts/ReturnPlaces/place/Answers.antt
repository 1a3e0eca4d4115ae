use Rattle.std.proofs.Common.{slice_index_or, ap, ◌∙◌}
use Rattle.nxt_asm_parts.specs.Firsts.{before_from}
use Rattle.nxt_asm_parts.proofs.FirstPlaces.{place_in}
use Rattle.nxt_asm_parts.proofs.firsts.ReturnPlaces.place.Goals as goal

pub returns : goal.returns
returns c = λ bs is.
    let n = c.args.block in
    c.item_or.ensures
    ∙ ap (λ l. slice_index_or l n c.args.self.now.count) (c.as_slice.ensures ∙ ap (λ p. p.before) is)
    ∙ ap (λ p. slice_index_or (before_from 0 bs) n p.count) is
    ∙ place_in bs n
