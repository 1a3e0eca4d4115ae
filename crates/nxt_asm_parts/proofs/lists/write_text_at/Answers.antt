use Rattle.std.proofs.Common.{[], ap, subst, sym, ◌∙◌}
use Rattle.std.proofs.lemmas.Option.{get_or_from_slice_get}
use Rattle.nxt_asm_parts.specs.Defaults.{text_leaves}
use Rattle.nxt_asm_parts.specs.Lists.{ListsFit, with_arrays}
use Rattle.nxt_asm_parts.proofs.Entries.{on_ok}
use Rattle.nxt_asm_parts.proofs.lists.write_text_at.Goals as goal

pub write_text-requires : goal.write_text-requires
write_text-requires c =
    let found = get_or_from_slice_get c.args.constants.now.texts c.args.place c.in-Some.text.now [] (sym c.in-Some.ensures) in
    subst (λ t. ListsFit c.args.lists.now (text_leaves t)) found c.requires.fits

pub returns-in-Some : goal.returns-in-Some
returns-in-Some c =
    let found = get_or_from_slice_get c.args.constants.now.texts c.args.place c.in-Some.text.now [] (sym c.in-Some.ensures) in
    on_ok c.write_text.result (λ written. written ∙ ap (λ t. with_arrays c.args.lists.now (text_leaves t)) (sym found)) c.write_text.ensures
