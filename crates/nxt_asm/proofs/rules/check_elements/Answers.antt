use Rattle.std.proofs.Common.{◌∙◌, sym}
use Rattle.nxt_model.specs.TextProgram.{text_of}
use Rattle.nxt_asm_rules.specs.AsmRules.{large_element}
use Rattle.nxt_asm.proofs.CountedTogether.{large_is, shapes_seen_in}
use Rattle.nxt_asm_rules.proofs.Laws.FirstBroken.{element_refused, none_held, sizes_kept, some_held}
use Rattle.nxt_asm.proofs.rules.check_elements.Goals as goal

pub returns-in_ok-size_told-in-Some-clause-refused : goal.returns-in_ok-size_told-in-Some-clause-refused
returns-in_ok-size_told-in-Some-clause-refused c =
    let p = c.args.draft.now in
    let q = c.draft.inside.program.now in
    let found = c.draft.invariant.0 in
    let shapes = shapes_seen_in q _ c.draft.inside.types _ found.measured found.typed c.as_slice.ensures in
    let large = large_is p q _ c.large_element.result c.draft.view_is shapes c.large_element.ensures in
    element_refused (text_of p) c.in_ok-size_told-in-Some.field-0 c.requires.entries c.requires.words
    (some_held (large_element (text_of p)) c.in-Some.bytes c.in_ok-size_told-in-Some.field-0 (sym large ∙ c.in-Some.is)
    (λ k held. c.in_ok-size_told-in-Some.ensures ∙ c.in_ok-exact-in-Some.ensures k held))

pub returns-in-None-clause-kept : goal.returns-in-None-clause-kept
returns-in-None-clause-kept c =
    let p = c.args.draft.now in
    let q = c.draft.inside.program.now in
    let found = c.draft.invariant.0 in
    let shapes = shapes_seen_in q _ c.draft.inside.types _ found.measured found.typed c.as_slice.ensures in
    let large = large_is p q _ c.large_element.result c.draft.view_is shapes c.large_element.ensures in
    sizes_kept (text_of p) c.requires.entries c.requires.words (none_held (large_element (text_of p)) (sym large ∙ c.in-None.is))
