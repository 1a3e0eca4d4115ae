use Rattle.std.proofs.Common.{◌≡◌, ℕ, IfOk, subst}
use Rattle.nxt_asm.proofs.CountedSteps.{footprint_is}
use Rattle.nxt_asm.proofs.footprint.footprint.Goals as goal

pub returns : goal.returns
returns c =
    let found = c.draft.invariant.0 in
    let counted = c.draft.invariant.1 in
    let is =
    footprint_is c.args.draft.now c.draft.inside.program.now c.draft.inside.static_bytes c.draft.inside.arrays c.in_ok-static_bytes.static_bytes c.in_ok-plus.field-0
    c.in_ok-times.field-0 c.in_ok-rows.rows c.in_ok-declared.declared c.in_ok-text_bytes.field-0 c.in_ok-lists.lists c.in_ok-plus-2.field-0 c.as_slice.result.now
    c.as_slice-2.result.now c.draft.inside.constants.texts c.draft.view_is c.requires counted.bytes_are counted.arrays_are found.texts c.as_slice.ensures
    c.as_slice-2.ensures c.in_ok-static_bytes.ensures c.in_ok-plus.ensures c.in_ok-times.ensures c.in_ok-rows.ensures c.in_ok-declared.ensures
    c.in_ok-text_bytes.ensures c.in_ok-lists.ensures c.in_ok-plus-2.ensures in
    subst (λ (m : ℕ). IfOk c.plus-4.result (λ n. n ≡ m)) is c.plus-4.ensures
