use Rattle.std.proofs.Common.{◌++◌, length, map, ap, ◌∙◌, refl}
use Rattle.nxt_model.specs.TextProgram.{subroutines}
use Rattle.nxt_model.specs.declared.nbc.NbcVar.{NbcVar}
use Rattle.nxt_asm_parts.proofs.TypeLists.{shapes_are}
use Rattle.nxt_asm_parts.proofs.types.types_of.Goals as goal

pub returns : goal.returns
returns c =
    let p = c.args.program.now in
    shapes_are p c.push_declared.new.types c.push_many.new.types c.push_many-2.new.types c.push_many-3.new.types _ _ _ _ _ _
    (c.in_ok-push_declared.ensures
    ∙ ap (λ l. l ++ map (λ (v : NbcVar). v.shape) c.as_slice.result.now) c.new-types.ensures
    ∙ ap (map (λ (v : NbcVar). v.shape)) c.as_slice.ensures)
    c.in_ok-push_many.ensures
    c.in_ok-push_many-2.ensures
    c.in_ok-push_many-3.ensures
    (λ ss. refl)
    (λ ss. refl)
    (λ ss. refl)
    (ap (λ r. r.count) c.in_ok-places.ensures ∙ ap (λ bs. length (subroutines bs)) c.as_slice-2.ensures)
    (c.number_count.ensures ∙ ap length c.requires.numbers)
    (c.text_count.ensures ∙ ap length c.requires.texts)
