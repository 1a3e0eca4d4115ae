use Rattle.std.proofs.Common.{◌≡◌, ◌++◌, ◌∷◌, [], sym, ap, subst, ◌∙◌}
use Rattle.nxt_model.specs.Nbc.Structs.{Types}
use Rattle.nxt_nbc_names.specs.Inside.Structs.{IsStructTable}
use Rattle.nxt_nbc_names.specs.Structs.{RisesTo}
use Rattle.nxt_nbc_names.specs.StructsSeen.{AreMeasured, structs_seen}
use Rattle.nxt_nbc_names.proofs.StructTables.{table_push, table_rises}
use Rattle.nxt_nbc_names.proofs.structs.StructTable.push.Goals as goal

pub invariant_of-self-2 : goal.invariant_of-self-2
invariant_of-self-2 c =
    let structs = c.self.inside.structs.items in
    let next = c.struct_behind-next.result in
    let items : c.push-2.new.self.items ≡ structs ++ next ∷ [] = c.in_ok-push-2.ensures.items ∙ ap (λ xs. xs ++ next ∷ []) c.in_ok-try_reserve.ensures.items in
    let rises = subst (λ (t : Types). RisesTo 0 c.args.line t.structs) (sym c.self.view_is) c.requires in
    let measured = subst (λ xs. AreMeasured (xs ++ next ∷ [])) c.as_slice.ensures.value c.struct_behind-next.ensures.measured in
    subst (λ ss. IsStructTable ss c.push.new.self) (sym items)
    (subst (IsStructTable (structs ++ next ∷ [])) (sym c.in_ok-push.ensures.ok)
    (table_push structs next c.args.name.now c.args.members c.args.line c.struct_behind-next.ensures.seen rises c.self.inside.names c.self.invariant measured))

pub returns-clause-rises : goal.returns-clause-rises
returns-clause-rises c =
    let structs = c.self.inside.structs.items in
    let next = c.struct_behind-next.result in
    let items : c.push-2.new.self.items ≡ structs ++ next ∷ [] = c.in_ok-push-2.ensures.items ∙ ap (λ xs. xs ++ next ∷ []) c.in_ok-try_reserve.ensures.items in
    let rises = subst (λ (t : Types). RisesTo 0 c.args.line t.structs) (sym c.self.view_is) c.requires in
    subst (λ ss. RisesTo 0 c.args.line (structs_seen ss)) (sym items)
    (table_rises structs next c.args.name.now c.args.members c.args.line c.struct_behind-next.ensures.seen rises)
