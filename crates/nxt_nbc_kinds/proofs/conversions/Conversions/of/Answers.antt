use Rattle.std.proofs.Common.{ap, subst, ◌∙◌}
use Rattle.std.proofs.lemmas.List.{take_all}
use Rattle.nxt_model.specs.Nbc.Types.{type_shapes}
use Rattle.nxt_nbc_names.specs.StructsSeen.{structs_seen}
use Rattle.nxt_nbc_kinds.proofs.KnownKinds.{AreKnown, are_kinship, known_more}
use Rattle.nxt_nbc_kinds.proofs.conversions.Conversions.of.Goals as goal

pub loop-item-preserved : goal.loop-item-preserved
loop-item-preserved c =
    known_more c.as_slice-declared.result.now c.loop-item.item-index c.item-item.result c.as_slice-in-loop-item.result.now c.loop-item.kinds c.loop-item.known
    c.loop-item-test.true (c.as_slice-in-loop-item.ensures ∙ ap (λ s. s.members) c.item-item.is) c.loop-item.invariant
    c.as_slice.result.now c.in_ok-kind.kind c.push.new.self c.kind.new.self
    c.as_slice.ensures c.in_ok-kind.ensures.number c.in_ok-kind.ensures.known c.in_ok-push.ensures.ok

pub returns : goal.returns
returns c =
    let xs = c.as_slice-declared.result.now in
    let whole = take_all c.loop-item.item-index xs c.loop-item-test.false in
    are_kinship c.args.structs.now c.loop-item.kinds c.loop-item.known
    (subst (λ ds. AreKnown (type_shapes ds) c.loop-item.kinds c.loop-item.known) (ap structs_seen whole ∙ c.as_slice-declared.ensures) c.loop-item.invariant)
