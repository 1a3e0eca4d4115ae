use Rattle.std.proofs.Common.{Some, sym, ap, ◌∙◌}
use Rattle.nxt_nbc_names.specs.declared.members.Member.{Member}
use Rattle.nxt_nbc_kinds.proofs.KindsInTurn.{kinds_more, kinds_none}
use Rattle.nxt_nbc_kinds.proofs.conversions.member_kinds.Goals as goal

pub returns-in-None : goal.returns-in-None
returns-in-None c =
    kinds_none (λ (m : Member). m.shape) c.args.structs.now c.args.members.now c.loop-member.member-index _ c.loop-member-test.true c.in-None.ensures

pub loop-member-preserved : goal.loop-member-preserved
loop-member-preserved c =
    kinds_more (λ (m : Member). m.shape) c.args.structs.now c.args.members.now c.loop-member.member-index _ c.loop-member-test.true
    c.loop-member.kinds.items c.in-Some.kind c.loop-member.invariant c.in-Some.ensures
    ∙ ap Some (sym c.in_ok-push-in-Some.ensures.items)
