use Rattle.nxt_model.specs.Nbc.Types.{type_shapes}
use Rattle.nxt_model.specs.TextProgram.{shape_by}
use Rattle.nxt_nbc_names.specs.StructsSeen.{structs_seen}
use Rattle.nxt_nbc_names.specs.declared.members.Member.{Member}
use Rattle.nxt_nbc_names.proofs.Measures.{extent_more}
use Rattle.nxt_nbc_names.proofs.structs.extent_of_members.Goals as goal

pub loop-member-preserved : goal.loop-member-preserved
loop-member-preserved c =
    extent_more (λ (m : Member). shape_by (type_shapes (structs_seen c.args.structs.now)) m.shape) c.args.members.now c.loop-member.member-index _
    c.loop-member.extent c.extent_among.result c.with-extent.result
    c.loop-member-test.true c.loop-member.invariant c.extent_among.ensures c.with-extent.ensures
