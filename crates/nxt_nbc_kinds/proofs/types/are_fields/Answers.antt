-- There are as many members as fields.
use Rattle.nxt_model.specs.TextProgram.{shape_by}
use Rattle.nxt_model.specs.Nbc.Types.{type_shapes}
use Rattle.nxt_nbc_names.specs.StructsSeen.{structs_seen}
use Rattle.nxt_nbc_names.specs.declared.members.Member.{Member}
use Rattle.nxt_nbc_kinds.proofs.Clusters.{other_count}
use Rattle.nxt_nbc_kinds.proofs.types.are_fields.Goals as goal

pub returns-then-fields-members : goal.returns-then-fields-members
returns-then-fields-members c =
    other_count (λ (m : Member). shape_by (type_shapes (structs_seen c.args.structs.now)) m.shape) c.args.fields.now c.args.members.now c.if-fields-members.true
