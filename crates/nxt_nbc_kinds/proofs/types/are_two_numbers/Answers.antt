-- A place has two members.
use Rattle.std.proofs.Common.{arith}
use Rattle.nxt_model.specs.TextProgram.{shape_by}
use Rattle.nxt_model.specs.Nbc.Types.{type_shapes}
use Rattle.nxt_nbc_names.specs.StructsSeen.{structs_seen}
use Rattle.nxt_nbc_names.specs.declared.members.Member.{Member}
use Rattle.nxt_nbc_kinds.proofs.Clusters.{few_no_place, many_no_place}
use Rattle.nxt_nbc_kinds.proofs.types.are_two_numbers.Goals as goal

pub returns-in_default : goal.returns-in_default
returns-in_default c = few_no_place (λ (m : Member). shape_by (type_shapes (structs_seen c.args.structs.now)) m.shape) c.args.members.now (omega arith)

pub returns-in_default-2 : goal.returns-in_default-2
returns-in_default-2 c = many_no_place (λ (m : Member). shape_by (type_shapes (structs_seen c.args.structs.now)) m.shape) c.args.members.now (omega arith)
