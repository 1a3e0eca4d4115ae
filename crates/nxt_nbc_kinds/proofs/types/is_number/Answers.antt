-- What is seen of a part tells it.
use Rattle.nxt_types.specs.OperandRules.{Part}
use Rattle.nxt_model.specs.TextProgram.{shape_by}
use Rattle.nxt_model.specs.Nbc.Types.{type_shapes}
use Rattle.nxt_nbc_names.specs.StructsSeen.{structs_seen}
use Rattle.nxt_nbc_kinds.proofs.types.is_number.Goals as goal

pub returns : goal.returns
returns c = c.is_number.ensures (Part (shape_by (type_shapes (structs_seen c.args.structs.now)) c.args.shape)) c.seen.ensures
