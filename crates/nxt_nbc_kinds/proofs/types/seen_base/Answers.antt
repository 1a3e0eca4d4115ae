-- A struct that there is is a cluster.
use Rattle.std.proofs.Common.{sym, ap, ◌∙◌}
use Rattle.nxt_operand_rules.specs.SeenOf.{seen_by}
use Rattle.nxt_model.specs.TextProgram.{base_shape}
use Rattle.nxt_model.specs.Nbc.Types.{type_shapes}
use Rattle.nxt_nbc_names.specs.StructsSeen.{structs_seen}
use Rattle.nxt_nbc_kinds.proofs.StructsAt.{seen_past, seen_there}
use Rattle.nxt_nbc_kinds.proofs.types.seen_base.Goals as goal

pub returns-then-position-structs : goal.returns-then-position-structs
returns-then-position-structs c =
    seen_there c.args.structs.now c.in-Struct.position c.if-position-structs.true
    ∙ sym (ap (λ b. seen_by (base_shape (type_shapes (structs_seen c.args.structs.now)) b)) c.in-Struct.is)

pub returns-else-position-structs : goal.returns-else-position-structs
returns-else-position-structs c =
    seen_past c.args.structs.now c.in-Struct.position c.if-position-structs.false
    ∙ sym (ap (λ b. seen_by (base_shape (type_shapes (structs_seen c.args.structs.now)) b)) c.in-Struct.is)
