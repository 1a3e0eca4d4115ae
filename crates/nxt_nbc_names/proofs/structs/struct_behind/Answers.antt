use Rattle.std.proofs.Common.{◌∙◌}
use Rattle.nxt_nbc_names.proofs.StructLists.{measured_behind}
use Rattle.nxt_nbc_names.proofs.structs.struct_behind.Goals as goal

pub returns-clause-measured : goal.returns-clause-measured
returns-clause-measured c =
    measured_behind c.args.structs.now _ c.as_slice.result.now c.requires c.as_slice.ensures
    (λ n d a e. c.of_struct-extent.ensures n d a (c.extent_of_members.ensures ∙ e))
