-- The program's members of structs, as the definitions see them.
use Rattle.nxt_model.specs.Nbc.Types.{StructMember}
use Rattle.nxt_nbc_names.specs.declared.members.Member.{Member as ProgramMember}

abbrev pub member_seen : ProgramMember → StructMember
member_seen m = record { name = m.name.now; type = m.shape }
