-- What an operand of the program stands for, as the definitions see it.
use Rattle.nxt_model.specs.Nbc.Text.{Denoted, AVariable, ANumber, AText, ABlock, AType, Missing}
use Rattle.nxt_model.specs.Nbc.Structs.{Types}
use Rattle.nxt_model.specs.Nbc.Types.{shape_in}
use Rattle.nxt_nbc_names.specs.declared.denoted.Denoted.{Denoted as ProgramDenoted}
use Rattle.nxt_nbc_names.specs.declared.denoted.Denoted.TheVariants as program

abbrev pub denoted_seen : Types → ProgramDenoted → Denoted
denoted_seen t (program.Part p) = AVariable p.variable p.path (shape_in t.structs p.shape)
denoted_seen t (program.Number z) = ANumber z
denoted_seen t (program.Text s) = AText s.now
denoted_seen t (program.Block k sub) = ABlock k sub
denoted_seen t program.Type = AType
denoted_seen t program.Missing = Missing
