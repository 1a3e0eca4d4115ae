-- The program's variables, as the definitions see them.
use Rattle.std.specs.Prelude.{List}
use Rattle.nxt_model.specs.TextProgram.{Variable}
use Rattle.nxt_model.specs.declared.nbc.NbcVar.{NbcVar}
use Rattle.nxt_model.specs.Nbc.Types.{Struct, shape_in}

-- a variable, with its type among these structs
abbrev pub var_in : List Struct → NbcVar → Variable
var_in types v = record { shape = shape_in types v.shape; start = v.start }
