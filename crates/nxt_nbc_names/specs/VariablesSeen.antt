-- The program's variables, as the definitions see them.
use Rattle.nxt_model.specs.Nbc.Text.{Variable}
use Rattle.nxt_nbc_lines.specs.Seen.{given_seen}
use Rattle.nxt_nbc_names.specs.declared.variables.Variable.{Variable as ProgramVariable}

abbrev pub variable_seen : ProgramVariable → Variable
variable_seen v = record { name = v.name.now; type = v.shape; given = given_seen v.given.now; line = v.line }
