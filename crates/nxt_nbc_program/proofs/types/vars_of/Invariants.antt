use Rattle.std.proofs.Common.{◌≡◌, List, map, take}
use Rattle.nxt_model.specs.Nbc.Text.{program_var}
use Rattle.nxt_model.specs.Nbc.Types.{Struct}
use Rattle.nxt_nbc_names.specs.VariablesSeen.{variable_seen}
use Rattle.nxt_nbc_program.specs.TypesSeen.{var_in}
use Rattle.nxt_nbc_program.proofs.types.vars_of.Given as goal

-- the variables so far
abbrev pub invariant-loop-variable : goal.invariant-loop-variable
invariant-loop-variable l =
    (types : List Struct) → map (var_in types) l.vars ≡ map (program_var types) (map variable_seen (take l.variable-index l.variables))
