-- What is reported where the source of a script fails.
use Rattle.std.specs.Prelude.{◌≤◌, ◌+◌, ◌-◌, ℕ, List, length, take, Option}
use Rattle.std.specs.Io.KnownBytes.{Consumes, Appends}
use Rattle.nxt_machine.specs.Machines.{MachineViews}
use Rattle.nxt_script.specs.Ahead.{most_ahead, records_in}
use Rattle.nxt_script.specs.Rows.{rows}
use Rattle.nxt_report.specs.Running.{RowsTell}

-- of a script of which these bytes were taken m rows ran: the script has so many, and no more records end above 8,192 bytes before the last byte
pub record RanRows (script taken : List ℕ) (m : ℕ) : Type 0 where
  pub within : m ≤ length (rows script).rows
  pub far : records_in (take (length taken - (most_ahead + 1)) taken) ≤ m

-- what these rows told was written, and no last line
pub record CutText (machine : MachineViews) (script : List ℕ) (left left' old new : Option (List ℕ)) : Type 0 where
  pub m : ℕ
  pub taken : List ℕ
  pub text : List ℕ
  pub consumes : Consumes left left' taken
  pub ran : RanRows script taken m
  pub told : RowsTell machine (take m (rows script).rows) text
  pub wrote : Appends old new text
