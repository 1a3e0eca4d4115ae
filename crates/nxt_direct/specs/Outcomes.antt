-- What a command gives: a verdict, devices, lines and bytes.
use Rattle.std.specs.Prelude.{ℕ, Bool, false, List, [], slice_index, Result, Ok, Err}
use Rattle.nxt_model.specs.declared.line.Line.{Line}
use Rattle.nxt_model.specs.Devices.{Devices}
use Rattle.nxt_model.specs.DirectCommands.{Command, ProgramEffect, Stay, Restart, Halt, Outcome, Refused, Done, outcome, outcome_of, command_of}
use Rattle.nxt_direct.specs.declared.status.Status.{Status}
use Rattle.nxt_direct.specs.declared.telegrams.Effect.{Effect}
use Rattle.nxt_direct.specs.declared.telegrams.Effect.TheVariants as effects
use Rattle.nxt_direct.specs.Statuses.{status_number}

-- ---- outcomes, whatever a command does not look at

-- the outcome of a command that asks neither for an active program nor for the time
abbrev pub outcome_anyway : Command → List ℕ → Devices → Outcome
outcome_anyway c bytes d = outcome c bytes false 0 d

-- the outcome of a command that does not ask for the time
abbrev pub outcome_anytime : Command → List ℕ → Bool → Devices → Outcome
outcome_anytime c bytes active d = outcome c bytes active 0 d

-- the outcome of a command that does not ask for an active program
abbrev pub outcome_at : Command → List ℕ → ℕ → Devices → Outcome
outcome_at c bytes clock d = outcome c bytes false clock d

-- the outcome of the command that a telegram names
abbrev pub outcome_asked : List ℕ → Bool → ℕ → Devices → Outcome
outcome_asked bytes active clock d = outcome_of (command_of (slice_index bytes 1)) bytes active clock d

-- ---- the parts of an outcome

-- the effect on the program, or the status that refuses
abbrev pub verdict_of : Outcome → Result ProgramEffect ℕ
verdict_of (Refused status) = Err status
verdict_of (Done e c more) = Ok e

abbrev pub devices_after : Outcome → Devices → Devices
devices_after (Refused status) d = d
devices_after (Done e c more) d = c.devices

abbrev pub lines_of : Outcome → List Line
lines_of (Refused status) = []
lines_of (Done e c more) = c.lines

-- the bytes of the reply after the status
abbrev pub more_of : Outcome → List ℕ
more_of (Refused status) = []
more_of (Done e c more) = more

-- ---- what the program says

abbrev pub effect_on : Effect → ProgramEffect
effect_on effects.Stay = Stay
effect_on effects.Restart = Restart
effect_on effects.Halt = Halt

abbrev pub verdict : Result Effect Status → Result ProgramEffect ℕ
verdict (Ok e) = Ok (effect_on e)
verdict (Err status) = Err (status_number status)
