-- The statuses: that of a script that was run, by its end, and the number that a command ends with.
use Rattle.std.specs.Prelude.{ℕ, ⊤}
use Rattle.nxt_model.specs.Report.{End, Whole, Bad, TooLarge}
use Rattle.nxt_report.specs.declared.status.Status.{Status}
use Rattle.nxt_report.specs.declared.status.Status.TheVariants as status

abbrev pub status_of : End → Status
status_of (Whole n) = status.Done
status_of (Bad n) = status.ScriptRefused
status_of TooLarge = status.TooLarge

-- a status with which a script's run ends, where nothing failed
abbrev pub IsRunEnd : Status → Type 0
IsRunEnd status.Done = ⊤
IsRunEnd status.ScriptRefused = ⊤
IsRunEnd status.TooLarge = ⊤
IsRunEnd _ = ⊥

abbrev pub exit_number : Status → ℕ
exit_number status.Done = 0
exit_number status.Refused = 1
exit_number status.Words = 2
exit_number status.ReadFault = 3
exit_number status.WriteFault = 4
exit_number status.NoMemory = 5
exit_number status.ScriptRefused = 6
exit_number status.TooLarge = 7
