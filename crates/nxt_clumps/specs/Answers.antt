-- What calls on clumps answer.
use Rattle.std.specs.Prelude.{◌≡◌, Option, Some, None, Result, Ok, Err}
use Rattle.nxt_model.specs.Clumps.{Ruled}
use Rattle.nxt_model.specs.declared.line.Stop.{Stop}
use Rattle.nxt_model.specs.declared.line.Stop.TheVariants as stops
use Rattle.nxt_clumps.specs.Clumps.{Scheduled}
use Rattle.nxt_clumps.specs.declared.fault.ClumpFault.{ClumpFault}
use Rattle.nxt_clumps.specs.declared.fault.ClumpFault.TheVariants as faults

abbrev pub stop_of : ClumpFault → Stop
stop_of (faults.Active c) = stops.Active c
stop_of (faults.NotOwner m) = stops.NotOwner m
stop_of (faults.NoCaller n) = stops.NoCaller n

-- the reason for which the program stops
abbrev pub stop_in : {T : Type 0} → Result T ClumpFault → Option Stop
stop_in (Ok _) = None
stop_in (Err f) = Some (stop_of f)

-- a call did what a rule says: the clumps are as it leaves them, and an `Err` tells why the program stops there, if it does
pub record Rules {T : Type 0} (rule : Ruled) (old : Scheduled) (result : Result T ClumpFault) (new : Scheduled) : Type 0 where
  pub plans : new.plans ≡ old.plans
  pub state : new.state ≡ rule.0
  pub stop : stop_in result ≡ rule.1
