-- How a script's run ended.
use Rattle.std.proofs.Common.{◌≡◌, Ok, Err, refl, sym, ap, ◌∙◌, subst}
use Rattle.nxt_report.specs.Statuses.{IsRunEnd}
use Rattle.nxt_report.specs.declared.status.Status.TheVariants as status
use Rattle.nxt_report.specs.declared.writing.Fault.{Fault}
use Rattle.nxt_report.specs.declared.writing.Fault.TheVariants as faults
use Rattle.nxt_tool.specs.Due.{fault_status}
use Rattle.nxt_tool.proofs.Reports.Statuses.{fault_not_done}
use Rattle.nxt_tool.proofs.entry.run_program.Goals as goal

pub returns-in-Ok-clause-told : goal.returns-in-Ok-clause-told
returns-in-Ok-clause-told g c = λ s e. record { whole = λ ended. (c.in-Ok.ensures.status s e, c.in-Ok.ensures.told s e); part = λ fault. absurd (fault c.in-Ok.ensures.end) }

-- a fault is no end
no_end : (f : Fault) → IsRunEnd (fault_status f) → ⊥
no_end faults.Read ended = ended
no_end faults.Write ended = ended
no_end faults.NoMemory ended = ended

pub returns-clause-told : goal.returns-clause-told
returns-clause-told g c = λ s e. rw c.of_fault.ensures (record { whole = λ ended. absurd (no_end c.in-Err.fault ended); part = λ fault. c.in-Err.ensures.front s e })

-- ---- a fault of the source

fault_is_read : (f : Fault) → fault_status f ≡ status.ReadFault → f ≡ faults.Read
fault_is_read faults.Read e = refl
fault_is_read faults.Write e = absurd cc
fault_is_read faults.NoMemory e = absurd cc

pub returns-in-Ok-clause-cut : goal.returns-in-Ok-clause-cut
returns-in-Ok-clause-cut g c = λ s e failed. absurd (subst IsRunEnd failed c.in-Ok.ensures.end)

pub returns-clause-cut : goal.returns-clause-cut
returns-clause-cut g c = λ s e failed. c.in-Err.ensures.cut s e (ap Err (fault_is_read c.in-Err.fault (sym c.of_fault.ensures ∙ failed)))

-- ---- the end of the script

pub returns-in-Ok-clause-done : goal.returns-in-Ok-clause-done
returns-in-Ok-clause-done g c done = c.in-Ok.ensures.done (ap Ok done)

pub returns-clause-done : goal.returns-clause-done
returns-clause-done g c done = absurd (fault_not_done c.in-Err.fault (sym c.of_fault.ensures ∙ done))
