-- The image of the machine is that of the file.
use Rattle.std.proofs.Common.{ℕ, List, Result, Ok, Err}
use Rattle.std.specs.Prelude.{MatchResult}
use Rattle.nxt_rxe.specs.declared.parts.Parts.{Parts}
use Rattle.nxt_rxe.specs.Files.{IsFile}
use Rattle.nxt_machine.specs.Machines.{MachineViews}
use Rattle.nxt_tool.specs.Accepted.{HasCause, IsAcceptedAs, IsRun, PartsCause}
use Rattle.nxt_tool.specs.declared.fault.AcceptFault.{AcceptFault}
use Rattle.nxt_tool.proofs.FromFile.Faults.{parts_cause}
use Rattle.nxt_tool.proofs.accepting.accept.Goals as goal

by_parts : (bytes : List ℕ) (p : Parts) → IsFile bytes p → (r : Result MachineViews AcceptFault) → MatchResult r (λ m. IsRun p m.image) (PartsCause p)
    → MatchResult r (λ m. IsAcceptedAs bytes m.image) (HasCause bytes)
by_parts bytes p file (Ok m) h = (p, file, h)
by_parts bytes p file (Err f) h = parts_cause bytes p file f h

pub returns-clause-accepted : goal.returns-clause-accepted
returns-clause-accepted c = by_parts c.args.bytes.now c.in_ok-parts.parts c.in_ok-parts.ensures.found c.machine_of.result c.machine_of.ensures.accepted
