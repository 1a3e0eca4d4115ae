-- A refusal is no end.
use Rattle.std.proofs.Common.{◌≡◌, sym, ◌∙◌}
use Rattle.nxt_tool.proofs.Reports.Statuses.{fault_not_done}
use Rattle.nxt_tool.proofs.entry.refuse.Goals as goal

pub returns-clause-refused : goal.returns-clause-refused
returns-clause-refused g c done = fault_not_done c.in-Err.fault (sym c.of_fault.ensures ∙ done)
