-- What is due where there was no memory.
use Rattle.nxt_tool.proofs.Reports.Generated.{no_memory_generated}
use Rattle.nxt_tool.proofs.entry.tell_generated.Goals as goal

pub returns-in-Err-clause-told : goal.returns-in-Err-clause-told
returns-in-Err-clause-told g c = no_memory_generated c.args.number _
