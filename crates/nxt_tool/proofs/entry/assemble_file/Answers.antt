-- What is due to a text that is assembled, by how far it was read.
use Rattle.std.proofs.Common.{Err, ap}
use Rattle.nxt_edge.proofs.Laws.{Consumes-longer}
use Rattle.nxt_tool.proofs.Reports.Images.{no_memory_image, unread_image}
use Rattle.nxt_tool.proofs.Reports.Statuses.{long_list}
use Rattle.nxt_tool.proofs.entry.assemble_file.Goals as goal

pub returns-in-Err-clause-told : goal.returns-in-Err-clause-told
returns-in-Err-clause-told g c = λ b bytes program.
    rw c.of_read.ensures (unread_image c.in-Err.fault b _ _ (λ large.
    let taken = c.in-Err.ensures.too_large (ap (λ (x : _). Err x) large) in
    long_list _ b 262144 program (Consumes-longer _ _ 262144 taken.0 taken.1 taken.2)))

pub returns-in-Err-NoMemory-clause-told : goal.returns-in-Err-NoMemory-clause-told
returns-in-Err-NoMemory-clause-told g c = λ b bytes program. no_memory_image b _ _
