use Rattle.nxt_asm_parts.proofs.Steps.{mutex_entries}
use Rattle.nxt_asm_parts.proofs.measure.without_members.Goals as goal

pub returns : goal.returns
returns c = λ ss ks. mutex_entries ks
