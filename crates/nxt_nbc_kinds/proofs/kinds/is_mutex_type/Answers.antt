use Rattle.nxt_nbc_kinds.proofs.MutexTypes.{mutex_named}
use Rattle.nxt_nbc_kinds.proofs.kinds.is_mutex_type.Goals as goal

pub returns : goal.returns
returns c = mutex_named c.args.of.name.now c.as_bytes.result.now c.eq.result c.as_bytes.ensures.value c.eq.ensures
