use Rattle.std.proofs.Common.{ap}
use Rattle.nxt_rows.proofs.Laws.FreeRows.{free_rows-none, IsFreeChain-none}
use Rattle.nxt_tests_files.proofs.dope.a_freed_row_is_taken_again.Goals as goal

pub take_row-requires-clause-chain : goal.take_row-requires-clause-chain
take_row-requires-clause-chain g c =
    IsFreeChain-none c.set.new.pool 8 (free_rows-none c.set.new.pool 8 (ap (λ r. r.link) c.set.ensures.row))
