use Rattle.nxt_compact.proofs.Ordered.{few_rows, table_of}
use Rattle.nxt_compact.proofs.settling.compact.Goals as goal

pub sort_blocks-order-requires-clause-table : goal.sort_blocks-order-requires-clause-table
sort_blocks-order-requires-clause-table c = table_of c.args.pool.now c.args.table.now c.args.base c.requires

pub sort_blocks-order-requires-clause-room : goal.sort_blocks-order-requires-clause-room
sort_blocks-order-requires-clause-room c = few_rows c.args.pool.now c.args.table.now c.args.base c.requires
