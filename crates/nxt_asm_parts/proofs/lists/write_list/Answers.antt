use Rattle.std.proofs.Common.{arith}
use Rattle.nxt_asm_parts.proofs.Entries.{on_ok}
use Rattle.nxt_asm_parts.proofs.ListRows.{count_numbers, list_written}
use Rattle.nxt_asm_parts.proofs.lists.write_list.Goals as goal

pub write_list_row-requires-clause-count : goal.write_list_row-requires-clause-count
write_list_row-requires-clause-count c =
    let small = c.requires.small.1 in omega (arith, count_numbers c.args.numbers.now, small)

pub returns : goal.returns
returns c =
    λ n. on_ok c.push_numbers.result
    (λ pushed. list_written c.args.lists.now c.write_list_row.new.lists n c.leaf_size.result c.args.kind c.args.numbers.now c.push_numbers.new.bytes
    c.leaf_size.ensures c.in_ok-write_list_row.ensures pushed)
    c.push_numbers.ensures
