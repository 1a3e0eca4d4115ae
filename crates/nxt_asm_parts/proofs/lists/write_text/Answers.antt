use Rattle.std.proofs.Common.{arith}
use Rattle.nxt_asm_parts.proofs.Entries.{on_ok}
use Rattle.nxt_asm_parts.proofs.ListRows.{count_text, text_written}
use Rattle.nxt_asm_parts.proofs.lists.write_text.Goals as goal

pub write_list_row-requires-clause-count : goal.write_list_row-requires-clause-count
write_list_row-requires-clause-count c =
    let small = c.requires.small.1 in omega (arith, count_text c.args.text.now, small)

pub returns : goal.returns
returns c =
    on_ok c.push_text.result
    (λ pushed. text_written c.args.lists.now c.write_list_row.new.lists c.args.text.now c.push_text.new.bytes c.in_ok-write_list_row.ensures pushed)
    c.push_text.ensures
