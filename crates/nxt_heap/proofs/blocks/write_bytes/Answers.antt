use Rattle.std.proofs.Common.{◌≡◌, ◌+◌, ◌<◌, ap, length, ◌∙◌, arith}
use Rattle.std.proofs.lemmas.Bool.Decides.{nat_tests}
use Rattle.nxt_facts.specs.PutAt.{put_at}
use Rattle.nxt_rows.specs.Rows.{dope_row}
use Rattle.nxt_heap.proofs.WholeStored.{row_fits, place_fits, stores, stores_none}
use Rattle.nxt_heap.proofs.blocks.write_bytes.Goals as goal

pub returns-then-is_empty : goal.returns-then-is_empty
returns-then-is_empty c =
    let none : length c.args.bytes.now ≡ 0 = grind (arith, nat_tests, c.is_empty.ensures, c.if-is_empty.true) in
    stores_none c.args.pool.now c.args.table c.args.row c.args.at c.args.bytes.now c.requires.list none

pub get-found-requires : goal.get-found-requires
get-found-requires c =
    let b = c.requires.blocks in
    row_fits c.args.pool.now b.0 b.1 c.args.table c.args.row c.args.at c.args.bytes.now b.2 b.3 c.requires.list

pub put-requires : goal.put-requires
put-requires c =
    let b = c.requires.blocks in
    let some : 0 < length c.args.bytes.now = grind (arith, nat_tests, c.is_empty.ensures, c.if-is_empty.false) in
    omega (arith, place_fits c.args.pool.now b.0 b.1 c.args.table c.args.row c.args.at c.args.bytes.now b.2 b.3 c.requires.list some c.requires.at, ap (λ r. r.place) c.get-found.ensures)

pub returns : goal.returns
returns c =
    let b = c.requires.blocks in
    let some : 0 < length c.args.bytes.now = grind (arith, nat_tests, c.is_empty.ensures, c.if-is_empty.false) in
    let made : c.put.new.pool ≡ put_at ((dope_row c.args.pool.now c.args.table c.args.row).place + c.args.at) c.args.bytes.now c.args.pool.now =
    c.put.ensures ∙ ap (λ r. put_at (r.place + c.args.at) c.args.bytes.now c.args.pool.now) c.get-found.ensures in
    rw made (stores c.args.pool.now b.0 b.1 c.args.table c.args.row c.args.at c.args.bytes.now b.2 b.3 c.requires.list some c.requires.at)
