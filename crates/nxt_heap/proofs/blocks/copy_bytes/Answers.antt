use Rattle.std.proofs.Common.{◌≡◌, ◌+◌, ◌<◌, take, drop, length, ap, sym, ◌∙◌, arith, length-take}
use Rattle.nxt_facts.specs.PutAt.{put_at}
use Rattle.nxt_rows.specs.Rows.{dope_row}
use Rattle.nxt_heap.specs.Inside.Pool.{row_bytes}
use Rattle.nxt_heap.proofs.WholeStored.{row_fits, list_fits, stores, stores_none}
use Rattle.nxt_heap.proofs.Windows.{length-window}
use Rattle.nxt_heap.proofs.blocks.copy_bytes.Goals as goal

pub get-source-requires : goal.get-source-requires
get-source-requires c =
    let b = c.requires.blocks in
    row_fits c.args.pool.now b.0 b.1 c.args.table c.args.from 0 c.args.pool.now b.2 b.3 c.requires.source

pub get-place-requires : goal.get-place-requires
get-place-requires c =
    let b = c.requires.blocks in
    row_fits c.args.pool.now b.0 b.1 c.args.table c.args.to 0 c.args.pool.now b.2 b.3 c.requires.list

pub copy_part-requires-clause-from : goal.copy_part-requires-clause-from
copy_part-requires-clause-from c =
    let b = c.requires.blocks in
    let bytes : c.byte_count-bytes.result ≡ row_bytes (dope_row c.args.pool.now c.args.table c.args.from) = c.byte_count-bytes.ensures ∙ ap row_bytes c.get-source.ensures in
    omega (arith, bytes, ap (λ r. r.place) c.get-source.ensures, list_fits c.args.pool.now b.0 b.1 c.args.table c.args.from 0 c.args.pool.now b.2 b.3 c.requires.source (omega (arith, bytes, c.if-bytes-gt0.true)))

pub copy_part-requires-clause-to : goal.copy_part-requires-clause-to
copy_part-requires-clause-to c =
    let b = c.requires.blocks in
    let bytes : c.byte_count-bytes.result ≡ row_bytes (dope_row c.args.pool.now c.args.table c.args.from) = c.byte_count-bytes.ensures ∙ ap row_bytes c.get-source.ensures in
    omega (arith, bytes, ap (λ r. r.place) c.get-place.ensures, c.requires.fits, list_fits c.args.pool.now b.0 b.1 c.args.table c.args.to 0 c.args.pool.now b.2 b.3 c.requires.list (omega (arith, bytes, c.if-bytes-gt0.true, c.requires.fits)))

pub returns-then-bytes-gt0 : goal.returns-then-bytes-gt0
returns-then-bytes-gt0 c =
    let b = c.requires.blocks in
    let pool = c.args.pool.now in
    let x = dope_row pool c.args.table c.args.from in
    let y = dope_row pool c.args.table c.args.to in
    let bytes : c.byte_count-bytes.result ≡ row_bytes x = c.byte_count-bytes.ensures ∙ ap row_bytes c.get-source.ensures in
    let some : 0 < row_bytes x = omega (arith, bytes, c.if-bytes-gt0.true) in
    let bs = take (row_bytes x) (drop x.place pool) in
    let long : length bs ≡ row_bytes x = length-window pool x.place (row_bytes x) (list_fits pool b.0 b.1 c.args.table c.args.from 0 pool b.2 b.3 c.requires.source some) in
    let none : y.place + 0 ≡ y.place = omega arith in
    let made : c.copy_part.new.pool ≡ put_at (y.place + 0) bs pool =
    c.copy_part.ensures
    ∙ ap (λ n. put_at c.get-place.result.place (take n (drop c.get-source.result.place pool)) pool) bytes
    ∙ ap (λ r. put_at c.get-place.result.place (take (row_bytes x) (drop r.place pool)) pool) c.get-source.ensures
    ∙ ap (λ r. put_at r.place bs pool) c.get-place.ensures
    ∙ ap (λ n. put_at n bs pool) (sym none) in
    rw made (stores pool b.0 b.1 c.args.table c.args.to 0 bs b.2 b.3 c.requires.list (omega (arith, long, some)) (omega (arith, long, c.requires.fits)))

pub returns-else-bytes-gt0 : goal.returns-else-bytes-gt0
returns-else-bytes-gt0 c =
    let pool = c.args.pool.now in
    let x = dope_row pool c.args.table c.args.from in
    let bytes : c.byte_count-bytes.result ≡ row_bytes x = c.byte_count-bytes.ensures ∙ ap row_bytes c.get-source.ensures in
    stores_none pool c.args.table c.args.to 0 (take (row_bytes x) (drop x.place pool)) c.requires.list (omega (arith, length-take (row_bytes x) (drop x.place pool), bytes, c.if-bytes-gt0.false))
