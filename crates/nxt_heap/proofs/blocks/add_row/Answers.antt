use Rattle.std.proofs.Common.{◌≡◌, ◌+◌, ◌*◌, ◌≤◌, inl, inr, refl, ap, ◌∙◌, arith}
use Rattle.nxt_types.specs.Pool.{round4}
use Rattle.nxt_rows.specs.Rows.{dope_row, row_count}
use Rattle.nxt_compact.specs.Pools.{block_bytes}
use Rattle.nxt_compact.proofs.Laws.Going.{first_full}
use Rattle.nxt_compact.proofs.Laws.Opening.{before_most}
use Rattle.nxt_heap.proofs.RowAdded.{table_was, added_pool, added_lists, added_fronts, added_last, added_most, added_searched, added_total}
use Rattle.nxt_heap.proofs.Searched.{searched_anew}
use Rattle.nxt_heap.proofs.Settled.{total_below, end_inside}
use Rattle.nxt_heap.proofs.blocks.add_row.Goals as goal
use Rattle.nxt_heap.proofs.blocks.add_row.Goals.{then-at-had, else-at-had}

-- the footprint lies in the pool, and the table in the footprint
record Fits (c : goal.After-at-1) : Type 0 where
  most : c.args.at.now.footprint ≤ 32768
  had : c.round4-had.result ≡ round4 (10 * row_count c.args.pool.now c.args.at.now.table)
  own : c.round4-had.result ≤ c.args.at.now.footprint
  room : c.round4-room.result ≡ round4 (10 * (row_count c.args.pool.now c.args.at.now.table + 1))
  more : c.round4-room.result ≤ 32768

was : (c : goal.After-at-1) → block_bytes (dope_row c.args.pool.now c.args.at.now.table 0) ≡ round4 (10 * row_count c.args.pool.now c.args.at.now.table)
was c = let b = c.requires.blocks in table_was c.args.pool.now c.write_row.new.pool c.args.at.now.table c.args.at.now.base c.args.stride b.is_pool c.requires.full c.requires.stride c.requires.room c.write_row.ensures

fits : (c : goal.After-at-1) → Fits c
fits c =
    let b = c.requires.blocks in
    let pool = c.args.pool.now in
    let table = c.args.at.now.table in
    let rows : c.get-rows.result.count ≡ row_count pool table = ap (λ d. d.count) c.get-rows.ensures in
    let had : c.round4-had.result ≡ round4 (10 * row_count pool table) = c.round4-had.ensures ∙ ap (λ n. round4 (10 * n)) rows in
    let room : c.round4-room.result ≡ round4 (10 * (row_count pool table + 1)) = c.round4-room.ensures ∙ ap (λ n. round4 (10 * (n + 1))) rows in
    record {
      most = omega (arith, b.footprint_is, total_below pool table c.args.at.now.base c.args.at.now.end b.is_pool b.end_is, end_inside pool table c.args.at.now.base c.args.at.now.end b.is_pool b.end_is);
      had = had;
      own = omega (arith, had, b.footprint_is, before_most pool table 0 b.is_pool.sound.some, was c);
      room = room;
      more = omega (arith, room, c.requires.room.within, b.is_pool.size);
    }

pub overflow_add-at-2 : goal.overflow_add-at-2
overflow_add-at-2 c = let f = fits c in omega (arith, f.most, f.more)

pub overflow_sub-at : goal.overflow_sub-at
overflow_sub-at c = let f = fits c in omega (arith, f.own)

pub returns-clause-added : goal.returns-clause-added
returns-clause-added c =
    let b = c.requires.blocks in
    let pool = c.args.pool.now in
    let table = c.args.at.now.table in
    let rows : c.get-rows.result.count ≡ row_count pool table = ap (λ d. d.count) c.get-rows.ensures in
    let had : c.round4-had.result ≡ round4 (10 * row_count pool table) = c.round4-had.ensures ∙ ap (λ n. round4 (10 * n)) rows in
    let room : c.round4-room.result ≡ round4 (10 * (row_count pool table + 1)) = c.round4-room.ensures ∙ ap (λ n. round4 (10 * (n + 1))) rows in
    let own = table_was c.args.pool.now c.write_row.new.pool c.args.at.now.table c.args.at.now.base c.args.stride b.is_pool c.requires.full c.requires.stride c.requires.room c.write_row.ensures in
    let most = before_most pool table 0 b.is_pool.sound.some in
    let first = first_full pool table c.args.at.now.base b.is_pool.sound in
    record {
      blocks = record {
        is_pool = added_pool c.args.pool.now c.write_row.new.pool c.args.at.now.table c.args.at.now.base c.args.stride b.is_pool c.requires.full c.requires.stride c.requires.room c.write_row.ensures;
        word = b.word;
        are_fronts = added_fronts c.args.pool.now c.write_row.new.pool c.args.at.now.table c.args.at.now.base c.args.stride b.is_pool c.requires.full c.requires.stride c.requires.room c.write_row.ensures c.args.fronts.now b.are_fronts;
        end_is = elim c.if-at-had.branch [
          | then-at-had w ↦ rw (w.at-is, room) (added_last c.args.pool.now c.write_row.new.pool c.args.at.now.table c.args.at.now.base c.args.stride b.is_pool c.requires.full c.requires.stride c.requires.room c.write_row.ensures c.args.at.now.end b.end_is (omega (arith, w.if-at-had.true, had, own)))
          | else-at-had w ↦ rw (w.at-is, w.max-at.ensures, room) (added_most c.args.pool.now c.write_row.new.pool c.args.at.now.table c.args.at.now.base c.args.stride b.is_pool c.requires.full c.requires.stride c.requires.room c.write_row.ensures c.args.at.now.end b.end_is (λ e. w.if-at-had.false (omega (arith, e, had, own))))
        ];
        footprint_is = omega (arith, b.footprint_is, had, room, own, most, added_total c.args.pool.now c.write_row.new.pool c.args.at.now.table c.args.at.now.base c.args.stride b.is_pool c.requires.full c.requires.stride c.requires.room c.write_row.ensures);
        searched = elim c.still_searched-at.ensures [
          | inl anew ↦ rw anew (searched_anew c.write_row.new.pool c.args.at.now.table c.args.at.now.base c.args.at.now.sought (added_pool c.args.pool.now c.write_row.new.pool c.args.at.now.table c.args.at.now.base c.args.stride b.is_pool c.requires.full c.requires.stride c.requires.room c.write_row.ensures) b.word)
          | inr still ↦ rw still.0 (added_searched c.args.pool.now c.write_row.new.pool c.args.at.now.table c.args.at.now.base c.args.stride b.is_pool c.requires.full c.requires.stride c.requires.room c.write_row.ensures c.args.at.now.searched c.args.at.now.sought still.1 b.searched)
        ];
      };
      base = refl;
      lists = added_lists c.args.pool.now c.write_row.new.pool c.args.at.now.table c.args.at.now.base c.args.stride b.is_pool c.requires.full c.requires.stride c.requires.room c.write_row.ensures;
      below = λ k low. c.write_row.ensures.outside k (inl (omega (arith, low, b.is_pool.sound.above 0 first, b.is_pool.sound.place)));
      footprint = omega (arith, b.footprint_is, had, room, own, most);
    }
