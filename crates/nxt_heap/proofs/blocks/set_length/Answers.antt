use Rattle.std.proofs.Common.{◌≡◌, ℕ, ◌+◌, ◌-◌, ◌*◌, ◌/◌, ◌%◌, ◌<◌, ◌≤◌, inl, inr, set, slice_index, refl, ap, sym, ◌∙◌, arith}
use Rattle.std.proofs.lemmas.Nat.{div-add-mod'}
use Rattle.nxt_types.specs.Pool.{round4}
use Rattle.nxt_rows.specs.Rows.{dope_row}
use Rattle.nxt_compact.specs.Pools.{block_bytes, IsFull}
use Rattle.nxt_compact.proofs.Laws.Going.{first_full}
use Rattle.nxt_compact.proofs.Laws.Opening.{before_most}
use Rattle.nxt_compact.proofs.Laws.Shifted.{bytes_of_table}
use Rattle.nxt_heap.specs.Inside.Pool.{row_bytes, AreBlocks}
use Rattle.nxt_heap.proofs.Begins.{table_inside}
use Rattle.nxt_heap.proofs.Lengthened.{longer_pool, longer_block, longer_fronts, longer_last, longer_most, longer_searched, longer_lists}
use Rattle.nxt_heap.proofs.ListsKept.{same_length}
use Rattle.nxt_heap.proofs.OneRow.{total_kept}
use Rattle.nxt_heap.proofs.Searched.{searched_anew}
use Rattle.nxt_heap.proofs.Settled.{total_below, end_inside}
use Rattle.nxt_heap.proofs.Windows.{le-block}
use Rattle.nxt_heap.proofs.blocks.set_length.Goals as goal
use Rattle.nxt_heap.proofs.blocks.set_length.Goals.{then-place-block, else-place-block}

pub get-requires : goal.get-requires
get-requires c = omega (arith, c.requires.list.within, table_inside c.args.pool.now c.args.at.now.table c.args.at.now.base c.requires.blocks.is_pool)

pub write_length-requires-clause-table : goal.write_length-requires-clause-table
write_length-requires-clause-table c = table_inside c.args.pool.now c.args.at.now.table c.args.at.now.base c.requires.blocks.is_pool

pub write_length-requires-clause-apart : goal.write_length-requires-clause-apart
write_length-requires-clause-apart c =
    let p = c.requires.blocks.is_pool in
    let first = first_full c.args.pool.now c.args.at.now.table c.args.at.now.base p.sound in
    elim (c.requires.room.others 0 first (λ e. omega (arith, e, c.requires.list.above))) [
      | inl l ↦ inr (omega (arith, l, p.sound.place))
      | inr l ↦ inl (omega (arith, l, p.sound.place, bytes_of_table (dope_row c.args.pool.now c.args.at.now.table 0) p.sound.stride))
    ]

-- the footprint lies in the pool, and the row's block in the footprint
record Fits (c : goal.After-at-1) : Type 0 where
  most : c.args.at.now.footprint ≤ 32768
  own : c.block_bytes-block.result ≤ c.args.at.now.footprint
  more : c.round4-room.result ≤ 32768

fits : (c : goal.After-at-1) → Fits c
fits c =
    let b = c.requires.blocks in
    let table = c.args.at.now.table in
    record {
      most = omega (arith, b.footprint_is, total_below c.args.pool.now table c.args.at.now.base c.args.at.now.end b.is_pool b.end_is, end_inside c.args.pool.now table c.args.at.now.base c.args.at.now.end b.is_pool b.end_is);
      own = omega (arith, b.footprint_is, before_most c.args.pool.now table c.args.row c.requires.list.within, c.block_bytes-block.ensures ∙ ap block_bytes c.get.ensures);
      more = omega (arith, c.round4-room.ensures, c.requires.room.within, b.is_pool.size);
    }

pub overflow_add-at-2 : goal.overflow_add-at-2
overflow_add-at-2 c = let f = fits c in omega (arith, f.most, f.more)

pub overflow_sub-at : goal.overflow_sub-at
overflow_sub-at c = let f = fits c in omega (arith, f.own)

whole : (n m : ℕ) → n % m ≡ 0 → n / m * m ≡ n
whole n m none = omega (arith, div-add-mod' n m, none)

pub returns-clause-length : goal.returns-clause-length
returns-clause-length c =
    let b = c.requires.blocks in
    let l = c.requires.list in
    let old = dope_row c.args.pool.now c.args.at.now.table c.args.row in
    let block : c.block_bytes-block.result ≡ block_bytes old = c.block_bytes-block.ensures ∙ ap block_bytes c.get.ensures in
    let small = le-block old in
    let own : 0 < row_bytes old → IsFull c.args.pool.now c.args.at.now.table c.args.row = λ some. record { within = l.within; some = omega (arith, some, small) } in
    let blocks_as : AreBlocks c.write_length.new.pool (set c.args.fronts.now c.word.result c.args.row) (record c.args.at.now { end = c.if-place-block.at; footprint = c.args.at.now.footprint + c.round4-room.result - c.block_bytes-block.result; searched = c.still_searched-at.result }) = record {
      is_pool = longer_pool c.args.pool.now c.write_length.new.pool c.args.at.now.table c.args.at.now.base c.args.row c.args.place c.args.bytes b.is_pool l.above l.within l.alive c.requires.some (whole c.args.bytes (dope_row c.args.pool.now c.args.at.now.table c.args.row).stride l.whole) c.requires.room c.write_length.ensures.relists;
      word = b.word;
      are_fronts = rw c.word.ensures (longer_fronts c.args.pool.now c.write_length.new.pool c.args.at.now.table c.args.at.now.base c.args.row c.args.place c.args.bytes b.is_pool l.above l.within l.alive c.requires.some (whole c.args.bytes (dope_row c.args.pool.now c.args.at.now.table c.args.row).stride l.whole) c.requires.room c.write_length.ensures.relists c.args.fronts.now b.are_fronts);
      end_is = elim c.if-place-block.branch [
        | then-place-block w ↦ rw (w.at-is, c.round4-room.ensures) (longer_last c.args.pool.now c.write_length.new.pool c.args.at.now.table c.args.at.now.base c.args.row c.args.place c.args.bytes b.is_pool l.above l.within l.alive c.requires.some (whole c.args.bytes (dope_row c.args.pool.now c.args.at.now.table c.args.row).stride l.whole) c.requires.room c.write_length.ensures.relists c.args.at.now.end b.end_is (omega (arith, w.if-place-block.true, block)))
        | else-place-block w ↦ rw (w.at-is, w.max-at.ensures, c.round4-room.ensures) (longer_most c.args.pool.now c.write_length.new.pool c.args.at.now.table c.args.at.now.base c.args.row c.args.place c.args.bytes b.is_pool l.above l.within l.alive c.requires.some (whole c.args.bytes (dope_row c.args.pool.now c.args.at.now.table c.args.row).stride l.whole) c.requires.room c.write_length.ensures.relists c.args.at.now.end b.end_is (λ e. w.if-place-block.false (omega (arith, e, block))))
      ];
      footprint_is = omega (
        arith,
        b.footprint_is,
        block,
        c.round4-room.ensures,
        before_most c.args.pool.now c.args.at.now.table c.args.row l.within,
        longer_block c.args.pool.now c.write_length.new.pool c.args.at.now.table c.args.at.now.base c.args.row c.args.place c.args.bytes b.is_pool l.above l.within l.alive c.requires.some (whole c.args.bytes (dope_row c.args.pool.now c.args.at.now.table c.args.row).stride l.whole) c.requires.room c.write_length.ensures.relists,
        total_kept c.args.pool.now c.write_length.new.pool c.args.at.now.table c.args.at.now.base c.args.row c.args.place (c.args.bytes / old.stride) (round4 c.args.bytes) b.is_pool l.above l.within l.alive c.write_length.ensures.relists,
      );
      searched = elim c.still_searched-at.ensures [
        | inl anew ↦ rw anew (searched_anew c.write_length.new.pool c.args.at.now.table c.args.at.now.base c.args.at.now.sought (longer_pool c.args.pool.now c.write_length.new.pool c.args.at.now.table c.args.at.now.base c.args.row c.args.place c.args.bytes b.is_pool l.above l.within l.alive c.requires.some (whole c.args.bytes (dope_row c.args.pool.now c.args.at.now.table c.args.row).stride l.whole) c.requires.room c.write_length.ensures.relists) b.word)
        | inr still ↦ rw still.0 (longer_searched c.args.pool.now c.write_length.new.pool c.args.at.now.table c.args.at.now.base c.args.row c.args.place c.args.bytes b.is_pool l.above l.within l.alive c.requires.some (whole c.args.bytes (dope_row c.args.pool.now c.args.at.now.table c.args.row).stride l.whole) c.requires.room c.write_length.ensures.relists c.args.at.now.searched c.args.at.now.sought still.1 b.searched)
      ];
    } in
    record {
      blocks = blocks_as;
      base = refl;
      lists = longer_lists c.args.pool.now c.write_length.new.pool c.args.at.now.table c.args.at.now.base c.args.row c.args.place c.args.bytes b.is_pool l.above l.within l.alive c.requires.some (whole c.args.bytes (dope_row c.args.pool.now c.args.at.now.table c.args.row).stride l.whole) c.requires.room c.write_length.ensures.relists
          (λ k had low. c.write_length.ensures.keeps k had low ∙ ap (λ n. slice_index c.args.pool.now (n + k)) (sym (c.requires.room.own (own (omega (arith, had))))))
          c.write_length.ensures.zeros
          (λ some. omega (arith, b.is_pool.sound.within c.args.row (own some), small))
          ∙ same_length c.args.pool.now c.args.at.now.table c.args.row c.args.bytes l.above l.within l.alive;
      below = λ k low. c.write_length.ensures.relists.outside k (inl (omega (arith, low, c.requires.room.above))) (inl (omega (arith, low, b.is_pool.sound.above 0 (first_full c.args.pool.now c.args.at.now.table c.args.at.now.base b.is_pool.sound), b.is_pool.sound.place)));
      footprint = omega (arith, block, c.round4-room.ensures, b.footprint_is, before_most c.args.pool.now c.args.at.now.table c.args.row l.within);
    }
