use Rattle.std.proofs.Common.{◌≡◌, ℕ, ◌/◌, ◌≤◌, inl, List, length, refl, ap, subst, ◌∙◌, arith}
use Rattle.nxt_rows.specs.Rows.{dope_row, no_place}
use Rattle.nxt_compact.specs.Pools.{block_bytes, IsFull}
use Rattle.nxt_compact.proofs.Laws.Going.{first_full}
use Rattle.nxt_compact.proofs.Laws.Opening.{before_most}
use Rattle.nxt_heap.specs.Inside.Pool.{IsPool, IsEndBelow}
use Rattle.nxt_heap.proofs.Begins.{table_inside}
use Rattle.nxt_heap.proofs.Emptied.{own_none, emptied_pool, emptied_lists, emptied_fronts, emptied_none, emptied_most, emptied_last, emptied_end}
use Rattle.nxt_heap.proofs.ListsKept.{same_length}
use Rattle.nxt_heap.proofs.Searched.{searched_anew, searched_others}
use Rattle.nxt_heap.proofs.OneRow.{others_kept, total_kept}
use Rattle.nxt_heap.proofs.blocks.drop_bytes.Goals as goal
use Rattle.nxt_heap.proofs.blocks.drop_bytes.Goals.{then-place-block, else-place-block}

pub get-found-requires : goal.get-found-requires
get-found-requires c = omega (arith, c.requires.list.within, table_inside c.args.pool.now c.args.at.now.table c.args.at.now.base c.requires.blocks.is_pool)

pub write_none-requires : goal.write_none-requires
write_none-requires c = omega (arith, c.requires.list.within, table_inside c.args.pool.now c.args.at.now.table c.args.at.now.base c.requires.blocks.is_pool)

pub end_below-at-requires-clause-pool : goal.end_below-at-requires-clause-pool
end_below-at-requires-clause-pool c =
    let b = c.requires.blocks in
    let l = c.requires.list in
    emptied_pool c.args.pool.now c.write_none.new.pool c.args.at.now.table c.args.at.now.base c.args.row b.is_pool l.above l.within l.alive c.write_none.ensures

pub end_below-at-requires-clause-fronts : goal.end_below-at-requires-clause-fronts
end_below-at-requires-clause-fronts c =
    let b = c.requires.blocks in
    let l = c.requires.list in
    let at : c.word.result ≡ (dope_row c.args.pool.now c.args.at.now.table c.args.row).place / 4 = c.word.ensures ∙ ap (λ d. d.place / 4) c.get-found.ensures in
    let block : c.block_bytes-block.result ≡ block_bytes (dope_row c.args.pool.now c.args.at.now.table c.args.row) = c.block_bytes-block.ensures ∙ ap block_bytes c.get-found.ensures in
    rw at (emptied_fronts c.args.pool.now c.write_none.new.pool c.args.at.now.table c.args.at.now.base c.args.row b.is_pool l.above l.within l.alive c.write_none.ensures c.args.fronts.now b.are_fronts (record { within = l.within; some = omega (arith, block, c.if-block-gt0.true) }))

pub end_below-at-requires-clause-below : goal.end_below-at-requires-clause-below
end_below-at-requires-clause-below c =
    let b = c.requires.blocks in
    let l = c.requires.list in
    let place : c.get-found.result.place ≡ (dope_row c.args.pool.now c.args.at.now.table c.args.row).place = ap (λ d. d.place) c.get-found.ensures in
    let block : c.block_bytes-block.result ≡ block_bytes (dope_row c.args.pool.now c.args.at.now.table c.args.row) = c.block_bytes-block.ensures ∙ ap block_bytes c.get-found.ensures in
    omega (arith, place, b.is_pool.size, b.is_pool.sound.within c.args.row (record { within = l.within; some = omega (arith, block, c.if-block-gt0.true) }))

pub end_below-at-requires-clause-most : goal.end_below-at-requires-clause-most
end_below-at-requires-clause-most c =
    let b = c.requires.blocks in
    let l = c.requires.list in
    let place : c.get-found.result.place ≡ (dope_row c.args.pool.now c.args.at.now.table c.args.row).place = ap (λ d. d.place) c.get-found.ensures in
    let block : c.block_bytes-block.result ≡ block_bytes (dope_row c.args.pool.now c.args.at.now.table c.args.row) = c.block_bytes-block.ensures ∙ ap block_bytes c.get-found.ensures in
    let own : IsFull c.args.pool.now c.args.at.now.table c.args.row = record { within = l.within; some = omega (arith, block, c.if-block-gt0.true) } in
    rw place (emptied_most c.args.pool.now c.write_none.new.pool c.args.at.now.table c.args.at.now.base c.args.row b.is_pool l.above l.within l.alive c.write_none.ensures c.args.at.now.end b.end_is own (omega (arith, place, block, c.if-place-block.true)))

pub end_below-at-requires-clause-packed : goal.end_below-at-requires-clause-packed
end_below-at-requires-clause-packed c dense =
    let b = c.requires.blocks in
    let l = c.requires.list in
    let block : c.block_bytes-block.result ≡ block_bytes (dope_row c.args.pool.now c.args.at.now.table c.args.row) = c.block_bytes-block.ensures ∙ ap block_bytes c.get-found.ensures in
    omega (
      arith,
      dense,
      c.if-place-block.true,
      block,
      b.footprint_is,
      own_none c.args.pool.now c.write_none.new.pool c.args.at.now.table c.args.at.now.base c.args.row b.is_pool l.above l.within l.alive c.write_none.ensures,
      total_kept c.args.pool.now c.write_none.new.pool c.args.at.now.table c.args.at.now.base c.args.row no_place 0 0 b.is_pool l.above l.within l.alive c.write_none.ensures,
    )

pub overflow_sub-at : goal.overflow_sub-at
overflow_sub-at c =
    let block : c.block_bytes-block.result ≡ block_bytes (dope_row c.args.pool.now c.args.at.now.table c.args.row) = c.block_bytes-block.ensures ∙ ap block_bytes c.get-found.ensures in
    omega (arith, c.requires.blocks.footprint_is, before_most c.args.pool.now c.args.at.now.table c.args.row c.requires.list.within, block)

-- where the static bytes end
record Base (pool : List ℕ) (table base : ℕ) : Type 0 where
  low : base ≤ length pool
  high : base ≤ table

base_of : (pool : List ℕ) (table base : ℕ) → IsPool pool table base → Base pool table base
base_of pool table base p =
    let first = first_full pool table base p.sound in
    record { low = omega (arith, p.sound.above 0 first, p.sound.within 0 first); high = omega (arith, p.sound.above 0 first, p.sound.place) }

pub returns-after-place-block-clause-length : goal.returns-after-place-block-clause-length
returns-after-place-block-clause-length c =
    let b = c.requires.blocks in
    let l = c.requires.list in
    let old = dope_row c.args.pool.now c.args.at.now.table c.args.row in
    let at : c.word.result ≡ old.place / 4 = c.word.ensures ∙ ap (λ d. d.place / 4) c.get-found.ensures in
    let place : c.get-found.result.place ≡ old.place = ap (λ d. d.place) c.get-found.ensures in
    let block : c.block_bytes-block.result ≡ block_bytes old = c.block_bytes-block.ensures ∙ ap block_bytes c.get-found.ensures in
    let own : IsFull c.args.pool.now c.args.at.now.table c.args.row = record { within = l.within; some = omega (arith, block, c.if-block-gt0.true) } in
    let first = base_of c.args.pool.now c.args.at.now.table c.args.at.now.base b.is_pool in
    let most = before_most c.args.pool.now c.args.at.now.table c.args.row l.within in
    record {
      blocks = record {
        is_pool = emptied_pool c.args.pool.now c.write_none.new.pool c.args.at.now.table c.args.at.now.base c.args.row b.is_pool l.above l.within l.alive c.write_none.ensures;
        word = b.word;
        are_fronts = rw at (emptied_fronts c.args.pool.now c.write_none.new.pool c.args.at.now.table c.args.at.now.base c.args.row b.is_pool l.above l.within l.alive c.write_none.ensures c.args.fronts.now b.are_fronts own);
        end_is = elim c.if-place-block.branch [
          | then-place-block w ↦ rw w.at-is (emptied_last c.args.pool.now c.write_none.new.pool c.args.at.now.table c.args.at.now.base c.args.row b.is_pool l.above l.within l.alive c.write_none.ensures c.args.at.now.end w.end_below-at.result b.end_is own (omega (arith, place, block, w.if-place-block.true)) (subst (λ n. IsEndBelow c.write_none.new.pool c.args.at.now.table n w.end_below-at.result) place w.end_below-at.ensures))
          | else-place-block w ↦ rw w.at-is (emptied_end c.args.pool.now c.write_none.new.pool c.args.at.now.table c.args.at.now.base c.args.row b.is_pool l.above l.within l.alive c.write_none.ensures c.args.at.now.end b.end_is (λ f e. w.if-place-block.false (omega (arith, place, block, e))))
        ];
        footprint_is = omega (arith, b.footprint_is, block, most, own_none c.args.pool.now c.write_none.new.pool c.args.at.now.table c.args.at.now.base c.args.row b.is_pool l.above l.within l.alive c.write_none.ensures, total_kept c.args.pool.now c.write_none.new.pool c.args.at.now.table c.args.at.now.base c.args.row no_place 0 0 b.is_pool l.above l.within l.alive c.write_none.ensures);
        searched = searched_anew c.write_none.new.pool c.args.at.now.table c.args.at.now.base c.args.at.now.sought (emptied_pool c.args.pool.now c.write_none.new.pool c.args.at.now.table c.args.at.now.base c.args.row b.is_pool l.above l.within l.alive c.write_none.ensures) b.word;
      };
      base = refl;
      lists = emptied_lists c.args.pool.now c.write_none.new.pool c.args.at.now.table c.args.at.now.base c.args.row b.is_pool l.above l.within l.alive c.write_none.ensures ∙ same_length c.args.pool.now c.args.at.now.table c.args.row 0 l.above l.within l.alive;
      below = λ k low. c.write_none.ensures.outside k (inl (omega (arith, low, first.low, b.is_pool.size))) (inl (omega (arith, low, first.high)));
      footprint = omega (arith, b.footprint_is, block, most);
    }

pub returns-else-block-gt0-clause-length : goal.returns-else-block-gt0-clause-length
returns-else-block-gt0-clause-length c =
    let b = c.requires.blocks in
    let l = c.requires.list in
    let old = dope_row c.args.pool.now c.args.at.now.table c.args.row in
    let block : c.block_bytes-block.result ≡ block_bytes old = c.block_bytes-block.ensures ∙ ap block_bytes c.get-found.ensures in
    let none : IsFull c.args.pool.now c.args.at.now.table c.args.row → ⊥ = λ f. omega (arith, f.some, block, c.if-block-gt0.false) in
    let first = base_of c.args.pool.now c.args.at.now.table c.args.at.now.base b.is_pool in
    record {
      blocks = record {
        is_pool = emptied_pool c.args.pool.now c.write_none.new.pool c.args.at.now.table c.args.at.now.base c.args.row b.is_pool l.above l.within l.alive c.write_none.ensures;
        word = b.word;
        are_fronts = emptied_none c.args.pool.now c.write_none.new.pool c.args.at.now.table c.args.at.now.base c.args.row b.is_pool l.above l.within l.alive c.write_none.ensures c.args.fronts.now b.are_fronts none;
        end_is = emptied_end c.args.pool.now c.write_none.new.pool c.args.at.now.table c.args.at.now.base c.args.row b.is_pool l.above l.within l.alive c.write_none.ensures c.args.at.now.end b.end_is (λ f e. none f);
        footprint_is = omega (arith, b.footprint_is, block, c.if-block-gt0.false, own_none c.args.pool.now c.write_none.new.pool c.args.at.now.table c.args.at.now.base c.args.row b.is_pool l.above l.within l.alive c.write_none.ensures, total_kept c.args.pool.now c.write_none.new.pool c.args.at.now.table c.args.at.now.base c.args.row no_place 0 0 b.is_pool l.above l.within l.alive c.write_none.ensures);
        searched = searched_others c.args.pool.now c.write_none.new.pool c.args.at.now.table c.args.at.now.table c.args.at.now.base c.args.at.now.searched c.args.at.now.sought c.args.row c.write_none.ensures.size
            (others_kept c.args.pool.now c.write_none.new.pool c.args.at.now.table c.args.at.now.base c.args.row no_place 0 0 b.is_pool l.above l.within l.alive c.write_none.ensures)
            (λ f. absurd (none f))
            (λ f. absurd (omega (arith, f.some, own_none c.args.pool.now c.write_none.new.pool c.args.at.now.table c.args.at.now.base c.args.row b.is_pool l.above l.within l.alive c.write_none.ensures)))
            b.searched;
      };
      base = refl;
      lists = emptied_lists c.args.pool.now c.write_none.new.pool c.args.at.now.table c.args.at.now.base c.args.row b.is_pool l.above l.within l.alive c.write_none.ensures ∙ same_length c.args.pool.now c.args.at.now.table c.args.row 0 l.above l.within l.alive;
      below = λ k low. c.write_none.ensures.outside k (inl (omega (arith, low, first.low, b.is_pool.size))) (inl (omega (arith, low, first.high)));
      footprint = omega (arith, block, c.if-block-gt0.false);
    }
