use Rattle.std.proofs.Common.{◌≡◌, ◌/◌, refl, ap, ◌∙◌, arith}
use Rattle.nxt_rows.specs.Rows.{dope_row}
use Rattle.nxt_compact.specs.Pools.{Moves}
use Rattle.nxt_compact.specs.Steps.{moved_to}
use Rattle.nxt_compact.proofs.Laws.Going.{first_full}
use Rattle.nxt_heap.proofs.Begins.{table_inside}
use Rattle.nxt_heap.proofs.AfterMoves.{total_moved}
use Rattle.nxt_heap.proofs.Searched.{searched_anew}
use Rattle.nxt_heap.proofs.IntoHole.{movable, into_pool, into_fronts, into_moved}
use Rattle.nxt_heap.proofs.blocks.move_to.Goals as goal

pub get-from-requires : goal.get-from-requires
get-from-requires c = omega (arith, c.requires.full.within, table_inside c.args.pool.now c.args.at.now.table c.args.at.now.base c.requires.blocks.is_pool)

pub move_block-requires : goal.move_block-requires
move_block-requires c = movable c.args.pool.now c.args.at.now.table c.args.at.now.base c.args.row c.args.place c.requires.blocks.is_pool c.requires.full c.requires.above c.requires.word c.requires.hole

moves : (c : goal.After-end_after-arg-1) → Moves c.args.at.now.base (moved_to (dope_row c.args.pool.now c.args.at.now.table c.args.row).place c.args.place) c.args.pool.now c.move_block.new.pool c.args.at.now.table c.move_block.new.table
moves c =
    let p = c.requires.blocks.is_pool in
    c.move_block.ensures c.args.at.now.base c.requires.above (omega (arith, p.sound.above 0 (first_full c.args.pool.now c.args.at.now.table c.args.at.now.base p.sound), p.sound.place))

pub end_after-at-requires-clause-pool : goal.end_after-at-requires-clause-pool
end_after-at-requires-clause-pool c =
    into_pool c.args.pool.now c.args.at.now.table c.args.at.now.base c.args.row c.args.place c.requires.blocks.is_pool c.requires.full c.requires.above c.requires.word c.requires.hole c.move_block.new.pool c.move_block.new.table (moves c)

pub end_after-at-requires-clause-fronts : goal.end_after-at-requires-clause-fronts
end_after-at-requires-clause-fronts c =
    let from : c.word.result ≡ (dope_row c.args.pool.now c.args.at.now.table c.args.row).place / 4 = c.word.ensures ∙ ap (λ d. d.place / 4) c.get-from.ensures in
    rw (from, c.word-2.ensures) (into_fronts c.args.pool.now c.args.at.now.table c.args.at.now.base c.args.row c.args.place c.requires.blocks.is_pool c.requires.full c.requires.above c.requires.word c.requires.hole c.move_block.new.pool c.move_block.new.table (moves c)
    c.args.fronts.now c.requires.blocks.are_fronts)

pub end_after-at-requires-clause-moved : goal.end_after-at-requires-clause-moved
end_after-at-requires-clause-moved c =
    let from : c.get-from.result.place ≡ (dope_row c.args.pool.now c.args.at.now.table c.args.row).place = ap (λ d. d.place) c.get-from.ensures in
    rw from (into_moved c.args.pool.now c.args.at.now.table c.args.at.now.base c.args.row c.args.place c.requires.blocks.is_pool c.requires.full c.requires.above c.requires.word c.requires.hole c.move_block.new.pool c.move_block.new.table (moves c)
    (record c.args.at.now { table = c.move_block.new.table }) refl c.requires.blocks.end_is)

pub returns : goal.returns
returns c =
    let b = c.requires.blocks in
    let m = c.move_block.ensures c.args.at.now.base c.requires.above (omega (arith, b.is_pool.sound.above 0 (first_full c.args.pool.now c.args.at.now.table c.args.at.now.base b.is_pool.sound), b.is_pool.sound.place)) in
    let from : c.word.result ≡ (dope_row c.args.pool.now c.args.at.now.table c.args.row).place / 4 = c.word.ensures ∙ ap (λ d. d.place / 4) c.get-from.ensures in
    record {
      blocks = record {
        is_pool = into_pool c.args.pool.now c.args.at.now.table c.args.at.now.base c.args.row c.args.place b.is_pool c.requires.full c.requires.above c.requires.word c.requires.hole c.move_block.new.pool c.move_block.new.table m;
        word = b.word;
        are_fronts = rw (from, c.word-2.ensures) (into_fronts c.args.pool.now c.args.at.now.table c.args.at.now.base c.args.row c.args.place b.is_pool c.requires.full c.requires.above c.requires.word c.requires.hole c.move_block.new.pool c.move_block.new.table m c.args.fronts.now b.are_fronts);
        end_is = c.end_after-at.ensures;
        footprint_is = omega (arith, b.footprint_is, total_moved c.args.at.now.base (moved_to (dope_row c.args.pool.now c.args.at.now.table c.args.row).place c.args.place) c.args.pool.now c.move_block.new.pool c.args.at.now.table c.move_block.new.table m b.is_pool.sound.some);
        searched = searched_anew c.move_block.new.pool c.move_block.new.table c.args.at.now.base c.args.at.now.sought (into_pool c.args.pool.now c.args.at.now.table c.args.at.now.base c.args.row c.args.place b.is_pool c.requires.full c.requires.above c.requires.word c.requires.hole c.move_block.new.pool c.move_block.new.table m) b.word;
      };
      moves = m;
      base = refl;
      footprint = refl;
    }
