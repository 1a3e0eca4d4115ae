use Rattle.std.proofs.Common.{◌-◌, refl, ap, sym, subst, arith}
use Rattle.nxt_rows.specs.Rows.{dope_row}
use Rattle.nxt_compact.specs.Pools.{block_bytes, Moves, slid_in}
use Rattle.nxt_heap.specs.Inside.Pool.{IsRoom}
use Rattle.nxt_heap.proofs.Begins.{table_inside}
use Rattle.nxt_heap.proofs.AfterMoves.{moved_count, total_moved}
use Rattle.nxt_heap.proofs.Searched.{searched_anew}
use Rattle.nxt_heap.proofs.Slid.{room_of, has_room, slid_pool, slid_room}
use Rattle.nxt_heap.proofs.blocks.slide.Goals as goal

pub open_gap-requires : goal.open_gap-requires
open_gap-requires c = let b = c.requires.blocks in has_room c.args.pool.now c.args.at.now.table c.args.at.now.base c.args.row c.args.bytes b.is_pool b.word c.requires.may c.requires.longer

moves : (c : goal.After-refresh-arg-1) → Moves c.args.at.now.base (slid_in c.args.pool.now c.args.at.now.table c.args.at.now.base c.args.row (c.args.bytes - block_bytes (dope_row c.args.pool.now c.args.at.now.table c.args.row))) c.args.pool.now c.open_gap.new.pool c.args.at.now.table c.open_gap.new.table
moves c =
    subst (λ n. Moves c.args.at.now.base (slid_in c.args.pool.now c.args.at.now.table c.args.at.now.base c.args.row (n - block_bytes (dope_row c.args.pool.now c.args.at.now.table c.args.row))) c.args.pool.now c.open_gap.new.pool c.args.at.now.table c.open_gap.new.table)
    (room_of c.args.bytes c.requires.may.word) (c.open_gap.ensures.behind c.requires.full.some)

pub refresh-at-requires-clause-pool : goal.refresh-at-requires-clause-pool
refresh-at-requires-clause-pool c =
    let b = c.requires.blocks in
    (c.args.at.now.base, slid_pool c.args.pool.now c.args.at.now.table c.args.at.now.base c.args.row c.args.bytes b.is_pool b.word c.requires.may c.requires.longer c.requires.full c.open_gap.new.pool c.open_gap.new.table (moves c))

pub get-requires : goal.get-requires
get-requires c =
    let b = c.requires.blocks in
    let to = slid_in c.args.pool.now c.args.at.now.table c.args.at.now.base c.args.row (c.args.bytes - block_bytes (dope_row c.args.pool.now c.args.at.now.table c.args.row)) in
    let m : Moves c.args.at.now.base to c.args.pool.now c.open_gap.new.pool c.args.at.now.table c.open_gap.new.table =
    subst (λ n. Moves c.args.at.now.base (slid_in c.args.pool.now c.args.at.now.table c.args.at.now.base c.args.row (n - block_bytes (dope_row c.args.pool.now c.args.at.now.table c.args.row))) c.args.pool.now c.open_gap.new.pool c.args.at.now.table c.open_gap.new.table)
    (room_of c.args.bytes c.requires.may.word) (c.open_gap.ensures.behind c.requires.full.some) in
    let p = slid_pool c.args.pool.now c.args.at.now.table c.args.at.now.base c.args.row c.args.bytes b.is_pool b.word c.requires.may c.requires.longer c.requires.full c.open_gap.new.pool c.open_gap.new.table m in
    omega (arith, c.requires.full.within, moved_count c.args.at.now.base to c.args.pool.now c.open_gap.new.pool c.args.at.now.table c.open_gap.new.table m b.is_pool.sound.some, table_inside c.open_gap.new.pool c.open_gap.new.table c.args.at.now.base p)

slides : (c : goal.After-struct_known-1) → Moves c.args.at.now.base (slid_in c.args.pool.now c.args.at.now.table c.args.at.now.base c.args.row (c.args.bytes - block_bytes (dope_row c.args.pool.now c.args.at.now.table c.args.row))) c.args.pool.now c.open_gap.new.pool c.args.at.now.table c.open_gap.new.table
slides c =
    subst (λ n. Moves c.args.at.now.base (slid_in c.args.pool.now c.args.at.now.table c.args.at.now.base c.args.row (n - block_bytes (dope_row c.args.pool.now c.args.at.now.table c.args.row))) c.args.pool.now c.open_gap.new.pool c.args.at.now.table c.open_gap.new.table)
    (room_of c.args.bytes c.requires.may.word) (c.open_gap.ensures.behind c.requires.full.some)

pub returns-clause-moves : goal.returns-clause-moves
returns-clause-moves c =
    let b = c.requires.blocks in
    let to = slid_in c.args.pool.now c.args.at.now.table c.args.at.now.base c.args.row (c.args.bytes - block_bytes (dope_row c.args.pool.now c.args.at.now.table c.args.row)) in
    record {
      blocks = record {
        is_pool = slid_pool c.args.pool.now c.args.at.now.table c.args.at.now.base c.args.row c.args.bytes b.is_pool b.word c.requires.may c.requires.longer c.requires.full c.open_gap.new.pool c.open_gap.new.table (slides c);
        word = b.word;
        are_fronts = c.refresh-at.ensures.fronts;
        end_is = c.refresh-at.ensures.end;
        footprint_is = omega (arith, b.footprint_is, total_moved c.args.at.now.base to c.args.pool.now c.open_gap.new.pool c.args.at.now.table c.open_gap.new.table (slides c) b.is_pool.sound.some);
        searched = searched_anew c.open_gap.new.pool c.open_gap.new.table c.args.at.now.base c.args.at.now.sought (slid_pool c.args.pool.now c.args.at.now.table c.args.at.now.base c.args.row c.args.bytes b.is_pool b.word c.requires.may c.requires.longer c.requires.full c.open_gap.new.pool c.open_gap.new.table (slides c)) b.word;
      };
      moves = slides c;
      base = refl;
      footprint = refl;
    }

pub returns-clause-room : goal.returns-clause-room
returns-clause-room c =
    let b = c.requires.blocks in
    subst (λ n. IsRoom c.open_gap.new.pool c.open_gap.new.table c.args.at.now.base c.args.row n c.args.bytes) (sym (ap (λ d. d.place) c.get.ensures))
    (slid_room c.args.pool.now c.args.at.now.table c.args.at.now.base c.args.row c.args.bytes b.is_pool b.word c.requires.may c.requires.longer c.requires.full c.open_gap.new.pool c.open_gap.new.table (slides c))
