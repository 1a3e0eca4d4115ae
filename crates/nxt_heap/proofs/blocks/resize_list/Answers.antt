use Rattle.std.proofs.Common.{◌<◌, sym, subst, arith}
use Rattle.nxt_types.proofs.Laws.Pool.{le-round4}
use Rattle.nxt_types.specs.Pool.{round4}
use Rattle.nxt_heap.specs.Moves.{MovesAtNeed, NoneMoves}
use Rattle.nxt_heap.proofs.Shorter.{emptied_stays, shorter_stays}
use Rattle.nxt_heap.specs.Inside.Pool.{IsRoom, HasLength, MakesRoom, pool_at}
use Rattle.nxt_heap.proofs.Needs.{no_bytes, relisted}
use Rattle.nxt_heap.proofs.AfterRoom.{still_list, then_length}
use Rattle.nxt_heap.proofs.blocks.resize_list.Goals as goal

pub make_room-place-requires-clause-may : goal.make_room-place-requires-clause-may
make_room-place-requires-clause-may c =
    let b = c.requires.blocks in
    record {
      within = c.requires.list.within;
      word = omega (arith, c.round4-room.ensures);
      some = omega (arith, c.round4-room.ensures, le-round4 c.args.bytes, c.if-bytes-eq0.false);
      fits = omega (arith, c.round4-room.ensures, c.requires.fits, b.footprint_is);
    }

pub set_length-requires-clause-list : goal.set_length-requires-clause-list
set_length-requires-clause-list c =
    let m = c.make_room-place.ensures.moves in
    still_list c.args.pool.now c.args.fronts.now c.make_room-place.new.pool c.make_room-place.new.fronts c.args.at.now c.make_room-place.new.at m.0 c.args.row c.args.bytes c.requires.blocks m.1 c.requires.list

pub set_length-requires-clause-room : goal.set_length-requires-clause-room
set_length-requires-clause-room c =
    subst (IsRoom c.make_room-place.new.pool c.make_room-place.new.at.table c.make_room-place.new.at.base c.args.row c.make_room-place.result) c.round4-room.ensures c.make_room-place.ensures.room

pub returns-then-bytes-eq0-clause-length : goal.returns-then-bytes-eq0-clause-length
returns-then-bytes-eq0-clause-length c = subst (HasLength c.args.pool.now c.drop_bytes.new.pool c.drop_bytes.new.fronts c.args.at.now c.drop_bytes.new.at c.args.row) (sym c.if-bytes-eq0.true) c.drop_bytes.ensures.length

pub returns-clause-length : goal.returns-clause-length
returns-clause-length c =
    let m = c.make_room-place.ensures.moves in
    then_length c.args.pool.now c.args.fronts.now c.make_room-place.new.pool c.make_room-place.new.fronts c.args.at.now c.make_room-place.new.at m.0 c.args.row c.args.bytes c.requires.blocks m.1 c.requires.list
    c.set_length.new.pool c.set_length.new.fronts c.set_length.new.at c.set_length.ensures.length

pub returns-then-bytes-eq0-clause-need : goal.returns-then-bytes-eq0-clause-need
returns-then-bytes-eq0-clause-need c =
    let r = c.drop_bytes.ensures.row in
    subst (λ table. MovesAtNeed c.args.at.now.base (pool_at c.args.pool.now c.args.at.now) (record { bytes = c.drop_bytes.new.pool; table = table }) c.args.row (round4 c.args.bytes)) (sym c.drop_bytes.ensures.table)
    (no_bytes c.args.pool.now c.drop_bytes.new.pool c.args.at.now c.args.row (round4 c.args.bytes) c.requires.blocks.is_pool c.requires.list.above (omega (arith, c.if-bytes-eq0.true)) r)

pub returns-clause-need : goal.returns-clause-need
returns-clause-need c =
    let m = c.make_room-place.ensures.moves in
    let s = c.set_length.ensures in
    let some : 0 < c.args.bytes = omega (arith, c.if-bytes-eq0.false) in
    let l = still_list c.args.pool.now c.args.fronts.now c.make_room-place.new.pool c.make_room-place.new.fronts c.args.at.now c.make_room-place.new.at m.0 c.args.row c.args.bytes c.requires.blocks m.1 c.requires.list in
    subst (λ table. MovesAtNeed c.args.at.now.base (pool_at c.args.pool.now c.args.at.now) (record { bytes = c.set_length.new.pool; table = table }) c.args.row (round4 c.args.bytes)) (sym s.table)
    (relisted c.args.pool.now c.args.fronts.now c.make_room-place.new.pool c.make_room-place.new.fronts c.set_length.new.pool c.args.at.now c.make_room-place.new.at m.0 c.args.row c.args.bytes c.make_room-place.result (round4 c.args.bytes) c.requires.blocks.is_pool m.1 l some
    (subst (λ n. MakesRoom c.args.pool.now c.make_room-place.new.pool c.args.at.now c.make_room-place.new.at c.args.row n c.make_room-place.result) c.round4-room.ensures c.make_room-place.ensures.need) s.row)

pub returns-then-bytes-eq0-clause-shorter : goal.returns-then-bytes-eq0-clause-shorter
returns-then-bytes-eq0-clause-shorter c fits =
    subst (λ table. NoneMoves (pool_at c.args.pool.now c.args.at.now) (record { bytes = c.drop_bytes.new.pool; table = table })) (sym c.drop_bytes.ensures.table)
    (emptied_stays c.args.pool.now c.drop_bytes.new.pool c.args.at.now c.args.row c.requires.list.above c.requires.blocks.is_pool.sound.some c.drop_bytes.ensures.row)

pub returns-clause-shorter : goal.returns-clause-shorter
returns-clause-shorter c fits =
    let m = c.make_room-place.ensures.moves in
    let s = c.set_length.ensures in
    let some : 0 < round4 c.args.bytes = omega (arith, c.if-bytes-eq0.false, le-round4 c.args.bytes) in
    subst (λ table. NoneMoves (pool_at c.args.pool.now c.args.at.now) (record { bytes = c.set_length.new.pool; table = table })) (sym s.table)
    (shorter_stays c.args.pool.now c.args.fronts.now c.make_room-place.new.pool c.make_room-place.new.fronts c.set_length.new.pool c.args.at.now c.make_room-place.new.at m.0 c.args.row c.args.bytes c.make_room-place.result (round4 c.args.bytes) c.requires.blocks c.requires.list some fits m.1 s.row
    (subst (λ table. MovesAtNeed c.args.at.now.base (pool_at c.args.pool.now c.args.at.now) (record { bytes = c.set_length.new.pool; table = table }) c.args.row (round4 c.args.bytes)) s.table (returns-clause-need c)))
