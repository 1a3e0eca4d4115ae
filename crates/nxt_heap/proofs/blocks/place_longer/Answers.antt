use Rattle.std.proofs.Common.{◌-◌, arith}
use Rattle.nxt_rows.specs.Rows.{dope_row}
use Rattle.nxt_compact.specs.Pools.{block_bytes}
use Rattle.nxt_heap.proofs.IntoHole.{hole_open}
use Rattle.nxt_heap.proofs.Needs.{moves_into, slides}
use Rattle.nxt_heap.proofs.Rooms.{smaller_hole, moved_room}
use Rattle.nxt_heap.proofs.blocks.place_longer.Goals as goal

pub move_to-requires-clause-hole : goal.move_to-requires-clause-hole
move_to-requires-clause-hole c =
    let block = block_bytes (dope_row c.args.pool.now c.args.at.now.table c.args.row) in
    hole_open c.args.pool.now c.args.at.now.table c.args.row c.in-Some.place block (smaller_hole c.args.pool.now c.args.at.now.table c.in-Some.place c.args.bytes block (omega (arith, c.requires.longer)) c.in-Some.ensures.some.hole)

pub returns-in-Some-clause-room : goal.returns-in-Some-clause-room
returns-in-Some-clause-room c =
    rw c.move_to.ensures.base
    (moved_room c.args.pool.now c.move_to.new.pool c.args.at.now.table c.move_to.new.at.table c.args.at.now.base c.args.row c.args.bytes c.in-Some.place c.requires.blocks.is_pool c.requires.full c.requires.longer c.in-Some.ensures.some c.move_to.ensures.moves)

pub returns-in-Some-clause-need : goal.returns-in-Some-clause-need
returns-in-Some-clause-need c =
    moves_into c.args.pool.now c.move_to.new.pool c.args.at.now c.move_to.new.at c.args.row c.args.bytes c.in-Some.place c.requires.blocks.is_pool c.requires.full (omega (arith, c.requires.longer)) c.requires.behind c.in-Some.ensures.some c.move_to.ensures.moves

pub returns-in-None-clause-need : goal.returns-in-None-clause-need
returns-in-None-clause-need c =
    slides c.args.pool.now c.slide.new.pool c.args.at.now c.slide.new.at c.args.row c.args.bytes c.slide.result (c.args.bytes - block_bytes (dope_row c.args.pool.now c.args.at.now.table c.args.row)) c.requires.blocks.is_pool c.requires.full c.requires.behind c.in-None.ensures.none c.slide.ensures.moves.moves
