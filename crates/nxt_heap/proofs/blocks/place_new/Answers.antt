use Rattle.std.proofs.Common.{refl}
use Rattle.nxt_compact.proofs.Laws.Going.{no_moves}
use Rattle.nxt_heap.proofs.Needs.{takes_hole, settles}
use Rattle.nxt_heap.proofs.Rooms.{hole_room, top_room}
use Rattle.nxt_heap.proofs.Searched.{searched_found}
use Rattle.nxt_heap.proofs.blocks.place_new.Goals as goal

pub returns-in-Some-clause-moves : goal.returns-in-Some-clause-moves
returns-in-Some-clause-moves c =
    let b = c.requires.blocks in (
      (λ p. p),
      record {
        blocks = record {
          is_pool = b.is_pool;
          word = b.word;
          are_fronts = b.are_fronts;
          end_is = b.end_is;
          footprint_is = b.footprint_is;
          searched = searched_found c.args.pool.now c.args.at.now.table c.args.at.now.base c.args.bytes c.in-Some.place b.is_pool c.requires.may.some c.in-Some.ensures.some;
        };
        moves = no_moves c.args.at.now.base c.args.pool.now c.args.at.now.table;
        base = refl;
        footprint = refl;
      },
    )

pub returns-in-Some-clause-room : goal.returns-in-Some-clause-room
returns-in-Some-clause-room c = hole_room c.args.pool.now c.args.at.now.table c.args.at.now.base c.args.row c.args.bytes c.in-Some.place c.requires.empty c.in-Some.ensures.some

pub returns-in-None-clause-room : goal.returns-in-None-clause-room
returns-in-None-clause-room c =
    let b = c.requires.blocks in
    let s = c.settle.ensures in
    rw (s.moves.base, s.moves.footprint, b.footprint_is)
    (top_room c.args.pool.now c.settle.new.pool c.args.at.now.table c.settle.new.at.table c.args.at.now.base c.args.row c.args.bytes c.settle.result b.is_pool b.word c.requires.may c.requires.empty s.compacts)

pub returns-in-Some-clause-need : goal.returns-in-Some-clause-need
returns-in-Some-clause-need c =
    let n = takes_hole c.args.pool.now c.args.at.now c.args.row c.args.bytes c.in-Some.place c.requires.blocks.is_pool c.requires.may.within c.requires.empty c.in-Some.ensures.some in
    record { behind = n.behind; hole = n.hole; order = n.order; front = n.front }

pub returns-in-None-clause-need : goal.returns-in-None-clause-need
returns-in-None-clause-need c =
    settles c.args.pool.now c.settle.new.pool c.args.at.now c.settle.new.at c.args.row c.args.bytes c.settle.new.at.footprint c.settle.result c.requires.blocks.is_pool c.requires.may.within c.requires.empty c.in-None.ensures.none c.settle.ensures.compacts
