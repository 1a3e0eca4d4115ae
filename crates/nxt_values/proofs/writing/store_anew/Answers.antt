-- What is freed leaves room for what is filled.
use Rattle.nxt_types.specs.Shapes.{tree}
use Rattle.nxt_values.proofs.Free.Emptied.{emptied_room}
use Rattle.nxt_values.proofs.writing.store_anew.Goals as goal

pub fill-requires-clause-pool : goal.fill-requires-clause-pool
fill-requires-clause-pool c =
    (emptied_room c.args.entries.now c.args.heap.now.lists c.free_lists.new.heap.lists (tree c.args.shape.now) c.args.at c.free_lists.ensures c.requires.pool c.requires.region c.requires.holds c.requires.own c.requires.room).pool

pub fill-requires-clause-region : goal.fill-requires-clause-region
fill-requires-clause-region c =
    (emptied_room c.args.entries.now c.args.heap.now.lists c.free_lists.new.heap.lists (tree c.args.shape.now) c.args.at c.free_lists.ensures c.requires.pool c.requires.region c.requires.holds c.requires.own c.requires.room).there

pub fill-requires-clause-room : goal.fill-requires-clause-room
fill-requires-clause-room c =
    (emptied_room c.args.entries.now c.args.heap.now.lists c.free_lists.new.heap.lists (tree c.args.shape.now) c.args.at c.free_lists.ensures c.requires.pool c.requires.region c.requires.holds c.requires.own c.requires.room).room
