-- A list that has got its length and then its bytes.
use Rattle.std.proofs.Common.{◌∙◌, ap, length}
use Rattle.nxt_heap.specs.Lists.{with_bytes}
use Rattle.nxt_heap.proofs.Changed.{stored_whole}
use Rattle.nxt_types.specs.Pool.{round4}
use Rattle.nxt_heap.specs.Lists.{base_of}
use Rattle.nxt_heap.proofs.Needs.{then_stay}
use Rattle.nxt_heap.proofs.Laws.Moves.{none_moves, none_then}
use Rattle.nxt_heap.proofs.heap.Heap.set_list.Goals as goal

pub returns-clause-ok : goal.returns-clause-ok
returns-clause-ok c =
    c.write.ensures.lists
    ∙ ap (λ h. with_bytes h c.args.row 0 c.args.bytes.now) c.in_ok-resize.ensures.ok
    ∙ stored_whole c.args.self.now.lists c.args.row c.args.bytes.now c.requires.alive

pub returns-clause-moves : goal.returns-clause-moves
returns-clause-moves c =
    let h = c.args.self.now in
    then_stay (base_of h.lists) h.pool c.resize.new.self.pool c.write.new.self.pool c.args.row (round4 (length c.args.bytes.now)) c.in_ok-resize.ensures.moves c.write.ensures.stay

pub returns-clause-shorter : goal.returns-clause-shorter
returns-clause-shorter c fits =
    let mid = c.resize.new.self.pool in
    none_then c.args.self.now.pool mid c.write.new.self.pool (c.in_ok-resize.ensures.shorter fits) (none_moves mid c.write.new.self.pool c.write.ensures.stay)
