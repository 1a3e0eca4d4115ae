-- The list gets the other's length and then its bytes.
use Rattle.std.proofs.Common.{◌∙◌, sym, ap, subst, arith}
use Rattle.nxt_heap.specs.Lists.{with_bytes, bytes_at}
use Rattle.nxt_heap.proofs.Changed.{copied}
use Rattle.nxt_types.specs.Pool.{round4}
use Rattle.nxt_heap.specs.Lists.{base_of}
use Rattle.nxt_heap.specs.Moves.{MovesAtNeed}
use Rattle.nxt_heap.proofs.Needs.{then_stay}
use Rattle.nxt_heap.proofs.Laws.Moves.{none_moves, none_then}
use Rattle.nxt_heap.proofs.heap.Heap.copy_list.Goals as goal

pub returns-clause-ok : goal.returns-clause-ok
returns-clause-ok c =
    let h = c.args.self.now.lists in
    c.copy.ensures.lists
    ∙ ap (λ g. with_bytes g c.args.to 0 (bytes_at g c.args.from)) c.in_ok-resize.ensures.ok
    ∙ copied h c.args.to c.args.from c.size_of-bytes.result c.requires.alive (sym c.size_of-bytes.ensures)

pub returns-clause-moves : goal.returns-clause-moves
returns-clause-moves c =
    let h = c.args.self.now in
    subst (λ m. MovesAtNeed (base_of h.lists) h.pool c.copy.new.self.pool c.args.to (round4 m)) c.size_of-bytes.ensures
    (then_stay (base_of h.lists) h.pool c.resize.new.self.pool c.copy.new.self.pool c.args.to (round4 c.size_of-bytes.result) c.in_ok-resize.ensures.moves c.copy.ensures.stay)

pub returns-clause-shorter : goal.returns-clause-shorter
returns-clause-shorter c fits =
    let mid = c.resize.new.self.pool in
    none_then c.args.self.now.pool mid c.copy.new.self.pool (c.in_ok-resize.ensures.shorter (omega (arith, fits, c.size_of-bytes.ensures))) (none_moves mid c.copy.new.self.pool c.copy.ensures.stay)
