-- What was counted so far, and what is still to be counted.
use Rattle.nxt_types.specs.Shapes.{tree}
use Rattle.nxt_lists.specs.Pieces.{many_filled, size_of_each}
use Rattle.nxt_lists.proofs.Counted.{ManyLeft}
use Rattle.nxt_lists.proofs.building.size_of_many.Given as goal

abbrev pub invariant-loop : goal.invariant-loop
invariant-loop l =
    ManyLeft (tree l.shape) l.count l.counter l.sum l.left (size_of_each (tree l.shape) (many_filled (tree l.shape) l.count l.from))
