-- Arrays are taken off up to the one that is next.
use Rattle.std.proofs.Common.{◌≡◌, All, length, map}
use Rattle.nxt_layout.specs.Rows.{Ground}
use Rattle.nxt_layout.specs.Inside.RowPasses.{opened, back_to}
use Rattle.nxt_layout.specs.Inside.Known.{IsOpen}
use Rattle.nxt_layout.proofs.reach.close.Given as goal

abbrev pub invariant-loop-array : goal.invariant-loop-array
invariant-loop-array l = record {
  rest : back_to l.array (map opened l.stack.items) ≡ back_to l.array (map opened l.initial.stack.items);
  open_still : (g : Ground) → All (IsOpen g) l.initial.stack.items → All (IsOpen g) l.stack.items;
}

abbrev pub decreases-loop-array : goal.decreases-loop-array
decreases-loop-array l = length l.stack.items
