-- None was found so far.
use Rattle.std.proofs.Common.{◌≡◌, drop}
use Rattle.nxt_table.specs.Inside.Items.{first_from}
use Rattle.nxt_table.specs.Inside.Enclosing.{is_inner_mutex}
use Rattle.nxt_table.proofs.enclosing.inner_mutex.Given as goal

abbrev pub invariant-loop-i : goal.invariant-loop-i
invariant-loop-i l = first_from is_inner_mutex 0 l.placed ≡ first_from is_inner_mutex l.i (drop l.i l.placed)
