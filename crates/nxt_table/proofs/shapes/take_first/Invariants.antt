-- What was taken, and what is left to take.
use Rattle.std.proofs.Common.{◌≡◌, ◌++◌, ◌-◌, drop, take, map}
use Rattle.nxt_types.specs.Shapes.{tree}
use Rattle.nxt_table.proofs.shapes.take_first.Given as goal

abbrev pub invariant-loop-done : goal.invariant-loop-done
invariant-loop-done l = record {
  taken : map tree l.shapes.items ++ take (l.count - l._done) (map tree l.stack.items) ≡ take l.count (map tree l.initial.stack.items);
  left : drop (l.count - l._done) (map tree l.stack.items) ≡ drop l.count (map tree l.initial.stack.items);
}
