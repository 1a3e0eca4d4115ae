-- The arrays so far have their strides.
use Rattle.std.proofs.Common.{◌≡◌, length, take}
use Rattle.nxt_layout.specs.Inside.RowPasses.{HaveStrides}
use Rattle.nxt_layout.proofs.rows.strides_of.Given as goal

abbrev pub invariant-loop-array : goal.invariant-loop-array
invariant-loop-array l = record {
  count : length l.strides.items ≡ l.entries;
  strides : HaveStrides l.strides.items (take l.array-index l.arrays);
}
