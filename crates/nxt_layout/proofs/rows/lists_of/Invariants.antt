-- The lists so far, and those of the arrays that are left.
use Rattle.std.proofs.Common.{◌≡◌, ◌≤◌, ◌+◌, ◌*◌, ◌^◌, drop, sum_by}
use Rattle.nxt_layout.proofs.rows.lists_of.Given as goal

abbrev pub invariant-loop-array : goal.invariant-loop-array
invariant-loop-array l = record {
  same : l.lists + sum_by (λ a. a.lists) (drop l.array-index l.arrays) ≡ sum_by (λ a. a.lists) l.arrays;
  bound : l.lists ≤ 2 ^ 33 * l.array-index;
}
