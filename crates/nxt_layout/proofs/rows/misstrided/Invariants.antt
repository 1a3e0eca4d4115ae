-- The least so far, and those of the arrays that are left.
use Rattle.std.proofs.Common.{◌≡◌, drop, map}
use Rattle.nxt_table.specs.Inside.Owners.{least_of}
use Rattle.nxt_layout.specs.Inside.RowPasses.{least_of_all}
use Rattle.nxt_layout.proofs.rows.misstrided.Given as goal

abbrev pub invariant-loop-array : goal.invariant-loop-array
invariant-loop-array l = least_of l.found (least_of_all (map (λ a. a.misstrided) (drop l.array-index l.arrays))) ≡ least_of_all (map (λ a. a.misstrided) l.arrays)
