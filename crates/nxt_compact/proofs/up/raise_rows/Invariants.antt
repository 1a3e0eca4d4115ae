use Rattle.std.proofs.Common.{◌≡◌, ℕ, ◌+◌, ◌*◌, ◌<◌, ◌≤◌, ◌⊎◌, slice_index}
use Rattle.nxt_rows.specs.Rows.{dope_row}
use Rattle.nxt_compact.specs.Pools.{row_at}
use Rattle.nxt_compact.specs.Steps.{up_from}
use Rattle.nxt_compact.proofs.up.raise_rows.Given as goal

abbrev pub invariant-loop-row : goal.invariant-loop-row
invariant-loop-row l =
    ((r : ℕ) → r < l.row → dope_row l.pool l.table r ≡ row_at (up_from l.above l.more) (dope_row l.initial.pool l.table r))
    × ((r : ℕ) → l.row ≤ r → dope_row l.pool l.table r ≡ dope_row l.initial.pool l.table r)
    × ((k : ℕ) → (k < l.table) ⊎ (l.table + 10 * l.rows ≤ k) → slice_index l.pool k ≡ slice_index l.initial.pool k)
