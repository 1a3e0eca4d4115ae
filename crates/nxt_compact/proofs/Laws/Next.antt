-- The next block of a pool, by place.
use Rattle.std.proofs.Common.{ℕ, ◌≤◌, List}
use Rattle.nxt_rows.specs.Rows.{dope_row}
use Rattle.nxt_compact.specs.Pools.{IsFull}

-- the lowest block that begins at a place or above it
pub record IsNext (pool : List ℕ) (table at r : ℕ) : Type 0 where
  pub full : IsFull pool table r
  pub here : at ≤ (dope_row pool table r).place
  pub first : (q : ℕ) → IsFull pool table q → at ≤ (dope_row pool table q).place → (dope_row pool table r).place ≤ (dope_row pool table q).place
