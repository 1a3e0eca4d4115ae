-- Sizes in the pool.
use Rattle.std.proofs.Common.{ℕ, ◌≤◌, arith}
use Rattle.nxt_types.specs.Pool.{round4}

pub le-round4 : (n : ℕ) → n ≤ round4 n
le-round4 n = omega arith
