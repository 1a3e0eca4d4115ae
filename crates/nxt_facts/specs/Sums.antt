-- Sums over numbers.
use Rattle.std.specs.Prelude.{ℕ, zero, suc, ◌+◌}

-- of the numbers below another
abbrev pub sum_below : (ℕ → ℕ) → ℕ → ℕ
sum_below w zero = 0
sum_below w (suc n) = sum_below w n + w n
