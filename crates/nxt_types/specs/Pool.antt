-- The measures of the pool.
use Rattle.std.specs.Prelude.{ℕ, ◌+◌, ◌*◌, ◌/◌}

-- the bytes of the pool
abbrev pub pool_size : ℕ
pool_size = 32768

-- the bytes of a row of the table of rows
abbrev pub row_size : ℕ
row_size = 10

-- the least multiple of 4 that is at least n
abbrev pub round4 : ℕ → ℕ
round4 n = (n + 3) / 4 * 4
