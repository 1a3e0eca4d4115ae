-- What the steps of a compaction ask.
use Rattle.std.specs.Prelude.{◌≡◌, ◌≢◌, ℕ, ◌+◌, ◌<◌, ◌≤◌, ◌⊎◌, if◌then◌else◌, ◌==◌, nat_lt, List, length}
use Rattle.nxt_blocks.specs.Standing.{IsApart}
use Rattle.nxt_rows.specs.Rows.{dope_row, row_count}
use Rattle.nxt_compact.specs.Pools.{block_bytes, block_of, IsFull}

-- ---- a block that moves

-- the block that begins at p stands at another place
abbrev pub moved_to : ℕ → ℕ → ℕ → ℕ
moved_to p at place = if place == p then at else place

-- the table is where row 0 says, and neither the row's block nor its new place has a byte of another one
pub record IsMovable (pool : List ℕ) (table row at : ℕ) : Type 0 where
  pub size : length pool ≤ 65536
  pub place : (dope_row pool table 0).place ≡ table
  pub stride : (dope_row pool table 0).stride ≡ 10
  pub full : IsFull pool table row
  pub inside : (dope_row pool table row).place + block_bytes (dope_row pool table row) ≤ length pool
  pub room : at + block_bytes (dope_row pool table row) ≤ length pool
  pub table_inside : table + block_bytes (dope_row pool table 0) ≤ length pool
  pub own : (q : ℕ) → IsFull pool table q → q ≢ row → IsApart (block_of pool table row) (block_of pool table q)
  pub others : (q : ℕ) → IsFull pool table q → q ≢ row → IsApart (record { place = at; bytes = block_bytes (dope_row pool table row) }) (block_of pool table q)
  -- no list shares a byte with the table
  pub lists : (q : ℕ) → IsFull pool table q → 0 < q → IsApart (record { place = table; bytes = block_bytes (dope_row pool table 0) }) (block_of pool table q)

-- ---- blocks that move up

-- what begins at a place or above it begins higher by so many bytes
abbrev pub up_from : ℕ → ℕ → ℕ → ℕ
up_from above more place = if nat_lt place above then place else place + more

-- no block reaches over the place, and there is room at the pool's end
pub record IsLiftable (pool : List ℕ) (table above more : ℕ) : Type 0 where
  pub size : length pool ≤ 65536
  pub some : 0 < row_count pool table
  pub place : (dope_row pool table 0).place ≡ table
  pub stride : (dope_row pool table 0).stride ≡ 10
  pub gap : above + more ≤ length pool
  pub split : (q : ℕ) → IsFull pool table q → ((dope_row pool table q).place + block_bytes (dope_row pool table q) ≤ above) ⊎ (above ≤ (dope_row pool table q).place)
  pub room : (q : ℕ) → IsFull pool table q → (dope_row pool table q).place + block_bytes (dope_row pool table q) + more ≤ length pool
  pub lists : (q : ℕ) → IsFull pool table q → 0 < q
      → ((dope_row pool table q).place + block_bytes (dope_row pool table q) ≤ table)
      ⊎ (table + block_bytes (dope_row pool table 0) ≤ (dope_row pool table q).place)
