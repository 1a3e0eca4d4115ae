-- The blocks of a pool in the order of their places.
use Rattle.std.specs.Prelude.{◌≡◌, ℕ, ◌+◌, ◌*◌, ◌%◌, ◌<◌, List, All, Contains, slice_index}
use Rattle.std.specs.List.Sorted.{IsStrictlyIncreasing}
use Rattle.nxt_rows.specs.Rows.{dope_row}
use Rattle.nxt_compact.specs.Pools.{IsFull}

-- a place and a row in one number, so that numbers stand in the order of places
abbrev pub key : ℕ → ℕ → ℕ
key place row = 65536 * place + row

abbrev pub block_key : List ℕ → ℕ → ℕ → ℕ
block_key pool table r = key (dope_row pool table r).place r

-- the number is the key of a block
abbrev pub IsKey : List ℕ → ℕ → ℕ → Type 0
IsKey pool table n = (r : ℕ) × IsFull pool table r × (n ≡ block_key pool table r)

-- the first n are the keys of all blocks of the rows before this one
pub record Listed (pool : List ℕ) (table row : ℕ) (keys : List ℕ) (n : ℕ) : Type 0 where
  pub named : (i : ℕ) → i < n → IsKey pool table (slice_index keys i)
  pub all : (r : ℕ) → r < row → IsFull pool table r → (i : ℕ) × (i < n) × (slice_index keys i ≡ block_key pool table r)
  pub before : (i : ℕ) → i < n → slice_index keys i % 65536 < row
  pub rising : (i j : ℕ) → i < j → j < n → slice_index keys i % 65536 < slice_index keys j % 65536

-- the keys of all blocks, in ascending order
pub record IsOrder (pool : List ℕ) (table : ℕ) (keys : List ℕ) : Type 0 where
  pub named : All (IsKey pool table) keys
  pub all : (r : ℕ) → IsFull pool table r → Contains keys (block_key pool table r)
  pub ascending : IsStrictlyIncreasing keys
