-- The blocks of a pool, by the rows of the table in it, and how they move.
use Rattle.std.specs.Prelude.{◌≡◌, ◌≢◌, ℕ, ◌+◌, ◌-◌, ◌*◌, ◌<◌, ◌≤◌, min, if◌then◌else◌, nat_lt, List, length, map, filter, slice_index}
use Rattle.std.specs.List.{range_with_len, SameBelow, SameFrom}
use Rattle.nxt_types.specs.Pool.{round4}
use Rattle.nxt_model.specs.Reading.{Block}
use Rattle.nxt_blocks.specs.Blocks.{has_bytes, total, packed, unsettled, place_after, slid_place}
use Rattle.nxt_blocks.specs.Standing.{IsApart}
use Rattle.nxt_rows.specs.Rows.{dope_row, row_count}
use Rattle.nxt_rows.specs.declared.DopeRow.{DopeRow}

-- ---- blocks

-- the bytes of a row's block; for row 0 those of the table
unfoldable pub block_bytes : DopeRow → ℕ
block_bytes row = round4 (row.count * row.stride)

abbrev pub block_of : List ℕ → ℕ → ℕ → Block
block_of pool table r = record { place = (dope_row pool table r).place; bytes = block_bytes (dope_row pool table r) }

-- the table and each list that has bytes
unfoldable pub blocks_in : List ℕ → ℕ → List Block
blocks_in pool table = filter has_bytes (map (block_of pool table) (range_with_len 0 (row_count pool table)))

-- a row of the table that has a block
pub record IsFull (pool : List ℕ) (table r : ℕ) : Type 0 where
  pub within : r < row_count pool table
  pub some : 0 < block_bytes (dope_row pool table r)

-- row 0 tells where the table stands, and the blocks share no byte and lie between the static bytes and the pool's end
pub record IsSound (pool : List ℕ) (table base : ℕ) : Type 0 where
  pub size : length pool ≤ 65536
  pub some : 0 < row_count pool table
  pub place : (dope_row pool table 0).place ≡ table
  pub stride : (dope_row pool table 0).stride ≡ 10
  pub apart : (q r : ℕ) → IsFull pool table q → IsFull pool table r → q ≢ r → IsApart (block_of pool table q) (block_of pool table r)
  pub above : (r : ℕ) → IsFull pool table r → base ≤ (dope_row pool table r).place
  pub within : (r : ℕ) → IsFull pool table r → (dope_row pool table r).place + block_bytes (dope_row pool table r) ≤ length pool

-- ---- moves

-- the row somewhere else, if it has a block
abbrev pub row_at : (ℕ → ℕ) → DopeRow → DopeRow
row_at to row = record row { place = if nat_lt 0 (block_bytes row) then to row.place else row.place }

-- each block stands where `to` tells, with its bytes, and nothing else of the rows has changed
pub record Moves (base : ℕ) (to : ℕ → ℕ) (old new : List ℕ) (table table' : ℕ) : Type 0 where
  pub size : length new ≡ length old
  pub told : table' ≡ to table
  pub rows : (r : ℕ) → r < row_count old table → dope_row new table' r ≡ row_at to (dope_row old table r)
  pub bytes : (r k : ℕ) → 0 < r → r < row_count old table → k < block_bytes (dope_row old table r)
      → slice_index new (to (dope_row old table r).place + k) ≡ slice_index old ((dope_row old table r).place + k)
  pub below : (k : ℕ) → k < base → slice_index new k ≡ slice_index old k

-- what `compact` promises
pub record Compacts (base k : ℕ) (old new : List ℕ) (table table' settled : ℕ) : Type 0 where
  pub moves : Moves base (place_after k base (blocks_in old table)) old new table table'
  pub count : settled ≡ min k (unsettled base (blocks_in old table))

-- ---- room

-- the pool holds the blocks with so many bytes in the row's one
pub record HasRoom (pool : List ℕ) (table base row bytes : ℕ) : Type 0 where
  pub sound : IsSound pool table base
  pub within : row < row_count pool table
  pub fits : base + total (blocks_in pool table) + round4 bytes ≤ length pool + block_bytes (dope_row pool table row)

-- where a block stands once room for so many bytes more is open behind the row's block
abbrev pub slid_in : List ℕ → ℕ → ℕ → ℕ → ℕ → ℕ → ℕ
slid_in pool table base row more place = slid_place base (blocks_in pool table) (dope_row pool table row).place more place

-- the row has that place, and no other byte has changed
pub record SetsPlace (pool new : List ℕ) (table row place : ℕ) : Type 0 where
  pub own : dope_row new table row ≡ record (dope_row pool table row) { place = place }
  pub below : SameBelow pool new (table + 10 * row)
  pub above : SameFrom pool new (table + 10 * row + 10)

-- all gaps close, and room for so many bytes is open at the row's place: behind its block, or above all others where it
-- has none
pub record Opens (base row bytes : ℕ) (old new : List ℕ) (table table' : ℕ) : Type 0 where
  pub behind : 0 < block_bytes (dope_row old table row)
      → Moves base (slid_in old table base row (round4 bytes - block_bytes (dope_row old table row))) old new table table'
  pub idle : block_bytes (dope_row old table row) ≡ 0 → bytes ≡ 0 → Moves base (packed base (blocks_in old table)) old new table table'
  pub on_top : block_bytes (dope_row old table row) ≡ 0 → 0 < bytes
      → (packs : List ℕ) × Moves base (packed base (blocks_in old table)) old packs table table' × SetsPlace packs new table' row (base + total (blocks_in old table))
