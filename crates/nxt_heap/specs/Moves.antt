-- Where blocks stand after a growth: they move only at need.
use Rattle.std.specs.Prelude.{◌≡◌, ◌≢◌, ℕ, ◌+◌, ◌-◌, ◌<◌, ◌≤◌, Bool, true, false, length}
use Rattle.nxt_types.specs.Pool.{pool_size}
use Rattle.nxt_blocks.specs.Blocks.{is_open, unsettled, IsFirstFit}
use Rattle.nxt_rows.specs.Rows.{dope_row, row_count}
use Rattle.nxt_compact.specs.Pools.{block_bytes, blocks_in, IsFull}
use Rattle.nxt_heap.specs.Lists.{Pool, HeapViews, base_of}

-- where a row's block stands. The table is that of row 0, and a list without bytes stands nowhere
abbrev pub place_in : Pool → ℕ → ℕ
place_in p row = (dope_row p.bytes p.table row).place

-- the row's list, or the table, has bytes
abbrev pub HasBlock : Pool → ℕ → Type 0
HasBlock p row = IsFull p.bytes p.table row

-- the block and the bytes up to the next one hold so many bytes
abbrev pub holds_behind : ℕ → Pool → ℕ → ℕ → Bool
holds_behind base p row bytes =
    let block = block_bytes (dope_row p.bytes p.table row) in
    is_open base pool_size (blocks_in p.bytes p.table) (place_in p row + block) (bytes - block)

-- the lowest hole that holds so many bytes, with all blocks in their places
abbrev pub IsLowestHole : ℕ → Pool → ℕ → ℕ → Type 0
IsLowestHole base p bytes place = IsFirstFit base pool_size (blocks_in p.bytes p.table) bytes place

-- no block moves, but that of one row
abbrev pub OthersStay : Pool → Pool → ℕ → Type 0
OthersStay old new row = (q : ℕ) → HasBlock old q → q ≢ row → place_in new q ≡ place_in old q

-- no block moves
abbrev pub BlocksStay : Pool → Pool → Type 0
BlocksStay old new = (q : ℕ) → HasBlock old q → HasBlock new q × (place_in new q ≡ place_in old q)

-- no row of the table changes
pub record RowsStay (old new : Pool) : Type 0 where
  pub table : new.table ≡ old.table
  pub count : row_count new.bytes new.table ≡ row_count old.bytes old.table
  pub rows : (q : ℕ) → q < row_count old.bytes old.table → dope_row new.bytes new.table q ≡ dope_row old.bytes old.table q

-- no block moves, and none is new; one may go
pub record NoneMoves (old new : Pool) : Type 0 where
  pub table : new.table ≡ old.table
  pub blocks : (q : ℕ) → HasBlock new q → HasBlock old q × (place_in new q ≡ place_in old q)

-- a row's block gets so many bytes. Where it can, it stays; else it goes to the lowest hole; and only where there is none do
-- others move, which keep their order. Another block that stands right above the static bytes stays there
pub record MovesAtNeed (base : ℕ) (old new : Pool) (row bytes : ℕ) : Type 0 where
  pub still : (q : ℕ) → HasBlock old q → q ≢ row → HasBlock new q
  pub own : 0 < bytes → HasBlock new row
  pub behind : holds_behind base old row bytes ≡ true → OthersStay old new row × (0 < bytes → place_in new row ≡ place_in old row)
  pub hole : (place : ℕ) → holds_behind base old row bytes ≡ false → IsLowestHole base old bytes place → OthersStay old new row × (0 < bytes → place_in new row ≡ place)
  pub order : (q r : ℕ) → HasBlock old q → HasBlock old r → q ≢ row → r ≢ row → place_in old q < place_in old r → place_in new q < place_in new r
  pub front : (q : ℕ) → HasBlock old q → q ≢ row → place_in old q ≡ base → place_in new q ≡ base

-- a row is taken, or the table grows by one. Where a row is free no block moves
pub record GrowsTable (base : ℕ) (old new : Pool) (free : Bool) (bytes : ℕ) : Type 0 where
  pub stays : free ≡ true → BlocksStay old new
  pub grows : free ≡ false → MovesAtNeed base old new 0 bytes

-- the table stands right above the static bytes, and no block has a gap below it
pub record IsPacked (base : ℕ) (p : Pool) : Type 0 where
  pub table : p.table ≡ base
  pub gaps : unsettled base (blocks_in p.bytes p.table) ≡ 0

-- the table gets no shorter, and where it gets no longer it stays right above the static bytes, of which there are as many
pub record KeepsFront (old new : HeapViews) : Type 0 where
  pub base : base_of new.lists ≡ base_of old.lists
  pub rows : length old.lists.by_row ≤ length new.lists.by_row
  pub front : length new.lists.by_row ≡ length old.lists.by_row → old.pool.table ≡ base_of old.lists → new.pool.table ≡ base_of old.lists
