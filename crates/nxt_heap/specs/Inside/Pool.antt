-- The inside of the heap: a pool with the static bytes first, and above them a table of rows and a block for each list that
-- has bytes, in any order and with gaps between them.
use Rattle.std.specs.Prelude.{◌≡◌, ◌≢◌, ℕ, zero, suc, ◌+◌, ◌*◌, ◌/◌, ◌%◌, ◌<◌, ◌≤◌, ◌⊎◌, true, false, List, [], ◌∷◌, ◌++◌, length, take, drop, map, nat_eq, slice_set, slice_index, Option, Some, None, if◌then◌else◌, ◌==◌}
use Rattle.std.specs.List.{list_any, range_with_len}
use Rattle.nxt_facts.specs.PutAt.{put_at}
use Rattle.nxt_types.specs.Pool.{round4, pool_size}
use Rattle.nxt_blocks.specs.Blocks.{total}
use Rattle.nxt_blocks.specs.Standing.{IsApart}
use Rattle.nxt_rows.specs.Rows.{dope_row, row_count, free_rows, IsFreeChain, no_place, empty_row_of}
use Rattle.nxt_rows.specs.declared.DopeRow.{DopeRow}
use Rattle.nxt_compact.specs.Pools.{block_bytes, block_of, blocks_in, IsFull, IsSound, Moves}
use Rattle.nxt_heap.specs.declared.blocks.BlockState.{BlockState}
use Rattle.nxt_heap.specs.Moves.{holds_behind, IsLowestHole, OthersStay, RowsStay}
use Rattle.nxt_heap.specs.Lists.{ByteList, Lists, Pool, HeapViews, of_length, with_length, IsFree, with_free, any_free, empty_list}

-- ---- what the pool holds

-- the bytes of a row's list
abbrev pub row_bytes : DopeRow → ℕ
row_bytes row = row.count * row.stride

-- a free row has the stride 0
abbrev pub list_of_row : List ℕ → DopeRow → Option ByteList
list_of_row pool row =
    if row.stride == 0 then None else Some (record { stride = row.stride; bytes = take (row_bytes row) (drop row.place pool) })

unfoldable pub list_in : List ℕ → ℕ → ℕ → Option ByteList
list_in pool table zero = None
list_in pool table (suc r) = list_of_row pool (dope_row pool table (suc r))

unfoldable pub lists_in : List ℕ → ℕ → List (Option ByteList)
lists_in pool table = map (list_in pool table) (range_with_len 0 (row_count pool table))

abbrev pub state_of : ℕ → Pool → Lists
state_of static_size p = record { static_bytes = take static_size p.bytes; by_row = lists_in p.bytes p.table }

-- the pool as callers see it
abbrev pub pool_at : List ℕ → BlockState → Pool
pool_at pool p = record { bytes = pool; table = p.table }

-- both views of a pool behind so many static bytes
abbrev pub views_of : ℕ → Pool → HeapViews
views_of static_size p = record { lists = state_of static_size p; pool = p }

-- bytes of a pool with its table at this place read as the static bytes and the lists
pub record Shows (bytes : List ℕ) (table : ℕ) (h : Lists) : Type 0 where
  pub static_bytes : take (length h.static_bytes) bytes ≡ h.static_bytes
  pub by_row : lists_in bytes table ≡ h.by_row

-- the lists with that number of bytes in this row
abbrev pub lists_with_length : List ℕ → ℕ → ℕ → ℕ → List (Option ByteList)
lists_with_length pool table row bytes =
    let found = dope_row pool table row in
    slice_set (lists_in pool table) row (Some (record {
      stride = found.stride;
      bytes = of_length bytes (take (row_bytes found) (drop found.place pool));
    }))

-- the lists with these bytes in this row's list
abbrev pub lists_with_bytes : List ℕ → ℕ → ℕ → ℕ → List ℕ → List (Option ByteList)
lists_with_bytes pool table row at bytes =
    let found = dope_row pool table row in
    slice_set (lists_in pool table) row (Some (record {
      stride = found.stride;
      bytes = put_at at bytes (take (row_bytes found) (drop found.place pool));
    }))

-- ---- where it stands

-- the blocks share no byte and begin at words, the free rows are the chain and have no elements, an empty list has no place,
-- and no row points back
pub record IsPool (pool : List ℕ) (table base : ℕ) : Type 0 where
  pub size : length pool ≡ pool_size
  pub sound : IsSound pool table base
  pub words : (r : ℕ) → IsFull pool table r → (dope_row pool table r).place % 4 ≡ 0
  pub empty : (r : ℕ) → 0 < r → r < row_count pool table → (dope_row pool table r).count ≡ 0 → (dope_row pool table r).place ≡ no_place
  pub bare : (r : ℕ) → 0 < r → r < row_count pool table → (dope_row pool table r).stride ≡ 0 → (dope_row pool table r).count ≡ 0
  pub backs : (r : ℕ) → r < row_count pool table → (dope_row pool table r).back ≡ 0
  pub chain : IsFreeChain pool table
  pub free : (r : ℕ) → 0 < r → r < row_count pool table → list_any (nat_eq r) (free_rows pool table) ≡ ((dope_row pool table r).stride == 0)

-- where the last block ends
pub record IsEnd (pool : List ℕ) (table end : ℕ) : Type 0 where
  pub most : (r : ℕ) → IsFull pool table r → (dope_row pool table r).place + block_bytes (dope_row pool table r) ≤ end
  pub is : (r : ℕ) × IsFull pool table r × ((dope_row pool table r).place + block_bytes (dope_row pool table r) ≡ end)

-- ---- fronts

-- the words of the pool
abbrev pub words : ℕ
words = 8192

-- the number that no row has
abbrev pub no_row : ℕ
no_row = 0xFFFF

-- for each word the row whose block begins there
pub record AreFronts (pool : List ℕ) (table : ℕ) (fronts : List ℕ) : Type 0 where
  pub size : length fronts ≡ words
  pub told : (r : ℕ) → IsFull pool table r → slice_index fronts ((dope_row pool table r).place / 4) ≡ r
  pub real : (w : ℕ) → w < words → slice_index fronts w ≢ no_row → IsFull pool table (slice_index fronts w) × ((dope_row pool table (slice_index fronts w)).place ≡ 4 * w)

-- the same for all rows but one, which has no front
pub record AreOtherFronts (pool : List ℕ) (table : ℕ) (fronts : List ℕ) (row : ℕ) : Type 0 where
  pub size : length fronts ≡ words
  pub told : (r : ℕ) → IsFull pool table r → r ≢ row → slice_index fronts ((dope_row pool table r).place / 4) ≡ r
  pub real : (w : ℕ) → w < words → slice_index fronts w ≢ no_row → (slice_index fronts w ≢ row) × IsFull pool table (slice_index fronts w) × ((dope_row pool table (slice_index fronts w)).place ≡ 4 * w)

-- the same for the rows before one
pub record AreFrontsBefore (pool : List ℕ) (table row : ℕ) (fronts : List ℕ) : Type 0 where
  pub size : length fronts ≡ words
  pub told : (r : ℕ) → r < row → IsFull pool table r → slice_index fronts ((dope_row pool table r).place / 4) ≡ r
  pub real : (w : ℕ) → w < words → slice_index fronts w ≢ no_row → (slice_index fronts w < row) × IsFull pool table (slice_index fronts w) × ((dope_row pool table (slice_index fronts w)).place ≡ 4 * w)

-- the first row with a front between two words
pub record IsFrontIn (fronts : List ℕ) (from to row : ℕ) : Type 0 where
  pub word : ℕ
  pub low : from ≤ word
  pub high : word < to
  pub is : slice_index fronts word ≡ row
  pub some : row ≢ no_row
  pub none : (w : ℕ) → from ≤ w → w < word → slice_index fronts w ≡ no_row

-- where the last of the blocks ends that begin below a place
pub record IsEndBelow (pool : List ℕ) (table below end : ℕ) : Type 0 where
  pub most : (r : ℕ) → IsFull pool table r → (dope_row pool table r).place < below → (dope_row pool table r).place + block_bytes (dope_row pool table r) ≤ end
  pub is : (r : ℕ) × IsFull pool table r × ((dope_row pool table r).place < below) × ((dope_row pool table r).place + block_bytes (dope_row pool table r) ≡ end)

-- ---- room

-- the bytes from a place on lie in the pool and in no block
pub record IsHole (pool : List ℕ) (table at bytes : ℕ) : Type 0 where
  pub within : at + bytes ≤ length pool
  pub others : (q : ℕ) → IsFull pool table q → IsApart (record { place = at; bytes = bytes }) (block_of pool table q)

-- the same, but for the bytes of one row's own block
pub record IsOpenTo (pool : List ℕ) (table row at bytes : ℕ) : Type 0 where
  pub within : at + bytes ≤ length pool
  pub others : (q : ℕ) → IsFull pool table q → q ≢ row → IsApart (record { place = at; bytes = bytes }) (block_of pool table q)

-- no block reaches over a place
abbrev pub IsClean : List ℕ → ℕ → ℕ → Type 0
IsClean pool table at = (q : ℕ) → IsFull pool table q → (dope_row pool table q).place < at → (dope_row pool table q).place + block_bytes (dope_row pool table q) ≤ at

-- the lowest hole that holds so many bytes, of those at a place and above it
pub record IsFit (pool : List ℕ) (table start bytes at : ℕ) : Type 0 where
  pub low : start ≤ at
  pub word : at % 4 ≡ 0
  pub hole : IsHole pool table at bytes
  pub first : (p : ℕ) → start ≤ p → IsHole pool table p bytes → at ≤ p

-- the bytes from a place on lie in the pool and in no block but that of the row, if it has one
pub record IsRoom (pool : List ℕ) (table base row at bytes : ℕ) : Type 0 where
  pub above : base ≤ at
  pub word : at % 4 ≡ 0
  pub within : at + bytes ≤ length pool
  pub others : (q : ℕ) → IsFull pool table q → q ≢ row → IsApart (record { place = at; bytes = bytes }) (block_of pool table q)
  pub own : IsFull pool table row → (dope_row pool table row).place ≡ at

-- ---- the whole

-- a row's block can have so many bytes
pub record MayHave (pool : List ℕ) (table base row bytes : ℕ) : Type 0 where
  pub within : row < row_count pool table
  pub word : bytes % 4 ≡ 0
  pub some : 0 < bytes
  pub fits : base + total (blocks_in pool table) + bytes ≤ pool_size + block_bytes (dope_row pool table row)

-- below a place no hole begins that holds so many bytes as were sought, and no block reaches over it
pub record IsSearched (pool : List ℕ) (table base searched sought : ℕ) : Type 0 where
  pub above : base ≤ searched
  pub word : searched % 4 ≡ 0
  pub inside : searched ≤ pool_size
  pub clean : IsClean pool table searched
  pub none : (at : ℕ) → base ≤ at → at < searched → IsHole pool table at sought → ⊥

-- the places fit the pool and its fronts
pub record AreBlocks (pool fronts : List ℕ) (p : BlockState) : Type 0 where
  pub is_pool : IsPool pool p.table p.base
  pub word : p.base % 4 ≡ 0
  pub are_fronts : AreFronts pool p.table fronts
  pub end_is : IsEnd pool p.table p.end
  pub footprint_is : p.footprint ≡ p.base + total (blocks_in pool p.table)
  pub searched : IsSearched pool p.table p.base p.searched p.sought

-- a row's block stood at another place, where the last of all blocks ended at the end that is noted
pub record HasMoved (pool : List ℕ) (p : BlockState) (row from : ℕ) : Type 0 where
  pub full : IsFull pool p.table row
  pub others : (q : ℕ) → IsFull pool p.table q → q ≢ row → (dope_row pool p.table q).place + block_bytes (dope_row pool p.table q) ≤ p.end
  pub apart : (q : ℕ) → IsFull pool p.table q → q ≢ row → IsApart (record { place = from; bytes = block_bytes (dope_row pool p.table row) }) (block_of pool p.table q)
  pub most : from + block_bytes (dope_row pool p.table row) ≤ p.end
  pub inside : p.end ≤ pool_size
  pub was : (from + block_bytes (dope_row pool p.table row) ≡ p.end)
      ⊎ ((q : ℕ) × IsFull pool p.table q × ((dope_row pool p.table q).place + block_bytes (dope_row pool p.table q) ≡ p.end))

-- the blocks moved, and nothing else has changed
pub record BlocksMove (old fronts_old new fronts_new : List ℕ) (p q : BlockState) (to : ℕ → ℕ) : Type 0 where
  pub blocks : AreBlocks new fronts_new q
  pub moves : Moves p.base to old new p.table q.table
  pub base : q.base ≡ p.base
  pub footprint : q.footprint ≡ p.footprint

-- a row's block has room at a place, and others moved only at need
pub record MakesRoom (old new : List ℕ) (p q : BlockState) (row bytes place : ℕ) : Type 0 where
  pub behind : holds_behind p.base (pool_at old p) row bytes ≡ true → OthersStay (pool_at old p) (pool_at new q) row × (place ≡ (dope_row old p.table row).place)
  pub hole : (at : ℕ) → holds_behind p.base (pool_at old p) row bytes ≡ false → IsLowestHole p.base (pool_at old p) bytes at → OthersStay (pool_at old p) (pool_at new q) row × (place ≡ at)
  pub order : (r s : ℕ) → IsFull old p.table r → IsFull old p.table s → r ≢ row → s ≢ row → (dope_row old p.table r).place < (dope_row old p.table s).place → (dope_row new q.table r).place < (dope_row new q.table s).place
  pub front : (r : ℕ) → IsFull old p.table r → r ≢ row → (dope_row old p.table r).place ≡ p.base → (dope_row new q.table r).place ≡ p.base

-- ---- one list

-- a living row's list may have so many bytes
pub record IsListRow (pool : List ℕ) (table row bytes : ℕ) : Type 0 where
  pub above : 0 < row
  pub within : row < row_count pool table
  pub alive : (dope_row pool table row).stride ≢ 0
  pub whole : bytes % (dope_row pool table row).stride ≡ 0

-- the row has another place and count, and no other bytes have changed but those from a place on
pub record Relists (old new : List ℕ) (table row place count room : ℕ) : Type 0 where
  pub size : length new ≡ length old
  pub own : dope_row new table row ≡ record (dope_row old table row) { place = place; count = count }
  pub others : (q : ℕ) → q < row_count old table → q ≢ row → dope_row new table q ≡ dope_row old table q
  pub outside : (k : ℕ) → (k < place) ⊎ (place + room ≤ k) → (k < table + 10 * row) ⊎ (table + 10 * row + 10 ≤ k) → slice_index new k ≡ slice_index old k

-- the row's list with so many bytes
abbrev pub with_length_in : List (Option ByteList) → ℕ → ℕ → List (Option ByteList)
with_length_in lists row bytes = (with_length (record { static_bytes = []; by_row = lists }) row bytes).by_row

-- the row's list has so many bytes, and the others are as they were
pub record HasLength (old new fronts : List ℕ) (p q : BlockState) (row bytes : ℕ) : Type 0 where
  pub blocks : AreBlocks new fronts q
  pub base : q.base ≡ p.base
  pub lists : lists_in new q.table ≡ with_length_in (lists_in old p.table) row bytes
  pub below : (k : ℕ) → k < p.base → slice_index new k ≡ slice_index old k
  pub footprint : q.footprint + block_bytes (dope_row old p.table row) ≡ p.footprint + round4 bytes

-- the table has a row more, with an empty list
pub record AddsRow (old new : List ℕ) (table stride : ℕ) : Type 0 where
  pub size : length new ≡ length old
  pub first : dope_row new table 0 ≡ record (dope_row old table 0) { count = row_count old table + 1 }
  pub added : dope_row new table (row_count old table) ≡ empty_row_of stride
  pub others : (q : ℕ) → 0 < q → q < row_count old table → dope_row new table q ≡ dope_row old table q
  pub outside : (k : ℕ) → (k < table) ⊎ (table + 10 * (row_count old table + 1) ≤ k) → slice_index new k ≡ slice_index old k

-- the table has a row more, and the lists are as they were
pub record HasRow (old new fronts : List ℕ) (p q : BlockState) (stride : ℕ) : Type 0 where
  pub blocks : AreBlocks new fronts q
  pub base : q.base ≡ p.base
  pub lists : lists_in new q.table ≡ lists_in old p.table ++ empty_list stride ∷ []
  pub below : (k : ℕ) → k < p.base → slice_index new k ≡ slice_index old k
  pub footprint : q.footprint + round4 (10 * row_count old p.table) ≡ p.footprint + round4 (10 * (row_count old p.table + 1))

-- the row's list is freed
pub record Frees (old new fronts : List ℕ) (p q : BlockState) (row : ℕ) : Type 0 where
  pub blocks : AreBlocks new fronts q
  pub base : q.base ≡ p.base
  pub lists : lists_in new q.table ≡ slice_set (lists_in old p.table) row None
  pub below : (k : ℕ) → k < p.base → slice_index new k ≡ slice_index old k
  pub stay : OthersStay (pool_at old p) (pool_at new q) row

-- a row is taken for an empty list
pub record Takes (old new fronts : List ℕ) (p q : BlockState) (stride row : ℕ) : Type 0 where
  pub blocks : AreBlocks new fronts q
  pub base : q.base ≡ p.base
  pub free : IsFree (with_free (lists_in old p.table)) row
  pub lists : lists_in new q.table ≡ slice_set (with_free (lists_in old p.table)) row (empty_list stride)
  pub below : (k : ℕ) → k < p.base → slice_index new k ≡ slice_index old k

-- no row is free, and the pool does not hold another one
pub record IsRefused (pool : List ℕ) (p : BlockState) (f : ℕ) : Type 0 where
  pub full : any_free (lists_in pool p.table) ≡ false
  pub whole : f + round4 (10 * row_count pool p.table) ≡ p.footprint + round4 (10 * (row_count pool p.table + 1))
  pub above : pool_size < f

-- bytes are stored in the row's list from a place on, and all rows stay
pub record Stores (old new : List ℕ) (table row at : ℕ) (bytes : List ℕ) : Type 0 where
  pub blocks : (fronts : List ℕ) (p : BlockState) → table ≡ p.table → AreBlocks old fronts p → AreBlocks new fronts p
  pub lists : lists_in new table ≡ lists_with_bytes old table row at bytes
  pub below : (fronts : List ℕ) (p : BlockState) → table ≡ p.table → AreBlocks old fronts p → (k : ℕ) → k < p.base → slice_index new k ≡ slice_index old k
  pub stay : RowsStay (record { bytes = old; table = table }) (record { bytes = new; table = table })

-- the fields of a heap fit one another
pub record IsHeap (static_size : ℕ) (p : BlockState) (pool fronts : List ℕ) : Type 0 where
  pub blocks : AreBlocks pool fronts p
  pub base_is : p.base ≡ round4 static_size
