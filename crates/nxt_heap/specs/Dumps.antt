-- How bytes hold a heap, by rows as the memory of a file has them.
use Rattle.std.specs.Prelude.{◌≡◌, ◌≢◌, ℕ, ◌+◌, ◌*◌, ◌<◌, ◌≤◌, false, List, [], length, take, drop, nat_eq, All, Some, None, is_none}
use Rattle.std.specs.List.{IsDistinct, list_any}
use Rattle.nxt_model.specs.Dump.{IsChain}
use Rattle.nxt_model.specs.Reading.{DopeRow, dope_row, Block, AreApart}
use Rattle.nxt_heap.specs.Lists.{ByteList, Lists, list_at}

-- the row of that number in a table at this place
abbrev pub row_of : List ℕ → ℕ → ℕ → DopeRow
row_of bytes table r = dope_row (record { entries = []; bytes = bytes; table = table }) r

-- how many rows the table has, which row 0 tells
abbrev pub rows_of : List ℕ → ℕ → ℕ
rows_of bytes table = (row_of bytes table 0).count

-- these bytes stand among others from a place on
pub record StandAt (bytes : List ℕ) (place : ℕ) (part : List ℕ) : Type 0 where
  pub within : place + length part ≤ length bytes
  pub are : take (length part) (drop place bytes) ≡ part

-- the row is that of a list. The place of an empty one is no matter
pub record IsRowOf (bytes : List ℕ) (table r : ℕ) (l : ByteList) : Type 0 where
  pub above : 0 < r
  pub within : r < rows_of bytes table
  pub stride : (row_of bytes table r).stride ≡ l.stride
  pub whole : (row_of bytes table r).count * l.stride ≡ length l.bytes
  pub there : 0 < (row_of bytes table r).count → StandAt bytes (row_of bytes table r).place l.bytes

-- a row above the first, with elements
pub record IsFilled (bytes : List ℕ) (table r : ℕ) : Type 0 where
  pub above : 0 < r
  pub within : r < rows_of bytes table
  pub some : 0 < (row_of bytes table r).count

abbrev pub place_of : List ℕ → ℕ → ℕ → ℕ
place_of bytes table r = (row_of bytes table r).place

-- the bytes of a row's elements, and those of the table
abbrev pub row_block : List ℕ → ℕ → ℕ → Block
row_block bytes table r = record { place = place_of bytes table r; bytes = (row_of bytes table r).count * (row_of bytes table r).stride }

abbrev pub table_block : List ℕ → ℕ → Block
table_block bytes table = record { place = table; bytes = 10 * rows_of bytes table }

-- the static bytes come first, the lists stand by their rows, and no two of the table and the lists share a byte
pub record HoldHeap (bytes : List ℕ) (table : ℕ) (h : Lists) : Type 0 where
  pub static : StandAt bytes 0 h.static_bytes
  pub rows : rows_of bytes table ≡ length h.by_row
  pub fits : table + 10 * rows_of bytes table ≤ length bytes
  pub lists : (r : ℕ) (l : ByteList) → list_at h r ≡ Some l → IsRowOf bytes table r l
  pub from_table : (r : ℕ) → IsFilled bytes table r → AreApart (table_block bytes table) (row_block bytes table r)
  pub apart : (q r : ℕ) → q ≢ r → IsFilled bytes table q → IsFilled bytes table r → AreApart (row_block bytes table q) (row_block bytes table r)

-- what else the rows of a table show: row 0 is the table's own, an empty list has no place, a row without a list has no
-- elements, no row points back, and the links lead from row 0 through each row without a list, once, and then to 0
pub record IsDopeTable (bytes : List ℕ) (table : ℕ) (h : Lists) : Type 0 where
  pub place : place_of bytes table 0 ≡ table
  pub stride : (row_of bytes table 0).stride ≡ 10
  pub empty : (r : ℕ) → 0 < r → r < rows_of bytes table → (row_of bytes table r).count ≡ 0 → place_of bytes table r ≡ 65535
  pub bare : (r : ℕ) → 0 < r → r < rows_of bytes table → list_at h r ≡ None → (row_of bytes table r).count ≡ 0
  pub backs : (r : ℕ) → r < rows_of bytes table → (row_of bytes table r).back ≡ 0
  pub free : List ℕ
  pub links : IsChain (record { entries = []; bytes = bytes; table = table }) 0 free
  pub within : All (λ r. r < rows_of bytes table) free
  pub above : list_any (nat_eq 0) free ≡ false
  pub once : IsDistinct nat_eq free
  pub members : (r : ℕ) → 0 < r → r < rows_of bytes table → list_any (nat_eq r) free ≡ is_none (list_at h r)
