-- The dope table in a pool, and its chain of free rows.
use Rattle.std.specs.Prelude.{◌≡◌, ◌≢◌, ℕ, zero, suc, ◌+◌, ◌*◌, ◌<◌, ◌≤◌, List, [], ◌∷◌, length, All, nat_eq, false}
use Rattle.std.specs.List.{IsDistinct, SameBelow, SameFrom, list_any}
use Rattle.nxt_types.specs.Bytes.{u16_at}
use Rattle.nxt_rows.specs.declared.DopeRow.{DopeRow}

-- ---- rows

-- the row of that number in the table at this place
unfoldable pub dope_row : List ℕ → ℕ → ℕ → DopeRow
dope_row pool table r =
    let at = table + 10 * r in
    record {
      place = u16_at pool at;
      stride = u16_at pool (at + 2);
      count = u16_at pool (at + 4);
      back = u16_at pool (at + 6);
      link = u16_at pool (at + 8);
    }

-- row 0 describes the table itself
abbrev pub row_count : List ℕ → ℕ → ℕ
row_count pool table = (dope_row pool table 0).count

-- the table has a row, and all its rows lie in the pool
pub record IsTable (pool : List ℕ) (table : ℕ) : Type 0 where
  pub some : 0 < row_count pool table
  pub within : table + 10 * row_count pool table ≤ length pool

-- no byte outside of the table has changed
pub record KeepsOutside (old new : List ℕ) (table : ℕ) : Type 0 where
  pub below : SameBelow old new table
  pub above : SameFrom old new (table + 10 * row_count old table)

-- all rows but this one and row 0 are as they were, and row 0 but for its link
pub record KeepsOthers (old new : List ℕ) (table row : ℕ) : Type 0 where
  pub first : dope_row new table 0 ≡ record (dope_row old table 0) { link = (dope_row new table 0).link }
  pub others : (r : ℕ) → r ≢ 0 → r ≢ row → dope_row new table r ≡ dope_row old table r

-- ---- the chain of free rows

-- the rows from r on, each named by the link of the one before it; 0 ends them, and they are at most k
abbrev pub chain : (ℕ → ℕ) → ℕ → ℕ → List ℕ
chain link zero r = []
chain link (suc k) zero = []
chain link (suc k) (suc r) = suc r ∷ chain link k (link (suc r))

abbrev pub link_of : List ℕ → ℕ → ℕ → ℕ
link_of pool table r = (dope_row pool table r).link

-- the rows that the links name, from row 0 on
unfoldable pub free_rows : List ℕ → ℕ → List ℕ
free_rows pool table = chain (link_of pool table) (row_count pool table) (link_of pool table 0)

-- the links name rows of the table, each at most once. So they end, since the table has fewer rows above 0 than `chain`
-- allows for
pub record IsFreeChain (pool : List ℕ) (table : ℕ) : Type 0 where
  pub within : All (λ r. r < row_count pool table) (free_rows pool table)
  pub once : IsDistinct nat_eq (free_rows pool table)

-- a row above 0 that is not free
pub record IsAlive (pool : List ℕ) (table r : ℕ) : Type 0 where
  pub above : 0 < r
  pub within : r < row_count pool table
  pub unchained : list_any (nat_eq r) (free_rows pool table) ≡ false

-- ---- what rows hold

-- the place of a row whose list is empty
abbrev pub no_place : ℕ
no_place = 0xFFFF

-- a living row with an empty list
abbrev pub empty_row_of : ℕ → DopeRow
empty_row_of stride = record { place = no_place; stride = stride; count = 0; back = 0; link = 0 }

-- a free row that this one follows in the chain
abbrev pub free_row_of : ℕ → DopeRow
free_row_of next = record { place = no_place; stride = 0; count = 0; back = 0; link = next }
