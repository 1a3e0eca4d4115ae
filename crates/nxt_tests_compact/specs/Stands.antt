-- Blocks that stand as they have to, row by row.
use Rattle.std.specs.Prelude.{ℕ, ◌+◌, ◌<◌, ◌≤◌, ◌⊎◌, List}
use Rattle.nxt_rows.specs.Rows.{dope_row}
use Rattle.nxt_rows.specs.declared.DopeRow.{DopeRow}
use Rattle.nxt_compact.specs.Pools.{block_bytes}

-- the blocks of two rows share no byte
abbrev pub AreApart : DopeRow → DopeRow → Type 0
AreApart a b = 0 < block_bytes a → 0 < block_bytes b → (a.place + block_bytes a ≤ b.place) ⊎ (b.place + block_bytes b ≤ a.place)

-- the row's block shares no byte with one of an earlier row
abbrev pub IsApartBefore : List ℕ → ℕ → ℕ → Type 0
IsApartBefore pool table row = (q : ℕ) → q < row → AreApart (dope_row pool table q) (dope_row pool table row)

-- the row's block lies between two places
abbrev pub IsInside : DopeRow → ℕ → ℕ → Type 0
IsInside row base top = 0 < block_bytes row → (base ≤ row.place) × (row.place + block_bytes row ≤ top)
