-- What a dump of the variables shows.
use Rattle.std.specs.Prelude.{◌≡◌, List, ℕ, ◌==◌, if◌then◌else◌, [], map, Option, Some, None}
use Rattle.nxt_blocks.specs.Blocks.{unsettled}
use Rattle.nxt_compact.specs.Pools.{blocks_in}
use Rattle.nxt_heap.specs.Lists.{Pool}
use Rattle.nxt_model.specs.Dump.{Content, Dump, Mark, Shows, KeepsLaws, memory_of, places_of}
use Rattle.nxt_model.specs.Reading.{HeldList}
use Rattle.nxt_rows.specs.Rows.{dope_row}
use Rattle.nxt_space.specs.Variables.{Variables, SpaceViews, base_of}

abbrev pub content_of : Variables → Content
content_of s = record { entries = s.entries; shapes = s.shapes; static_size = s.static_size; values = s.values; rows = s.rows }

-- how many blocks of the pool have a gap somewhere below them
abbrev pub unsettled_of : SpaceViews → ℕ
unsettled_of s = unsettled (base_of s.vars) (blocks_in s.pool.bytes s.pool.table)

-- where a row's list stands in a pool; an empty one stands nowhere
abbrev pub place_in : Pool → ℕ → Option ℕ
place_in p r = if (dope_row p.bytes p.table r).count == 0 then None else Some (dope_row p.bytes p.table r).place

-- where the lists of the variables stand, in reading order
abbrev pub places_in : SpaceViews → List (Option ℕ)
places_in s = map (place_in s.pool) s.rows

-- the table's place, its rows and the number of unsettled blocks, with these bytes
abbrev pub dump_of : SpaceViews → List ℕ → Dump
dump_of s bytes = record { table = s.pool.table; rows = s.vars.rows; unsettled = unsettled_of s; bytes = bytes }

-- the bytes are a right dump of the variables, in lists with these rows, which stand where they stand in the pool
abbrev pub IsRightDump : SpaceViews → List ℕ → Type 0
IsRightDump s bytes =
    (lists : List HeldList)
    × Shows (content_of s.vars) (dump_of s bytes) lists
    × (map (λ l. l.row) lists ≡ s.rows)
    × (places_of (memory_of (content_of s.vars) (dump_of s bytes)) lists ≡ places_in s)

-- a dump of the pool as it stands keeps both laws since the dump that made the mark
abbrev pub Obeys : Option Mark → SpaceViews → Type 0
Obeys mark s = KeepsLaws mark (dump_of s []) (places_in s)
