-- Blocks in a pool: which of them have a gap below, how they settle, and how one of them gets longer.
--
-- A list has the blocks in any order, and each is known by its place in the list, which no move changes.
use Rattle.std.specs.Prelude.{◌≡◌, ℕ, ◌+◌, ◌≤◌, Bool, true, ◌&&◌, ◌||◌, if◌then◌else◌, ◌==◌, nat_lt, nat_le, List, map, sum_by, count_by}
use Rattle.std.specs.List.{list_all}
use Rattle.nxt_model.specs.Reading.{Block}
use Rattle.nxt_model.specs.Dump.{is_unsettled}

abbrev pub has_bytes : Block → Bool
has_bytes b = nat_lt 0 b.bytes

abbrev pub total : List Block → ℕ
total blocks = sum_by (λ b. b.bytes) blocks

-- ---- gaps

-- the bytes of the blocks that begin below a place
abbrev pub below : List Block → ℕ → ℕ
below blocks place = sum_by (λ b. if nat_lt b.place place then b.bytes else 0) blocks

-- where a block stands that begins there, once there is no gap below it
abbrev pub packed : ℕ → List Block → ℕ → ℕ
packed base blocks place = base + below blocks place

-- how many blocks have a gap somewhere below them
abbrev pub unsettled : ℕ → List Block → ℕ
unsettled base blocks = count_by (is_unsettled base blocks) blocks

-- how many of these begin below a place
abbrev pub unsettled_below : ℕ → List Block → ℕ → ℕ
unsettled_below base blocks place = count_by (λ b. nat_lt b.place place && is_unsettled base blocks b) blocks

-- ---- settling

-- the block somewhere else
abbrev pub at_place : ℕ → Block → Block
at_place place b = record { place = place; bytes = b.bytes }

-- the k lowest unsettled blocks settle: a block moves where fewer than k unsettled ones begin below it
abbrev pub place_after : ℕ → ℕ → List Block → ℕ → ℕ
place_after k base blocks place = if nat_lt (unsettled_below base blocks place) k then packed base blocks place else place

abbrev pub settle : ℕ → ℕ → List Block → List Block
settle k base blocks = map (λ b. at_place (place_after k base blocks b.place) b) blocks

-- ---- growth

-- so many bytes from a place on lie in the pool and in no block
abbrev pub is_open : ℕ → ℕ → List Block → ℕ → ℕ → Bool
is_open base top blocks place bytes =
    nat_le base place && nat_le (place + bytes) top && list_all (λ b. nat_le (b.place + b.bytes) place || nat_le (place + bytes) b.place) blocks

-- the front of the lowest hole that holds so many bytes
pub record IsFirstFit (base top : ℕ) (blocks : List Block) (bytes place : ℕ) : Type 0 where
  pub here : is_open base top blocks place bytes ≡ true
  pub first : (p : ℕ) → is_open base top blocks p bytes ≡ true → place ≤ p

-- all gaps close, and the blocks above a place leave `more` bytes open
abbrev pub slid_place : ℕ → List Block → ℕ → ℕ → ℕ → ℕ
slid_place base blocks grown more place = packed base blocks place + (if nat_lt grown place then more else 0)

-- the block, longer where it begins at that place
abbrev pub grown_block : ℕ → ℕ → Block → Block
grown_block grown more b = record { place = b.place; bytes = if b.place == grown then b.bytes + more else b.bytes }

-- the block that begins there gets longer by so many bytes
abbrev pub slide : ℕ → List Block → ℕ → ℕ → List Block
slide base blocks grown more =
    map (λ b. at_place (slid_place base blocks grown more b.place) (grown_block grown more b)) blocks
