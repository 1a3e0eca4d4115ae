-- The heap as its callers see it: static bytes, and byte lists by row.
use Rattle.std.specs.Prelude.{◌≡◌, ℕ, ◌+◌, ◌-◌, ◌*◌, ◌<◌, Bool, false, List, [], ◌∷◌, ◌++◌, length, take, replicate, sum_by, slice_set, slice_index_or, Option, Some, None, is_none, IsSome, if◌then◌else◌}
use Rattle.std.specs.List.{list_any}
use Rattle.nxt_facts.specs.PutAt.{put_at}
use Rattle.nxt_types.specs.Pool.{round4, pool_size}

-- the bytes of a list whose elements are `stride` bytes apart
pub record ByteList : Type 0 where
  pub stride : ℕ
  pub bytes : List ℕ

-- the lists stand by their rows; row 0 and the free rows have none
pub record Lists : Type 0 where
  pub static_bytes : List ℕ
  pub by_row : List (Option ByteList)

-- the bytes of a pool, and where its table of rows stands
pub record Pool : Type 0 where
  pub bytes : List ℕ
  pub table : ℕ

-- a heap is seen as its lists, and as the pool that holds them
pub record HeapViews : Type 0 where
  pub lists : Lists
  pub pool : Pool

-- the list of a row
abbrev pub list_at : Lists → ℕ → Option ByteList
list_at h row = slice_index_or h.by_row row None

abbrev pub stride_of : Option ByteList → ℕ
stride_of None = 0
stride_of (Some l) = l.stride

abbrev pub bytes_of : Option ByteList → List ℕ
bytes_of None = []
bytes_of (Some l) = l.bytes

abbrev pub stride_at : Lists → ℕ → ℕ
stride_at h row = stride_of (list_at h row)

abbrev pub bytes_at : Lists → ℕ → List ℕ
bytes_at h row = bytes_of (list_at h row)

-- no block begins below the end of the static bytes
abbrev pub base_of : Lists → ℕ
base_of h = round4 (length h.static_bytes)

-- the row has a list
abbrev pub IsAlive : Lists → ℕ → Type 0
IsAlive h row = IsSome (list_at h row)

-- ---- footprint

-- the bytes that a list takes in the pool
abbrev pub block_of : Option ByteList → ℕ
block_of None = 0
block_of (Some l) = round4 (length l.bytes)

-- the static bytes, a table of so many rows, and the lists
abbrev pub footprint : Lists → ℕ
footprint h = round4 (length h.static_bytes) + round4 (10 * length h.by_row) + sum_by block_of h.by_row

-- a footprint that the pool does not hold
pub record Passes (next : Lists) (f : ℕ) : Type 0 where
  pub whole : f ≡ footprint next
  pub above : pool_size < f

-- ---- changes

-- the row has this list, or none
abbrev pub with_list : Lists → ℕ → Option ByteList → Lists
with_list h row l = record h { by_row = slice_set h.by_row row l }

-- the front of that many bytes, filled up with zeros
abbrev pub of_length : ℕ → List ℕ → List ℕ
of_length n bytes = take n bytes ++ replicate (n - length bytes) 0

-- the row's list has that many bytes
abbrev pub with_length : Lists → ℕ → ℕ → Lists
with_length h row n = with_list h row (Some (record { stride = stride_at h row; bytes = of_length n (bytes_at h row) }))

-- the row's list has these bytes
abbrev pub with_these : Lists → ℕ → List ℕ → Lists
with_these h row bytes = with_list h row (Some (record { stride = stride_at h row; bytes = bytes }))

-- the row's list has these bytes from that place on
abbrev pub with_bytes : Lists → ℕ → ℕ → List ℕ → Lists
with_bytes h row at bytes = with_list h row (Some (record { stride = stride_at h row; bytes = put_at at bytes (bytes_at h row) }))

abbrev pub empty_list : ℕ → Option ByteList
empty_list stride = Some (record { stride = stride; bytes = [] })

-- a row above 0 that has no list
pub record IsFree (lists : List (Option ByteList)) (row : ℕ) : Type 0 where
  pub above : 0 < row
  pub within : row < length lists
  pub empty : slice_index_or lists row None ≡ None

-- whether a row above the first has no list
abbrev pub any_free : List (Option ByteList) → Bool
any_free [] = false
any_free (first ∷ others) = list_any is_none others

-- with a row more, where none is free
abbrev pub with_free : List (Option ByteList) → List (Option ByteList)
with_free lists = if any_free lists then lists else lists ++ None ∷ []

-- a row is free
abbrev pub with_free_row : Lists → Lists
with_free_row h = record h { by_row = with_free h.by_row }

-- zeros, and a table whose rows are all free
abbrev pub zero_heap : ℕ → ℕ → Lists
zero_heap static_size rows = record { static_bytes = replicate static_size 0; by_row = replicate rows None }
