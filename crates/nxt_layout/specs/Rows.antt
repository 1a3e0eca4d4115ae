-- The rows that a file's arrays name.
use Rattle.std.specs.Prelude.{ℕ, ◌+◌, ◌*◌, Bool, true, false, ◌&&◌, ◌||◌, not, ◌==◌, nat_lt, nat_le, List, [], ◌∷◌, map, filter, flat_map, length, Option, Some, None}
use Rattle.std.specs.List.{list_all, list_any}
use Rattle.nxt_types.specs.Bytes.{u16_at}
use Rattle.nxt_types.specs.Shapes.{Shape, Array}
use Rattle.nxt_model.specs.Reading.{Memory, DopeRow, dope_row, row_count, leaf_place}
use Rattle.nxt_facts.specs.Places.{places_from}
use Rattle.nxt_table.specs.Leaves.{Leaf, extent}

-- a file's memory, where its static bytes end, and its leaves
pub record Ground : Type 0 where
  pub memory : Memory
  pub static_size : ℕ
  pub leaves : List Leaf

abbrev pub row : Ground → ℕ → DopeRow
row g r = dope_row g.memory r

-- ---- single rows

abbrev pub has_elements : Ground → ℕ → Bool
has_elements g r = nat_lt 0 (row g r).count

abbrev pub row_end : Ground → ℕ → ℕ
row_end g r = (row g r).place + (row g r).count * (row g r).stride

-- the row's bytes lie behind the static bytes; the place of an empty row is ignored
abbrev pub is_placed : Ground → ℕ → Bool
is_placed g r =
    not (has_elements g r) || (nat_le g.static_size (row g r).place && nat_le (row_end g r) (length g.memory.bytes))

-- of these rows this one's stride holds an element of so many bytes, and is that of each lesser one
abbrev pub is_strided_by : Ground → ℕ → List ℕ → ℕ → Bool
is_strided_by g bytes rows r =
    not (has_elements g r)
    || (nat_le bytes (row g r).stride
    && list_all (λ q. not (nat_lt q r && has_elements g q) || ((row g q).stride == (row g r).stride)) rows)

-- of rows that are reached through the array of entry a, by the extent of its element
abbrev pub is_strided : Ground → ℕ → List ℕ → ℕ → Bool
is_strided g a rows r = is_strided_by g (extent g.leaves a) rows r

-- the stride of a row, or so many bytes where there is none
abbrev pub stride_or : Ground → ℕ → Option ℕ → ℕ
stride_or g bytes None = bytes
stride_or g bytes (Some r) = (row g r).stride

-- the places of a row's elements
abbrev pub elements_of : Ground → ℕ → List ℕ
elements_of g r = places_from (row g r).place (row g r).stride (row g r).count

-- ---- rows that are reached

-- a number that names a row; 0 is an empty list
abbrev pub names_row : Ground → ℕ → Bool
names_row g r = nat_lt 0 r && nat_lt r (row_count g.memory)

-- a number past the table's rows
abbrev pub is_beyond : Ground → ℕ → Bool
is_beyond g n = nat_le (row_count g.memory) n

-- the row numbers of entry a in elements that stand at these places
abbrev pub numbers_at : Ground → ℕ → List ℕ → List ℕ
numbers_at g a places = map (λ base. u16_at g.memory.bytes (leaf_place g.memory a base)) places

-- the rows whose elements, of so many bytes, are read
abbrev pub read_by : Ground → ℕ → List ℕ → List ℕ
read_by g bytes rows = filter (λ r. is_placed g r && is_strided_by g bytes rows r) rows

-- of those that are reached through entry a
abbrev pub read_rows : Ground → ℕ → List ℕ → List ℕ
read_rows g a rows = read_by g (extent g.leaves a) rows

-- where elements stand that are read through the first of these arrays, each of which encloses the one before it.
-- What is outside counts as one element at 0
abbrev pub element_places : Ground → List ℕ → List ℕ
element_places g [] = 0 ∷ []
element_places g (a ∷ around) =
    flat_map (elements_of g) (read_rows g a (filter (names_row g) (numbers_at g a (element_places g around))))

-- the row numbers of an array's entry, outside or in the elements that are read through the next array around it; one
-- for each list
abbrev pub numbers_of : Ground → Leaf → List ℕ
numbers_of g l = numbers_at g l.entry (element_places g l.arrays)

-- the rows that are reached through an array's entry
abbrev pub reached_through : Ground → Leaf → List ℕ
reached_through g l = filter (names_row g) (numbers_of g l)

abbrev pub is_array : Shape → Bool
is_array (Array n s) = true
is_array _ = false

abbrev pub arrays_of : Ground → List Leaf
arrays_of g = filter (λ l. is_array l.shape) g.leaves

-- the rows that are reached, one for each list
abbrev pub reached : Ground → List ℕ
reached g = flat_map (reached_through g) (arrays_of g)

-- the row is among these and has elements
abbrev pub is_full_in : Ground → List ℕ → ℕ → Bool
is_full_in g rows r = list_any (λ q. q == r) rows && has_elements g r

-- the row is reached and has elements
abbrev pub is_full : Ground → ℕ → Bool
is_full g r = is_full_in g (reached g) r
