-- What the passes over a file's rows compute.
use Rattle.std.specs.Prelude.{ℕ, zero, suc, ◌+◌, ◌-◌, ◌*◌, ◌<◌, ◌≤◌, ◌≡◌, min, max, Bool, true, false, ◌&&◌, ◌||◌, not, ◌==◌, nat_lt, nat_le, List, [], ◌∷◌, ◌++◌, map, filter, find, fold, flat_map, length, replicate, count_by, slice_index, sum_by, option_map, All, ◌^◌, Option, Some, None, if◌then◌else◌}
use Rattle.std.specs.List.{list_any}
use Rattle.nxt_facts.specs.Sums.{sum_below}
use Rattle.nxt_types.specs.Bytes.{u16_at}
use Rattle.nxt_types.specs.Pool.{round4}
use Rattle.std.specs.Rc.{rc_slice_items}
use Rattle.nxt_model.specs.Reading.{row_count}
use Rattle.nxt_table.specs.declared.item.Item.{Item}
use Rattle.nxt_table.specs.declared.item.Item.TheVariants.{Array}
use Rattle.nxt_table.specs.declared.leaves.PlacedLeaf.{PlacedLeaf}
use Rattle.nxt_layout.specs.declared.dataspace.Dataspace.{Dataspace}
use Rattle.nxt_layout.specs.declared.reach.ArrayRows.{ArrayRows}
use Rattle.nxt_layout.specs.declared.reach.OpenArray.{OpenArray}
use Rattle.nxt_layout.specs.declared.reach.Arrays.{Arrays}
use Rattle.nxt_layout.specs.declared.spans.Span.{Span}
use Rattle.nxt_table.specs.Inside.LeafPasses.{leaf_end, pair_or, same_array}
use Rattle.nxt_table.specs.Inside.Owners.{least_of}
use Rattle.nxt_layout.specs.Rows.{Ground, row, row_end, has_elements, stride_or, is_strided_by, read_by, elements_of, is_beyond}

-- the bytes of a dataspace alone
abbrev pub bare_ground : List ℕ → ℕ → ℕ → Ground
bare_ground bytes table static_size =
    record { memory = record { entries = []; bytes = bytes; table = table }; static_size = static_size; leaves = [] }

-- ---- arrays

abbrev pub is_array_item : Item → Bool
is_array_item Array = true
is_array_item _ = false

abbrev pub array_leaves : List PlacedLeaf → List PlacedLeaf
array_leaves ls = filter (λ l. is_array_item l.item) ls

abbrev pub wider : ℕ → ℕ → PlacedLeaf → ℕ
wider a most l = if same_array (Some a) l.array then max most (leaf_end l) else most

-- the bytes of an array's element
abbrev pub extent_in : List PlacedLeaf → ℕ → ℕ
extent_in ls a = fold (wider a) 0 ls

-- ---- row numbers

-- how often the row is among them
abbrev pub times : ℕ → List ℕ → ℕ
times r rows = count_by (λ q. q == r) rows

abbrev pub bit_of : Bool → ℕ
bit_of b = if b then 1 else 0

-- how many of these numbers pass a test
abbrev pub tallied : List ℕ → (ℕ → Bool) → ℕ
tallied numbers test = count_by test numbers

-- none, one or many
abbrev pub few : ℕ → ℕ
few n = min 2 n

-- so many of each row below n
abbrev pub listed : (ℕ → ℕ) → ℕ → List ℕ
listed w zero = []
listed w (suc n) = listed w n ++ replicate (w n) n

-- how often a row is named, none, one or many, where count tells how many numbers pass a test. 0 is an empty list
abbrev pub names_by : ((ℕ → Bool) → ℕ) → ℕ → ℕ
names_by count r = if r == 0 then 0 else few (count (λ q. q == r))

-- the rows that numbers name in the order of number, each at most twice
abbrev pub rows_of : Ground → List ℕ → List ℕ
rows_of g numbers = listed (names_by (tallied numbers)) (row_count g.memory)

-- the numbers at this place in elements
abbrev pub numbers_in : Ground → ℕ → List ℕ → List ℕ
numbers_in g place bases = map (λ base. u16_at g.memory.bytes (base + place)) bases

-- ---- array by array

-- an array whose element's entries aren't all done, with the rows whose elements are read through it
pub record Opened : Type 0 where
  pub entry : ℕ
  pub read : List ℕ

-- what is found through an array's entry: the bytes of its element, the rows that its lists name, each at most twice, how
-- many lists there are, and whether a number is past the table's rows
pub record Through : Type 0 where
  pub entry : ℕ
  pub bytes : ℕ
  pub rows : List ℕ
  pub lists : ℕ
  pub beyond : Bool

-- the open arrays from this one outwards
abbrev pub back_to : Option ℕ → List Opened → List Opened
back_to None os = []
back_to (Some a) [] = []
back_to (Some a) (o ∷ os) = if o.entry == a then o ∷ os else back_to (Some a) os

-- it is the next one, or none is open
abbrev pub is_back : Option ℕ → List Opened → Bool
is_back a [] = true
is_back None (o ∷ os) = false
is_back (Some a) (o ∷ os) = o.entry == a

-- where the elements of the next one stand; what is outside counts as one element at 0
abbrev pub places_in : Ground → List Opened → List ℕ
places_in g [] = 0 ∷ []
places_in g (o ∷ os) = flat_map (elements_of g) o.read

-- ext gives the bytes of an array's element
abbrev pub through_by : Ground → (ℕ → ℕ) → PlacedLeaf → List ℕ → Through
through_by g ext l bases =
    let numbers = numbers_in g l.place bases in
    record {
      entry = l.entry;
      bytes = ext l.entry;
      rows = rows_of g numbers;
      lists = length bases;
      beyond = list_any (is_beyond g) numbers;
    }

abbrev pub open_by : Ground → Through → Opened
open_by g t = record { entry = t.entry; read = read_by g t.bytes t.rows }

abbrev pub through_from : Ground → (ℕ → ℕ) → List Opened → List PlacedLeaf → List Through
through_from g ext os [] = []
through_from g ext os (l ∷ ls) =
    let around = back_to l.array os in
    let t = through_by g ext l (places_in g around) in
    t ∷ through_from g ext (open_by g t ∷ around) ls

-- ---- what is found

abbrev pub all_rows : List Through → List ℕ
all_rows ts = flat_map (λ t. t.rows) ts

abbrev pub list_count : List Through → ℕ
list_count ts = sum_by (λ t. t.lists) ts

-- the entry of the first that names a row past the table's
abbrev pub first_beyond : List Through → Option ℕ
first_beyond ts = option_map (λ t. t.entry) (find (λ t. t.beyond) ts)

-- the first number from r on that passes the test, among n
abbrev pub first_below : (ℕ → Bool) → ℕ → ℕ → Option ℕ
first_below test r zero = None
first_below test r (suc n) = if test r then Some r else first_below test (r + 1) n

abbrev pub least : List ℕ → Option ℕ
least [] = None
least (n ∷ ns) = least_of (Some n) (least ns)

-- the least of several
abbrev pub least_of_all : List (Option ℕ) → Option ℕ
least_of_all [] = None
least_of_all (o ∷ os) = least_of o (least_of_all os)

abbrev pub misstrided_in : Ground → Through → List ℕ
misstrided_in g t = filter (λ r. not (is_strided_by g t.bytes t.rows r)) t.rows

-- the same as is_full_in, where none, one or many are marked by row
abbrev pub is_full_by : Ground → List ℕ → ℕ → Bool
is_full_by g marks r = nat_lt 0 (slice_index marks r) && has_elements g r

-- how often each row of the table is among these is marked: none, one or many
pub record IsMarked (g : Ground) (rows marks : List ℕ) : Type 0 where
  pub count : length marks ≡ row_count g.memory
  pub times : (r : ℕ) → r < length marks → slice_index marks r ≡ min 2 (times r rows)

abbrev pub row_bytes : Ground → ℕ → ℕ
row_bytes g r = round4 ((row g r).count * (row g r).stride)

-- the bytes of the rows that are full
abbrev pub full_bytes : Ground → (ℕ → Bool) → ℕ
full_bytes g full = sum_below (λ r. if full r then row_bytes g r else 0) (row_count g.memory)

-- the stride of an array: that of its first row with elements, or the bytes of its element
abbrev pub stride_in : Ground → Through → ℕ
stride_in g t = stride_or g t.bytes (find (has_elements g) t.rows)

-- the entries rise, from i on and below n
abbrev pub ArraysRise : ℕ → ℕ → List ArrayRows → Type 0
ArraysRise i n [] = Unit {0}
ArraysRise i n (a ∷ rest) = (i ≤ a.entry) × (a.entry < n) × ArraysRise (a.entry + 1) n rest

-- by entry these are the strides of the arrays
abbrev pub HaveStrides : List ℕ → List ArrayRows → Type 0
HaveStrides strides [] = Unit {0}
HaveStrides strides (a ∷ rest) = (slice_index strides a.entry ≡ a.stride) × HaveStrides strides rest

-- ---- strides

-- the least of these rows that has elements
abbrev pub lead_of : Ground → List ℕ → Option ℕ
lead_of g rows = least (filter (has_elements g) rows)

-- the row has elements, and another stride
abbrev pub is_odd : Ground → ℕ → ℕ → Bool
is_odd g stride r = has_elements g r && not ((row g r).stride == stride)

-- the least of these rows that hasn't the stride of the least
abbrev pub odd_of : Ground → List ℕ → Option ℕ
odd_of g rows = least (filter (is_odd g (stride_or g 0 (lead_of g rows))) rows)

abbrev pub is_from : Option ℕ → ℕ → Bool
is_from None r = false
is_from (Some o) r = nat_le o r

-- the stride holds so many bytes, and the row is before the odd one
abbrev pub is_even : Ground → ℕ → Option ℕ → ℕ → Bool
is_even g bytes odd r = not (has_elements g r) || (nat_le bytes (row g r).stride && not (is_from odd r))

-- ---- spans

abbrev pub spans_share : Span → Span → Bool
spans_share a b = nat_lt a.place b.end && nat_lt b.place a.end

abbrev pub first_span : (Span → Bool) → List Span → Option ℕ
first_span test ss = option_map (λ s. s.row) (find test ss)

-- the first that shares a byte with a later one, and the first of those
abbrev pub first_spans : List Span → Option (ℕ × ℕ)
first_spans [] = None
first_spans (s ∷ ss) = pair_or s.row (first_span (spans_share s) ss) (first_spans ss)

-- each begins where the one before it ends, or later
abbrev pub follow : ℕ → List Span → Bool
follow end [] = true
follow end (s ∷ ss) = nat_le end s.place && follow s.end ss

-- their rows rise, from r on, and each ends where it begins, or later
abbrev pub SpansRise : ℕ → List Span → Type 0
SpansRise r [] = Unit {0}
SpansRise r (s ∷ ss) = (r ≤ s.row) × (s.place ≤ s.end) × SpansRise (s.row + 1) ss

abbrev pub table_span : Ground → Span
table_span g = record { row = 0; place = g.memory.table; end = g.memory.table + 10 * row_count g.memory }

abbrev pub row_span : Ground → ℕ → Span
row_span g r = record { row = r; place = (row g r).place; end = row_end g r }

-- those of the full rows from r on, among n
abbrev pub spans_from : Ground → (ℕ → Bool) → ℕ → ℕ → List Span
spans_from g full r zero = []
spans_from g full r (suc n) =
    if full r then row_span g r ∷ spans_from g full (r + 1) n else spans_from g full (r + 1) n

-- the table's and those of the full rows
abbrev pub spans_of : Ground → (ℕ → Bool) → List Span
spans_of g full = table_span g ∷ spans_from g full 1 (row_count g.memory - 1)

-- ---- the code's own forms

abbrev pub ground_of : Dataspace → Ground
ground_of d = bare_ground d.bytes.items d.table d.static_size

abbrev pub opened : OpenArray → Opened
opened o = record { entry = o.entry; read = rc_slice_items o.elements.rows }

-- what is told of an array
abbrev pub told : Ground → Through → ArrayRows
told g t = record { entry = t.entry; stride = stride_in g t; lists = t.lists; misstrided = least (misstrided_in g t) }

-- what is told of these arrays, none of which names a row past the table's
pub record AreTold (g : Ground) (ts : List Through) (a : Arrays) : Type 0 where
  pub found : a.found.items ≡ map (told g) ts
  pub marks : IsMarked g (all_rows ts) a.marks.items
  pub none : first_beyond ts ≡ None
  pub lists : All (λ x. x.lists ≤ 2 ^ 33) a.found.items
