-- Where the elements of a list stand.
use Rattle.std.specs.Prelude.{◌≡◌, ℕ, ◌+◌, ◌*◌, ◌/◌, ◌^◌, ◌<◌, ◌≤◌, false, List, [], ◌∷◌, length, ℤ, nat_abs}
use Rattle.nxt_types.specs.Pool.{pool_size}
use Rattle.nxt_types.specs.declared.shape.TocEntry.{TocEntry}
use Rattle.nxt_types.specs.Shapes.{Shape, Array, has_list}
use Rattle.nxt_model.specs.Spans.{spans, AreApart, FitsIn}
use Rattle.nxt_heap.specs.Lists.{Lists, bytes_at, stride_at, IsAlive}
use Rattle.nxt_values.specs.Fills.{first_of, IsOpened, FillsEach}
use Rattle.nxt_values.specs.Held.{row_in}
use Rattle.nxt_values.specs.Regions.{bytes_in}
use Rattle.nxt_values.specs.Writes.{without, IsOther}
use Rattle.nxt_values.specs.declared.elements.Elements.{Elements}
use Rattle.nxt_values.specs.declared.reading.Region.TheVariants.{Row}
use Rattle.nxt_values.specs.declared.reading.Place.{Place}

-- the elements, each so many bytes behind the one before it, of the list whose leaf is the place's first entry
abbrev pub elements_there : List TocEntry → Lists → ℕ → Place → Elements
elements_there table h stride list =
    let row = row_in table list.entry (bytes_in h list.region) list.base in
    record { row = row; count = length (bytes_at h row) / stride; stride = stride; entry = list.entry + 1 }

-- they are these, and the pool holds them
pub record AreElements (table : List TocEntry) (h : Lists) (stride : ℕ) (list : Place) (e : Elements) : Type 0 where
  pub is : e ≡ elements_there table h stride list
  pub small : e.count * e.stride ≤ pool_size

-- the place of the k-th, counted from 0
abbrev pub element_place : Elements → ℕ → Place
element_place e k = record { region = Row e.row; entry = e.entry; base = k * e.stride }

-- they are so many elements, of a list whose row was free and now stands in the place's leaf
pub record AreOpened (table : List TocEntry) (h g : Lists) (list : Place) (stride count : ℕ) (e : Elements) : Type 0 where
  pub is : e ≡ record { row = e.row; count = count; stride = stride; entry = list.entry + 1 }
  pub small : e.count * e.stride < 2 ^ 32
  pub opened : IsOpened table h g list.entry list.region list.base e.row stride count

-- a list of so many bytes has the row, and the leaves of each element are apart, and end in it
pub record HaveRoom (table : List TocEntry) (h : Lists) (s : Shape) (e : Elements) : Type 0 where
  pub alive : IsAlive h e.row
  pub long : length (bytes_at h e.row) ≡ e.count * e.stride
  pub apart : AreApart (spans table s e.entry)
  pub fits : FitsIn table s e.entry e.stride

-- the values that the numbers begin with stand in them, and the other numbers are `rest`
abbrev pub FillsElements : List TocEntry → Lists → Lists → Shape → Elements → List ℤ → List ℤ → Type 0
FillsElements table h g s e zs rest = FillsEach table h g s e.entry e.row e.stride 0 e.count zs rest

-- ---- a list that keeps its row

-- the row of the list whose leaf stands there
abbrev pub row_there : List TocEntry → Lists → Place → ℕ
row_there table h list = row_in table list.entry (bytes_in h list.region) list.base

-- that row has a list, whose elements are `stride` bytes apart, and is not the region's
pub record HasRow (table : List TocEntry) (h : Lists) (stride : ℕ) (list : Place) : Type 0 where
  pub alive : IsAlive h (row_there table h list)
  pub wide : stride_at h (row_there table h list) ≡ stride
  pub other : IsOther list.region (row_there table h list)

-- that list is freed
abbrev pub closed : List TocEntry → Lists → Place → Lists
closed table h list = without h (row_there table h list ∷ [])

-- what stands there is a list of values without lists, which gets no more bytes than it has
abbrev pub GetsNoLonger : List TocEntry → Lists → Shape → Place → List ℤ → Type 0
GetsNoLonger table h (Array stride s) list zs = (has_list s ≡ false) × (nat_abs (first_of zs) * stride ≤ length (bytes_at h (row_there table h list)))
GetsNoLonger table h s list zs = ⊥
