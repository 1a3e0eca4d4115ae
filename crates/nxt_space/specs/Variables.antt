-- The variables of a program, as the calls of `Space` see them.
use Rattle.std.specs.Prelude.{◌≡◌, ◌≤◌, ◌<◌, ℕ, ◌+◌, true, ◌-◌, ◌*◌, ◌^◌, max, List, map, pos, Option, Some, None, IsSome, Ok, Err}
use Rattle.std.specs.declared.result.Result.{Result}
use Rattle.nxt_types.specs.Arithmetic.{extend}
use Rattle.nxt_types.specs.declared.kind.Kind.TheVariants.{Ubyte}
use Rattle.nxt_types.specs.Shapes.{Shape, Void, Number, Array, Cluster, Mutex, Members, no_members, member}
use Rattle.nxt_types.specs.Names.{Name, name_among, sizes}
use Rattle.nxt_types.specs.declared.shape.TocEntry.{TocEntry}
use Rattle.nxt_model.specs.Values.{Value, Num, list_of, part, with_part, is_of, lists_in}
use Rattle.nxt_model.specs.Reading.{HeldList, ReadsAs}
use Rattle.nxt_model.specs.Footprint.{footprint, rows_for, list_bytes}
use Rattle.nxt_types.specs.Pool.{round4, pool_size}
use Rattle.nxt_heap.specs.Lists.{Pool}
use Rattle.nxt_heap.specs.declared.passed.PoolPassed.{PoolPassed}
use Rattle.nxt_layout.specs.Layouts.{FileLayout}
use Rattle.nxt_values.specs.Parts.{positions, AreWithin}
use Rattle.nxt_space.specs.declared.path.Path.{Path}

-- a table with its variables' shapes, the static bytes, the values and the rows at the start, the values now, and the rows
-- that the table of rows has now
pub record Variables : Type 0 where
  pub entries : List TocEntry
  pub shapes : Members
  pub static_size : ℕ
  pub start : Value
  pub start_rows : ℕ
  pub values : Value
  pub rows : ℕ

-- a space is seen as its variables, as the pool that holds them, and as the rows of their lists in reading order
pub record SpaceViews : Type 0 where
  pub vars : Variables
  pub pool : Pool
  pub rows : List ℕ

-- ---- what an entry names

abbrev pub name_of : Variables → ℕ → Option Name
name_of s i = name_among s.shapes 0 i

abbrev pub shape_by : Option Name → Shape
shape_by None = Void
shape_by (Some n) = n.shape

abbrev pub value_by : Option Name → Value → Value
value_by None vars = Num (pos 0)
value_by (Some n) vars = part n.path vars

abbrev pub with_by : Option Name → Value → Value → Value
with_by None v vars = vars
with_by (Some n) v vars = with_part n.path v vars

-- the shape and the value of the variable, or of the part of one, that begins at an entry outside of all elements
abbrev pub shape_of : Variables → ℕ → Shape
shape_of s i = shape_by (name_of s i)

abbrev pub value_of : Variables → ℕ → Value
value_of s i = value_by (name_of s i) s.values

-- the values of the variables with another one there
abbrev pub with_value : Variables → ℕ → Value → Value
with_value s i v = with_by (name_of s i) v s.values

-- ---- parts of lists

-- the part that a path leads to
abbrev pub part_of : Variables → Path → Value
part_of s p = part (positions p.steps) (value_of s p.var)

-- it stands in a variable, and each position of the path is one of its list's
abbrev pub HasPart : Variables → Path → Type 0
HasPart s p = IsSome (name_of s p.var) × AreWithin (shape_of s p.var) (value_of s p.var) (positions p.steps)

-- a list of bytes
abbrev pub list_of_bytes : List ℕ → Value
list_of_bytes bytes = list_of (map (λ b. Num (extend Ubyte b)) bytes)

-- ---- footprints

-- with these values from now on; the table of rows gets no shorter
abbrev pub with_values : Value → Variables → Variables
with_values vars s = record s { values = vars; rows = max s.rows (lists_in vars + 1) }

-- the bytes of the pool that the variables take
abbrev pub footprint_of : Variables → ℕ
footprint_of s = footprint s.static_size s.rows s.shapes s.values

-- those that they take where so many lists, whose blocks take so many bytes, stand in the variable of an entry
abbrev pub footprint_with : Variables → ℕ → ℕ → ℕ → ℕ
footprint_with s i lists bytes =
    round4 s.static_size
    + round4 (10 * max s.rows (lists_in s.values - lists_in (value_of s i) + lists + 1))
    + (list_bytes (Cluster s.shapes) s.values - list_bytes (shape_of s i) (value_of s i) + bytes)

-- the pool holds so many bytes, or the answer tells them
abbrev pub FitsPool : ℕ → Result Unit PoolPassed → Type 0
FitsPool bytes (Ok x) = bytes ≤ pool_size
FitsPool bytes (Err e) = (pool_size < bytes) × (e.0 ≡ bytes)

-- these are the variables from now on, where the pool holds them; or else the answer tells their bytes, and nothing has
-- changed
abbrev pub Becomes : SpaceViews → Variables → Result Unit PoolPassed → SpaceViews → Type 0
Becomes old next (Ok x) new = (footprint_of next ≤ pool_size) × (new.vars ≡ next)
Becomes old next (Err e) new = (pool_size < footprint_of next) × (e.0 ≡ footprint_of next) × (new ≡ old)

-- no block of the pool begins below the end of the static bytes
abbrev pub base_of : Variables → ℕ
base_of s = round4 s.static_size

-- the bytes of a pool with its table at this place read as the variables, in which lists with these rows stand
abbrev pub ReadsAsPool : Variables → List ℕ → ℕ → List ℕ → Type 0
ReadsAsPool s rows table bytes =
    (lists : List HeldList)
    × ReadsAs (record { entries = s.entries; bytes = bytes; table = table }) s.shapes s.values lists
    × (map (λ l. l.row) lists ≡ rows)

-- the elements of each list are at least 1 and fewer than 2^16 bytes apart
abbrev mutual
  pub HasStrides : Shape → Type 0
  HasStrides Void = Unit {0}
  HasStrides (Number k) = Unit {0}
  HasStrides (Array stride s) = (1 ≤ stride) × (stride < 2 ^ 16) × HasStrides s
  HasStrides (Cluster ss) = AllHaveStrides ss
  HasStrides Mutex = Unit {0}

  pub AllHaveStrides : Members → Type 0
  AllHaveStrides no_members = Unit {0}
  AllHaveStrides (member s ss) = HasStrides s × AllHaveStrides ss

-- the table has fewer entries than 16 bits count, the values have their shapes, and each list has a row
pub record AreSound (s : Variables) : Type 0 where
  pub entries : sizes s.shapes < 2 ^ 16
  pub strides : AllHaveStrides s.shapes
  pub shapes : is_of (Cluster s.shapes) s.values ≡ true
  pub rows : lists_in s.values < s.rows
  pub pool : footprint_of s ≤ pool_size

-- ---- the start

-- those of a file with this layout, which start with these values
abbrev pub at_start : FileLayout → Value → Variables
at_start l vars =
    let rows = rows_for l.rows (lists_in vars) in
    record {
      entries = l.entries;
      shapes = l.shapes;
      static_size = l.static_size;
      start = vars;
      start_rows = rows;
      values = vars;
      rows = rows;
    }

abbrev pub restarted : Variables → Variables
restarted s = record s { values = s.start; rows = s.start_rows }
