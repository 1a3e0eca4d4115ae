-- The rules of tables and data on worked parts.
use Rattle.std.proofs.Common.{◌≡◌, ℕ, ◌/◌, ◌%◌, List, [], ◌∷◌, ◌++◌, refl, length, true, false}
use Rattle.std.specs.List.{list_any}
use Rattle.nxt_types.specs.Shapes.{Members, Number, Array, members}
use Rattle.nxt_types.specs.declared.kind.Kind.TheVariants.{Ubyte, Uword}
use Rattle.nxt_types.specs.declared.shape.TocEntry.{TocEntry}
use Rattle.nxt_rxe.specs.declared.parts.Parts.{Parts}
use Rattle.nxt_table.specs.Dataspace.{dataspace}
use Rattle.nxt_layout.specs.Rows.{Ground, reached, arrays_of}
use Rattle.nxt_layout.specs.Start.{ground, stride_of, file_rows}
use Rattle.nxt_table.specs.Strides.{all_with_strides}
use Rattle.nxt_table.specs.TableRules
use Rattle.nxt_layout.specs.LayoutRules

-- ---- parts without clumps

abbrev entry : ℕ → ℕ → ℕ → TocEntry
entry code flags desc = record { code = code; flags = flags; desc = desc }

abbrev parts_of : List TocEntry → List ℕ → ℕ → ℕ → ℕ → ℕ → ℕ → Parts
parts_of toc defaults static_size initial dyn_at dyn_size dope_at =
    record {
      header = record {
        toc_count = length toc;
        initial = initial;
        static_size = static_size;
        default_size = length defaults;
        dyn_at = dyn_at;
        dyn_size = dyn_size;
        head = 0;
        tail = 0;
        dope_at = dope_at;
        clump_count = 0;
        word_count = 0;
      };
      toc = toc;
      defaults = defaults;
      clumps = [];
      dependents = [];
      code = [];
    }

-- ---- two numbers that share a byte

abbrev shared : Parts
shared = parts_of (entry 3 0 0 ∷ entry 1 0 1 ∷ []) (0 ∷ 0 ∷ 0 ∷ []) 2 2 0 0 0

abbrev two_numbers : Members
two_numbers = members (Number Uword ∷ Number Ubyte ∷ [])

numbers_overlap : TableRules.of_leaves shared 0 1 TableRules.share_a_byte two_numbers ≡ true
numbers_overlap = refl

-- ---- an array of three bytes

abbrev list_of_bytes : Members
list_of_bytes = members (Array 0 (Number Ubyte) ∷ [])

-- the row number, row 0, row 1, and the bytes
abbrev array_data : ℕ → ℕ → ℕ → List ℕ
array_data number rows count =
    number ∷ 0 ∷ 2 ∷ 0 ∷ 10 ∷ 0 ∷ rows ∷ 0 ∷ 0 ∷ 0 ∷ 0 ∷ 0 ∷ 22 ∷ 0 ∷ 1 ∷ 0 ∷ count ∷ 0 ∷ 0 ∷ 0 ∷ 0 ∷ 0 ∷ 97 ∷ 98 ∷ 0 ∷ []

abbrev array : ℕ → ℕ → ℕ → Parts
array number rows count = parts_of (entry 7 0 0 ∷ entry 1 0 0 ∷ []) (array_data number rows count) 2 25 2 23 2

abbrev array_ground : ℕ → ℕ → ℕ → Ground
array_ground number rows count = ground (array number rows count) list_of_bytes

space : dataspace (array 1 2 3) list_of_bytes ≡ array_data 1 2 3
space = refl

names_row_1 : reached (array_ground 1 2 3) ≡ 1 ∷ []
names_row_1 = refl

has_table : LayoutRules.lacks_table (array 1 2 3) list_of_bytes ≡ false
has_table = refl

lacks_table : LayoutRules.lacks_table (array 1 3 3) list_of_bytes ≡ true
lacks_table = refl

names_row : list_any (LayoutRules.names_no_row (array_ground 1 2 3)) (arrays_of (array_ground 1 2 3)) ≡ false
names_row = refl

names_no_row : list_any (LayoutRules.names_no_row (array_ground 2 2 3)) (arrays_of (array_ground 2 2 3)) ≡ true
names_no_row = refl

not_shared : LayoutRules.is_shared (array_ground 1 2 3) 1 ≡ false
not_shared = refl

strided : LayoutRules.is_missstrided (array_ground 1 2 3) 1 ≡ false
strided = refl

placed : LayoutRules.is_row_misplaced (array_ground 1 2 3) 1 ≡ false
placed = refl

misplaced : LayoutRules.is_row_misplaced (array_ground 1 2 4) 1 ≡ true
misplaced = refl

apart_from_table : LayoutRules.rows_share_a_byte (array_ground 1 2 3) 0 1 ≡ false
apart_from_table = refl

its_stride : all_with_strides (stride_of (array_ground 1 2 3)) 0 list_of_bytes ≡ members (Array 1 (Number Ubyte) ∷ [])
its_stride = refl

its_rows : file_rows (array 1 2 3) list_of_bytes ≡ 2
its_rows = refl

-- ---- a cluster that is not whole

-- a cluster of two members, of which one is there

-- ---- an array of arrays

abbrev word : ℕ → List ℕ
word n = n % 256 ∷ n / 256 ∷ []

abbrev dope : ℕ → ℕ → ℕ → List ℕ
dope place stride count = word place ++ word stride ++ word count ++ word 0 ++ word 0

-- row 1 has two row numbers, at 42; rows 2 and 3 have the bytes behind them
abbrev nested : ℕ → ℕ → ℕ → Parts
nested stride a b =
    let defaults =
    word 1 ++ dope 2 10 4 ++ dope 42 stride 2 ++ dope 46 1 3 ++ dope 49 1 2 ++ word a ++ word b ++ 1 ∷ 2 ∷ 3 ∷ 4 ∷ 5 ∷ []
    in
    parts_of (entry 7 0 0 ∷ entry 7 0 0 ∷ entry 1 0 0 ∷ []) defaults 2 51 2 49 2

abbrev list_of_lists : Members
list_of_lists = members (Array 0 (Array 0 (Number Ubyte)) ∷ [])

abbrev nested_ground : ℕ → ℕ → ℕ → Ground
nested_ground stride a b = ground (nested stride a b) list_of_lists

all_reached : reached (nested_ground 2 2 3) ≡ 1 ∷ 2 ∷ 3 ∷ []
all_reached = refl

two_strides : all_with_strides (stride_of (nested_ground 2 2 3)) 0 list_of_lists ≡ members (Array 2 (Array 1 (Number Ubyte)) ∷ [])
two_strides = refl

inner_shared : LayoutRules.is_shared (nested_ground 2 2 2) 2 ≡ true
inner_shared = refl

-- a list that names its own list's row
names_itself : LayoutRules.is_shared (nested_ground 2 1 3) 1 ≡ true
names_itself = refl

inner_names_no_row : list_any (LayoutRules.names_no_row (nested_ground 2 2 4)) (arrays_of (nested_ground 2 2 4)) ≡ true
inner_names_no_row = refl

-- elements of one byte are too short for a row number, and aren't read
short_stride : LayoutRules.is_missstrided (nested_ground 1 2 3) 1 ≡ true
short_stride = refl

not_read : reached (nested_ground 1 2 3) ≡ 1 ∷ []
not_read = refl
