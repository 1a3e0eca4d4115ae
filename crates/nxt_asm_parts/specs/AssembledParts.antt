-- The parts of the file that a parsed text is assembled to.
use Rattle.std.specs.Prelude.{ℕ, ◌+◌, ◌*◌, Bool, true, false, if◌then◌else◌, ◌==◌, List, [], ◌∷◌, ◌++◌, filter, flat_map, length}
use Rattle.std.specs.Int.{to_le_bytes, w16}
use Rattle.nxt_types.specs.Arithmetic.{width_of, word}
use Rattle.nxt_types.specs.Shapes.{Shape, Void, Number, Array, Cluster, Mutex, Members, no_members, member, leaf_bytes}
use Rattle.nxt_model.specs.Values.{Value, elements, number}
use Rattle.nxt_model.specs.TextProgram.{Text}
use Rattle.nxt_model.specs.Assembled.{assembled}
use Rattle.nxt_rxe.specs.declared.parts.Header.{Header}
use Rattle.nxt_rxe.specs.declared.parts.Parts.{Parts}

-- ---- leaves with their values

abbrev pub Valued : Type 0
Valued = Shape × Value

-- the leaves that stand in no array's element, in the table's order
abbrev mutual
  pub leaves_in : Shape → Value → List Valued
  leaves_in Void v = []
  leaves_in (Number k) v = (Number k, v) ∷ []
  leaves_in (Array n s) v = (Array n s, v) ∷ []
  leaves_in (Cluster ss) v = leaves_among ss (elements v)
  leaves_in Mutex v = (Mutex, v) ∷ []

  pub leaves_among : Members → List Value → List Valued
  leaves_among no_members vs = []
  leaves_among (member s ss) [] = []
  leaves_among (member s ss) (v ∷ vs) = leaves_in s v ++ leaves_among ss vs

abbrev pub leaves_of : Text → List Valued
leaves_of p = leaves_among (assembled p).shapes (elements (assembled p).values)

abbrev pub is_array : Valued → Bool
is_array (Array n s, v) = true
is_array _ = false

abbrev pub arrays_of : Text → List Valued
arrays_of p = filter is_array (leaves_of p)

-- ---- defaults

-- a number's bytes
abbrev pub number_bytes : Shape → Value → List ℕ
number_bytes (Number k) v = to_le_bytes (width_of k) (word (number v))
number_bytes s v = []

-- the static defaults: a number, an array's row, counted from `row` on, or four zeros
abbrev pub defaults_from : ℕ → List Valued → List ℕ
defaults_from row [] = []
defaults_from row ((Number k, v) ∷ ls) = number_bytes (Number k) v ++ defaults_from row ls
defaults_from row ((Array n s, v) ∷ ls) = to_le_bytes w16 row ++ defaults_from (row + 1) ls
defaults_from row ((Mutex, v) ∷ ls) = 0 ∷ 0 ∷ 0 ∷ 0 ∷ defaults_from row ls
defaults_from row ((s, v) ∷ ls) = defaults_from row ls

abbrev pub static_defaults : Text → List ℕ
static_defaults p = defaults_from 1 (leaves_of p)

-- the bytes of a list of numbers
abbrev pub element_of : Shape → Shape
element_of (Array n s) = s
element_of s = Void

abbrev pub list_bytes_of : Valued → List ℕ
list_bytes_of (s, v) = flat_map (number_bytes (element_of s)) (elements v)

-- ---- rows

abbrev pub row_bytes : ℕ → ℕ → ℕ → List ℕ
row_bytes place stride count = flat_map (to_le_bytes w16) (place ∷ stride ∷ count ∷ 0 ∷ 0 ∷ [])

abbrev pub place_of : ℕ → Valued → ℕ
place_of at (s, v) = if length (elements v) == 0 then 65535 else at

-- the rows of arrays whose bytes stand one after another from a place on
abbrev pub rows_from : ℕ → List Valued → List ℕ
rows_from at [] = []
rows_from at (a ∷ as') =
    row_bytes (place_of at a) (leaf_bytes (element_of a.0)) (length (elements a.1))
    ++ rows_from (at + length (list_bytes_of a)) as'

abbrev pub row_count : Text → ℕ
row_count p = length (arrays_of p) + 1

-- the table of rows behind the static bytes, and then the lists' bytes; nothing where there are no arrays
abbrev pub dynamic_of : ℕ → List Valued → List ℕ
dynamic_of static_size [] = []
dynamic_of static_size (a ∷ as') =
    let n = length as' + 2 in
    row_bytes static_size 10 n ++ rows_from (static_size + 10 * n) (a ∷ as') ++ flat_map list_bytes_of (a ∷ as')

abbrev pub dynamic_defaults : Text → List ℕ
dynamic_defaults p = dynamic_of (assembled p).static_size (arrays_of p)

-- ---- parts

abbrev pub dope_place : ℕ → List Valued → ℕ
dope_place static_size [] = 0
dope_place static_size (a ∷ as') = static_size

abbrev pub header_of : Text → Header
header_of p =
    let image = assembled p in
    let static = static_defaults p in
    let dynamic = dynamic_defaults p in
    record {
      toc_count = length image.entries;
      initial = image.static_size + length dynamic;
      static_size = image.static_size;
      default_size = length static + length dynamic;
      dyn_at = length static;
      dyn_size = length dynamic;
      head = 0;
      tail = 0;
      dope_at = dope_place image.static_size (arrays_of p);
      clump_count = length image.clumps;
      word_count = length image.words;
    }

abbrev pub parts_of : Text → Parts
parts_of p =
    let image = assembled p in
    record {
      header = header_of p;
      toc = image.entries;
      defaults = static_defaults p ++ dynamic_defaults p;
      clumps = image.clumps;
      dependents = image.dependents;
      code = image.words;
    }
