-- What the passes over a table's leaves compute.
use Rattle.std.specs.Prelude.{ℕ, ◌+◌, ◌%◌, Bool, true, false, ◌&&◌, ◌==◌, nat_lt, List, [], ◌∷◌, ◌++◌, find, slice_range, option_map, is_none, Option, Some, None, if◌then◌else◌}
use Rattle.nxt_types.specs.Arithmetic.{leaf_size}
use Rattle.nxt_types.specs.Shapes.{outline}
use Rattle.nxt_table.specs.declared.item.Item.{Item}
use Rattle.nxt_table.specs.declared.item.Item.TheVariants.{Void, Number, Array, Cluster, Mutex}
use Rattle.nxt_table.specs.declared.enclosing.NestedEntry.{NestedEntry}
use Rattle.nxt_table.specs.declared.leaves.PlacedLeaf.{PlacedLeaf}
use Rattle.nxt_table.specs.Inside.Items.{item}
use Rattle.nxt_facts.specs.PutAt.{put_at}

-- ---- leaves

-- the bytes that a leaf takes; an array is its row number
abbrev pub bytes_of : Item → ℕ
bytes_of Void = 0
bytes_of (Number k) = leaf_size k
bytes_of Array = 2
bytes_of (Cluster m) = 0
bytes_of Mutex = 4

abbrev pub leaf_by : ℕ → NestedEntry → Item → PlacedLeaf
leaf_by i p x =
    record {
      entry = i;
      place = p.entry.desc;
      item = x;
      array = p.array;
      has_default = is_none p.array && (p.entry.flags % 2 == 0);
    }

-- the leaf of entry i, if it is one
abbrev pub leaf_list : ℕ → NestedEntry → Option Item → List PlacedLeaf
leaf_list i p (Some (Number k)) = leaf_by i p (Number k) ∷ []
leaf_list i p (Some Array) = leaf_by i p Array ∷ []
leaf_list i p (Some Mutex) = leaf_by i p Mutex ∷ []
leaf_list i p _ = []

abbrev pub leaves_from : ℕ → List NestedEntry → List PlacedLeaf
leaves_from i [] = []
leaves_from i (p ∷ ps) = leaf_list i p (item (outline p.entry)) ++ leaves_from (i + 1) ps

-- ---- places

abbrev pub width_of : PlacedLeaf → ℕ
width_of l = bytes_of l.item

abbrev pub leaf_end : PlacedLeaf → ℕ
leaf_end l = l.place + width_of l

abbrev pub passes_end : ℕ → PlacedLeaf → Bool
passes_end static_size l = nat_lt (if is_none l.array then static_size else 32768) (leaf_end l)

-- the entry of the first leaf that passes the test
abbrev pub first_leaf : (PlacedLeaf → Bool) → List PlacedLeaf → Option ℕ
first_leaf test ls = option_map (λ l. l.entry) (find test ls)

-- ---- defaults

-- the first leaf whose default ends past so many bytes, of which `at` are those of the leaves before
abbrev pub lacking_from : ℕ → ℕ → List PlacedLeaf → Option ℕ
lacking_from size at [] = None
lacking_from size at (l ∷ ls) =
    if l.has_default then if nat_lt size (at + width_of l) then Some l.entry else lacking_from size (at + width_of l) ls
    else lacking_from size at ls

abbrev pub is_mutex_item : Item → Bool
is_mutex_item Mutex = true
is_mutex_item _ = false

abbrev pub is_mutex_leaf : PlacedLeaf → Bool
is_mutex_leaf l = is_mutex_item l.item

-- the bytes with the defaults of the leaves, of which `at` bytes are those of the leaves before
abbrev pub filled_from : List ℕ → ℕ → List PlacedLeaf → List ℕ → List ℕ
filled_from defaults at [] bytes = bytes
filled_from defaults at (l ∷ ls) bytes =
    if l.has_default then filled_from defaults (at + width_of l) ls (if is_mutex_leaf l then bytes else put_at l.place (slice_range defaults at (at + width_of l)) bytes)
    else filled_from defaults at ls bytes

-- ---- overlaps

-- both outside, or both in the element of one array
abbrev pub same_array : Option ℕ → Option ℕ → Bool
same_array None None = true
same_array None (Some b) = false
same_array (Some a) None = false
same_array (Some a) (Some b) = a == b

abbrev pub leaves_share : PlacedLeaf → PlacedLeaf → Bool
leaves_share a b = same_array a.array b.array && nat_lt a.place (leaf_end b) && nat_lt b.place (leaf_end a)

-- the pair of entry a and the other one, if there is one
abbrev pub pair_or : ℕ → Option ℕ → Option (ℕ × ℕ) → Option (ℕ × ℕ)
pair_or a None later = later
pair_or a (Some b) later = Some (a, b)

-- the first leaf that shares a byte with a later one, and the first of those
abbrev pub first_pair : List PlacedLeaf → Option (ℕ × ℕ)
first_pair [] = None
first_pair (l ∷ ls) = pair_or l.entry (first_leaf (leaves_share l) ls) (first_pair ls)
