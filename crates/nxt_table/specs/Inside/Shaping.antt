-- The shapes that a table's entries spell, from the last entry to the first.
use Rattle.std.specs.Prelude.{ℕ, ◌+◌, List, [], ◌∷◌, take, drop, is_none, Option, Some, None, if◌then◌else◌}
use Rattle.nxt_types.specs.Shapes.{Shape, Void, Number, Array, Mutex, cluster_of, outline}
use Rattle.nxt_table.specs.declared.item.Item.{Item}
use Rattle.nxt_table.specs.declared.item.Item.TheVariants as items
use Rattle.nxt_table.specs.declared.enclosing.NestedEntry.{NestedEntry}
use Rattle.nxt_table.specs.Inside.Items.{item}

-- the array with stride n of the first shape
abbrev pub array_of_first : ℕ → List Shape → List Shape
array_of_first n [] = []
array_of_first n (s ∷ ss) = Array n s ∷ ss

-- the shapes from an item on, by those behind it; if it is an array, its stride is n
abbrev pub stacked : ℕ → Option Item → List Shape → List Shape
stacked n None ss = ss
stacked n (Some items.Void) ss = Void ∷ ss
stacked n (Some (items.Number k)) ss = Number k ∷ ss
stacked n (Some items.Array) ss = array_of_first n ss
stacked n (Some (items.Cluster m)) ss = cluster_of (take m ss) ∷ drop m ss
stacked n (Some items.Mutex) ss = Mutex ∷ ss

-- the shapes from entry i on, with the strides that f gives for the entries
abbrev pub shapes_from : (ℕ → ℕ) → ℕ → List NestedEntry → List Shape
shapes_from f i [] = []
shapes_from f i (p ∷ ps) = stacked (f i) (item (outline p.entry)) (shapes_from f (i + 1) ps)

abbrev pub first_shape : List Shape → Option Shape
first_shape [] = None
first_shape (s ∷ ss) = Some s

-- the shape at each entry from entry i on that stands in no array's element
abbrev pub outside_shapes : (ℕ → ℕ) → ℕ → List NestedEntry → List (Option Shape)
outside_shapes f i [] = []
outside_shapes f i (p ∷ ps) =
    (if is_none p.array then first_shape (shapes_from f i (p ∷ ps)) else None) ∷ outside_shapes f (i + 1) ps
