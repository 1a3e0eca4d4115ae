-- What encloses each entry of a table, by one pass over its entries.
use Rattle.std.specs.Prelude.{◌≡◌, ℕ, ◌+◌, ◌-◌, Bool, ◌&&◌, ◌==◌, nat_lt, nat_le, false, List, [], ◌∷◌, map, length, Option, Some, None, if◌then◌else◌}
use Rattle.nxt_types.specs.declared.shape.TocEntry.{TocEntry}
use Rattle.nxt_types.specs.Shapes.{outline}
use Rattle.nxt_table.specs.declared.item.Item.{Item}
use Rattle.nxt_table.specs.declared.item.Item.TheVariants.{Array, Cluster}
use Rattle.nxt_table.specs.declared.enclosing.Frame.{Frame}
use Rattle.nxt_table.specs.declared.enclosing.NestedEntry.{NestedEntry}
use Rattle.nxt_table.specs.declared.fault.TableFault.{TableFault}
use Rattle.nxt_table.specs.declared.fault.TableFault.TheVariants.{Depth, NoMemory}
use Rattle.nxt_table.specs.Inside.Items.{item, first_from, needs_behind}

-- how many arrays and clusters enclose an entry, and the next array around it
pub record Mark : Type 0 where
  pub depth : ℕ
  pub array : Option ℕ

-- ---- frames: what is open before an entry, the next one first

-- the next array around
abbrev pub around : List Frame → Option ℕ
around [] = None
around (f ∷ fs) = f.array

-- those that are still open where a variable needs n more shapes
abbrev pub still_open : ℕ → List Frame → List Frame
still_open n [] = []
still_open n (f ∷ fs) = if nat_lt f.floor n then f ∷ fs else still_open n fs

-- the next one is over
abbrev pub ends_where : ℕ → List Frame → Bool
ends_where n [] = false
ends_where n (f ∷ fs) = nat_le n f.floor

-- with that of entry i, before which n shapes are needed
abbrev pub opened : ℕ → List Frame → ℕ → Option Item → List Frame
opened n fs i (Some Array) = record { floor = n - 1; array = Some i } ∷ fs
opened n fs i (Some (Cluster m)) = record { floor = n - 1; array = around fs } ∷ fs
opened n fs i _ = fs

abbrev pub frames_behind : ℕ → List Frame → ℕ → Option Item → List Frame
frames_behind n fs i x = still_open (needs_behind n x) (opened n fs i x)

-- ---- entries

abbrev pub mark : List Frame → Mark
mark fs = record { depth = length fs; array = around fs }

-- what encloses the entries from i on, before which n shapes are needed and these frames are open
abbrev pub marks_from : ℕ → List Frame → ℕ → List (ℕ × ℕ) → List Mark
marks_from n fs i [] = []
marks_from n fs i (o ∷ os) = mark fs ∷ marks_from (needs_behind n (item o)) (frames_behind n fs i (item o)) (i + 1) os

abbrev pub marks : List TocEntry → List Mark
marks table = marks_from 0 [] 0 (map outline table)

-- the entries with their marks
abbrev pub placed_by : List TocEntry → List Mark → List NestedEntry
placed_by [] ms = []
placed_by (e ∷ es) [] = []
placed_by (e ∷ es) (m ∷ ms) = record { entry = e; depth = m.depth; array = m.array } ∷ placed_by es ms

abbrev pub placed_entries : List TocEntry → List NestedEntry
placed_entries table = placed_by table (marks table)

-- ---- tests

abbrev pub is_deep : Mark → Bool
is_deep m = nat_lt 8 m.depth

-- the answer is the first entry that is too deep, or there was no memory
abbrev pub DeepFirst : List Mark → TableFault → Type 0
DeepFirst ms (Depth e) = first_from is_deep 0 ms ≡ Some e
DeepFirst ms NoMemory = Unit {0}
DeepFirst ms _ = ⊥

abbrev pub is_inner_mutex : NestedEntry → Bool
is_inner_mutex p = (p.entry.code == 9) && nat_lt 0 p.depth
