-- Values in which no list stands, and lists of such values.
use Rattle.std.proofs.Common.{◌≡◌, ℕ, true, false, List, Box, Global, refl, sym, ap, ◌∙◌}
use Rattle.std.specs.Prelude.{ℤ}
use Rattle.std.proofs.lemmas.Bool.{or_parts}
use Rattle.nxt_types.specs.Shapes.{Shape, Void, Number, Array, Cluster, Mutex, has_list, some_list, tree}
use Rattle.nxt_types.specs.declared.shape.Shape as seen
use Rattle.nxt_types.specs.declared.shape.TocEntry.{TocEntry}
use Rattle.nxt_heap.specs.Lists.{Lists}
use Rattle.nxt_values.specs.Ahead.{ahead, IsNext}
use Rattle.nxt_values.specs.Writes.{has_inner_list}
use Rattle.nxt_values.specs.Elements.{GetsNoLonger}
use Rattle.nxt_values.specs.declared.members.Members as cursor
use Rattle.nxt_values.specs.declared.reading.Place.{Place}

-- of members without lists the first is one, and so are the others
pub none_ahead : {old new : cursor.Members} {s : Shape} {at : Place} → IsNext old s at new → some_list (ahead old) ≡ false → (has_list s ≡ false) × (some_list (ahead new) ≡ false)
none_ahead {old} {new} {s} step none = or_parts (has_list s) (some_list (ahead new)) (sym (ap some_list step.shapes) ∙ none)

-- a value in a part of which a list stands
pub inner_list : (s : Shape) → has_inner_list s ≡ true → has_list s ≡ false → ⊥
inner_list Void some none = let f : ⊥ = cc in f
inner_list (Number k) some none = let f : ⊥ = cc in f
inner_list (Array stride s) some none = let f : ⊥ = cc in f
inner_list (Cluster ss) some none = let f : ⊥ = cc in f
inner_list Mutex some none = let f : ⊥ = cc in f

pub inner_longer : (table : List TocEntry) (h : Lists) (s : Shape) (p : Place) (zs : List ℤ) → has_inner_list s ≡ true → GetsNoLonger table h s p zs → ⊥
inner_longer table h Void p zs some less = less
inner_longer table h (Number k) p zs some less = less
inner_longer table h (Array stride s) p zs some less = let none = less.0 in let f : ⊥ = cc in f
inner_longer table h (Cluster ss) p zs some less = less
inner_longer table h Mutex p zs some less = less

-- what is no list
pub not_longer : (table : List TocEntry) (h : Lists) (shape : seen.Shape) (p : Place) (zs : List ℤ) → ((stride : ℕ) (element : Box seen.Shape Global) → shape ≡ seen.List stride element → ⊥) → GetsNoLonger table h (tree shape) p zs → ⊥
not_longer table h seen.Void p zs other less = less
not_longer table h (seen.Num k) p zs other less = less
not_longer table h (seen.List' stride q s) p zs other less = other stride (record { ptr = q.ptr; alloc = q.alloc; value = s }) refl
not_longer table h (seen.Group' n ss) p zs other less = less
not_longer table h seen.Mutex p zs other less = less
