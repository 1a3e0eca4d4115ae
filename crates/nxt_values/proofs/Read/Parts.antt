-- Where parts of values stand.
use Rattle.std.proofs.Common.{◌≡◌, Box, Global, ℕ, ◌+◌, ◌<◌, ◌^◌, List, ◌∷◌, get_or, refl, sym, ap, ◌∙◌, subst, arith}
use Rattle.std.specs.Prelude.{pos}
use Rattle.nxt_types.specs.Shapes.{Shape, Array, tree}
use Rattle.nxt_types.specs.declared.shape.Shape as seen
use Rattle.nxt_types.specs.Names.{size}
use Rattle.nxt_types.specs.declared.shape.TocEntry.{TocEntry}
use Rattle.nxt_model.specs.Values.{Value, Num, elements, part}
use Rattle.nxt_heap.specs.Lists.{Lists}
use Rattle.nxt_values.specs.Regions.{IsRegion, HoldsThere, value_there}
use Rattle.nxt_values.specs.Parts.{AreWithin}
use Rattle.nxt_values.specs.declared.reading.Place.{Place}

-- of a part's positions these are left, and the part that they lead to is the whole's
pub record PartLeft (table : List TocEntry) (h : Lists) (s : Shape) (at : Place) (ks : List ℕ) (whole : Value) : Type 0 where
  pub region : IsRegion h at.region
  pub entries : at.entry + size s < 2 ^ 16
  pub holds : HoldsThere table h s at
  pub within : AreWithin s (value_there table h s at) ks
  pub same : part ks (value_there table h s at) ≡ whole

-- a shape with a position is a list's
pub no_list : (table : List TocEntry) (h : Lists) (shape : seen.Shape) (at : Place) (k : ℕ) (ks : List ℕ) (whole : Value) → ((stride : ℕ) (element : Box seen.Shape Global) → shape ≡ seen.List stride element → ⊥) → PartLeft table h (tree shape) at (k ∷ ks) whole → ⊥
no_list table h seen.Void at k ks whole other left = left.within
no_list table h (seen.Num n) at k ks whole other left = left.within
no_list table h (seen.List' stride p s) at k ks whole other left = other stride (record { ptr = p.ptr; alloc = p.alloc; value = s }) refl
no_list table h (seen.Group' n ss) at k ks whole other left = left.within
no_list table h seen.Mutex at k ks whole other left = left.within

-- one position less
pub part_more : (table : List TocEntry) (h : Lists) (s : Shape) (stride : ℕ) (list at : Place) (k : ℕ) (ks : List ℕ) (whole : Value) → PartLeft table h (Array stride s) list (k ∷ ks) whole → IsRegion h at.region → at.entry ≡ list.entry + 1 → HoldsThere table h s at → value_there table h s at ≡ get_or (elements (value_there table h (Array stride s) list)) k (Num (pos 0)) → PartLeft table h s at ks whole
part_more table h s stride list at k ks whole left region next holds value =
    record {
      region = region;
      entries = omega (arith, next, left.entries);
      holds = holds;
      within = subst (λ v. AreWithin s v ks) (sym value) left.within.1;
      same = ap (part ks) value ∙ left.same;
    }
