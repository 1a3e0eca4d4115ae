-- When a file is refused for its table, its leaves or their defaults.
use Rattle.std.specs.Prelude.{◌<◌, ℕ, Bool, ◌&&◌, nat_lt, List, [], ◌∷◌, length, take, slice_get, if◌then◌else◌, IsTrue}
use Rattle.nxt_types.specs.Refusals.{passes}
use Rattle.nxt_types.specs.Shapes.{Shape, Members, Spells}
use Rattle.nxt_types.specs.declared.shape.TocEntry.{TocEntry}
use Rattle.nxt_rxe.specs.declared.parts.Parts.{Parts}
use Rattle.nxt_table.specs.declared.fault.TableFault.{TableFault}
use Rattle.nxt_table.specs.declared.fault.TableFault.TheVariants.{TypeCode, TypeOpen, Depth, MutexInside, Place, Overlap, DefaultsShort, NoMemory}
use Rattle.nxt_table.specs.Leaves.{Site, Leaf, sites, sites_in, voids_stand_alone, AreShapes, leaves, leaf_of, end_of, is_outside, are_together, is_mutex}
use Rattle.nxt_table.specs.Dataspace.{default_end}

-- ---- the table

-- the code of a type is not known
abbrev pub has_unknown_code : TocEntry → Bool
has_unknown_code e = nat_lt 9 e.code

-- whole variables end before the entry, and none begins at it that the table spells to its end
pub record IsOpen (table : List TocEntry) (e : ℕ) : Type 0 where
  pub before : Members
  pub whole : AreShapes (take e table) before
  pub inside : e < length table
  pub opens : (j : ℕ) (s : Shape) → Spells table e j s → IsTrue (voids_stand_alone (sites_in s 0 0 [])) → ⊥

-- more than 8 arrays and clusters enclose it
abbrev pub is_too_deep : Site → Bool
is_too_deep s = nat_lt 8 s.depth

abbrev pub is_mutex_inside : Site → Bool
is_mutex_inside s = is_mutex s.shape && nat_lt 0 s.depth

-- ---- the leaves

-- it ends behind the static bytes, or behind an element's greatest length
abbrev pub is_misplaced : ℕ → Leaf → Bool
is_misplaced static_size l = nat_lt (if is_outside l.arrays then static_size else 32768) (end_of l)

-- of a and the later b, outside or in one element
abbrev pub share_a_byte : Leaf → Leaf → Bool
share_a_byte a b =
    nat_lt a.entry b.entry && are_together a.arrays b.arrays && nat_lt a.place (end_of b) && nat_lt b.place (end_of a)

abbrev pub lacks_default : Parts → List Leaf → Leaf → Bool
lacks_default p ls l = l.has_default && nat_lt p.header.default_size (default_end ls l)

-- ---- rules

-- a test of the file's variables
abbrev pub OfShapes : Parts → (Members → Bool) → Type 0
OfShapes p test = (ss : Members) × AreShapes p.toc ss × IsTrue (test ss)

-- a test of the leaf of an entry, and one of two entries
abbrev pub of_leaf : Parts → ℕ → (List Leaf → Leaf → Bool) → Members → Bool
of_leaf p e test ss = let ls = leaves p.toc ss in passes (test ls) (leaf_of ls e)

abbrev pub of_leaves : Parts → ℕ → ℕ → (Leaf → Leaf → Bool) → Members → Bool
of_leaves p a b test ss = of_leaf p a (λ ls l. passes (test l) (leaf_of ls b)) ss

-- the rule of the fault is broken at the fault's place
abbrev pub Broken : Parts → TableFault → Type 0
Broken p (TypeCode e) = IsTrue (passes has_unknown_code (slice_get p.toc e))
Broken p (TypeOpen e) = IsOpen p.toc e
Broken p (Depth e) = OfShapes p (λ ss. passes is_too_deep (slice_get (sites ss) e))
Broken p (MutexInside e) = OfShapes p (λ ss. passes is_mutex_inside (slice_get (sites ss) e))
Broken p (Place e) = OfShapes p (of_leaf p e (λ ls. is_misplaced p.header.static_size))
Broken p (Overlap a b) = OfShapes p (of_leaves p a b share_a_byte)
Broken p (DefaultsShort e) = OfShapes p (of_leaf p e (lacks_default p))
Broken p NoMemory = ⊥

-- the rule's number, and the place
abbrev pub rank : TableFault → List ℕ
rank (TypeCode e) = 5 ∷ e ∷ []
rank (TypeOpen e) = 6 ∷ e ∷ []
rank (Depth e) = 7 ∷ e ∷ []
rank (MutexInside e) = 8 ∷ e ∷ []
rank (Place e) = 9 ∷ e ∷ []
rank (Overlap a b) = 10 ∷ a ∷ b ∷ []
rank (DefaultsShort e) = 11 ∷ e ∷ []
rank NoMemory = []
