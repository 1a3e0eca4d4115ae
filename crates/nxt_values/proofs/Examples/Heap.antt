-- A worked heap: a cluster of a number and of a list of two lists.
use Rattle.std.proofs.Common.{◌≡◌, ◌≢◌, ℕ, zero, suc, ◌==◌, true, List, [], ◌∷◌, Option, Some, None, refl, arith}
use Rattle.std.specs.Prelude.{pos}
use Rattle.std.specs.List.{list_any}
use Rattle.nxt_types.specs.Shapes.{Members, no_members, member, Number, Array, Cluster}
use Rattle.nxt_types.specs.declared.kind.Kind.TheVariants.{Ubyte}
use Rattle.nxt_types.specs.declared.shape.TocEntry.{TocEntry}
use Rattle.nxt_model.specs.Values.{Num, list_of, group_of}
use Rattle.nxt_facts.proofs.Pairs.{all_pairs}
use Rattle.nxt_heap.specs.Lists.{Lists, ByteList, IsAlive}
use Rattle.nxt_values.specs.Held.{values_in, rows_among, HasElements, Holds, IsHeld}

abbrev entry : ℕ → ℕ → TocEntry
entry code desc = record { code = code; flags = 0; desc = desc }

-- in the static bytes the row number stands first, and the number behind it
abbrev table : List TocEntry
table = entry 8 2 ∷ entry 1 2 ∷ entry 7 0 ∷ entry 7 0 ∷ entry 1 0 ∷ []

abbrev shapes : Members
shapes = member (Cluster (member (Number Ubyte) (member (Array 2 (Array 1 (Number Ubyte))) no_members))) no_members

abbrev list : ℕ → List ℕ → Option ByteList
list stride bytes = Some (record { stride = stride; bytes = bytes })

abbrev heap : Lists
heap = record {
  static_bytes = 1 ∷ 0 ∷ 9 ∷ [];
  by_row = None ∷ list 2 (3 ∷ 0 ∷ 2 ∷ 0 ∷ []) ∷ list 1 [] ∷ list 1 (5 ∷ 6 ∷ []) ∷ [];
}

reads : values_in table shapes heap
    ≡ group_of (group_of (Num (pos 9) ∷ list_of (list_of (Num (pos 5) ∷ Num (pos 6) ∷ []) ∷ list_of [] ∷ []) ∷ []) ∷ [])
reads = refl

rows : rows_among table heap shapes 0 heap.static_bytes 0 ≡ 1 ∷ 3 ∷ 2 ∷ []
rows = refl

named : (row : ℕ) → IsAlive heap row → list_any (λ r. r == row) (1 ∷ 3 ∷ 2 ∷ []) ≡ true
named zero alive = let f : ⊥ = cc in absurd f
named (suc zero) alive = refl
named (suc (suc zero)) alive = refl
named (suc (suc (suc zero))) alive = refl
named (suc (suc (suc (suc r)))) alive = let f : ⊥ = cc in absurd f

full : HasElements heap 3 1 (Holds table heap (Number Ubyte) 4)
full = record {
  count = 2;
  bytes = 5 ∷ 6 ∷ [];
  some = omega arith;
  here = refl;
  whole = refl;
  elements = (omega arith, (omega arith, tt));
}

empty : HasElements heap 2 1 (Holds table heap (Number Ubyte) 4)
empty = record { count = 0; bytes = []; some = omega arith; here = refl; whole = refl; elements = tt }

outer : HasElements heap 1 2 (Holds table heap (Array 1 (Number Ubyte)) 3)
outer = record {
  count = 2;
  bytes = 3 ∷ 0 ∷ 2 ∷ 0 ∷ [];
  some = omega arith;
  here = refl;
  whole = refl;
  elements = ((omega arith, full), ((omega arith, empty), tt));
}

is_held : IsHeld table shapes heap
is_held = record {
  spelled = record { entries = refl; filled = refl };
  holds = ((omega arith, ((omega arith, outer), tt)), tt);
  own = all_pairs
      (λ a b. a ≢ b)
      (1 ∷ 3 ∷ 2 ∷ [])
      (((λ e. omega (arith, e)), ((λ e. omega (arith, e)), tt)), (((λ e. omega (arith, e)), tt), (tt, tt)));
  named = named;
}
