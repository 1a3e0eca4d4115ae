-- What the rules 9 and 13 to 17 say of a file's leaves and rows, where none is broken.
use Rattle.std.proofs.Common.{◌≡◌, ℕ, ◌+◌, ◌≤◌, ◌<◌, Bool, true, false, ◌&&◌, ◌||◌, not, ◌==◌, nat_lt, nat_le, List, [], ◌∷◌, ◌++◌, filter, flat_map, count_by, Some, if◌then◌else◌, inl, inr, refl, sym, ap, ◌∙◌, subst, eq-eqb, ltb-false}
use Rattle.std.specs.List.{list_any}
use Rattle.std.proofs.lemmas.Bool.{cases_Bool, false_from_ne_true, and_from, or_parts, leb-false, or_right}
use Rattle.std.proofs.lemmas.List.Elements.{filter-append}
use Rattle.nxt_types.specs.Refusals.{IsAccepted}
use Rattle.nxt_types.specs.Refusals.{passes}
use Rattle.nxt_types.specs.Shapes.{Shape, Void, Number, Array, Cluster, Mutex, Members, no_members, member, has_list, some_list}
use Rattle.nxt_types.specs.Names.{size}
use Rattle.nxt_types.specs.declared.shape.TocEntry.{TocEntry}
use Rattle.nxt_rxe.specs.declared.parts.Parts.{Parts}
use Rattle.nxt_model.specs.Reading.{row_count}
use Rattle.nxt_table.specs.declared.fault.TableFault.TheVariants.{Place}
use Rattle.nxt_layout.specs.declared.fault.LayoutFault.TheVariants.{Table, RowIndex, RowShared, Stride, RowPlace, RowOverlap}
use Rattle.nxt_table.specs.Leaves.{leaves, leaf_of, end_of, extent, stands_in, is_outside, AreShapes}
use Rattle.nxt_layout.specs.Rows.{Ground, is_placed, is_strided, has_elements, numbers_of, reached_through, reached, arrays_of, is_array, is_full}
use Rattle.nxt_layout.specs.Start.{ground}
use Rattle.nxt_layout.specs.LayoutRules.{Broken, of_rows, names_no_row, is_shared, is_missstrided, is_row_misplaced, rows_share_a_byte, place_of_row, end_of_row}
use Rattle.nxt_table.specs.TableRules.{OfShapes, is_misplaced}
use Rattle.nxt_facts.proofs.Each.{Each, each_then, each_both, each_kept, each_part}
use Rattle.nxt_facts.proofs.Sums.{tally, tally_is, is_it}
use Rattle.nxt_layout.proofs.Start.Leaves.{leaves_in, leaves_among, room, HasFairRows, IsFair}
use Rattle.nxt_layout.proofs.Start.LeafOrder.{leaves_found, some_found, in_extent}

-- ---- tests of lists

none_passes : {X : Type 0} (p : X → Bool) (xs : List X) → list_any p xs ≡ false → Each (λ x. p x ≡ false) xs
none_passes p [] e = tt
none_passes p (x ∷ xs) e = let two = or_parts (p x) (list_any p xs) e in (two.0, none_passes p xs two.1)

has_itself : (ns : List ℕ) → Each (λ r. list_any (is_it r) ns ≡ true) ns
has_itself [] = tt
has_itself (n ∷ ns) = (
  ap (λ b. b || list_any (is_it n) ns) (eq-eqb n n refl),
  each_then
      (λ r. list_any (is_it r) ns ≡ true)
      (λ r. list_any (is_it r) (n ∷ ns) ≡ true)
      (λ r e. or_right (n == r) (list_any (is_it r) ns) e)
      ns
      (has_itself ns),
)

each_for_all : {X Y : Type 0} (P : Y → X → Type 0) (xs : List X) → ((y : Y) → Each (P y) xs) → Each (λ x. (y : Y) → P y x) xs
each_for_all P [] h = tt
each_for_all P (x ∷ xs) h = (λ y. (h y).0, each_for_all P xs (λ y. (h y).1))

-- ---- the tests of a file's rows

-- no test of rows is passed
pub record AreKept (g : Ground) : Type 0 where
  pub index : (e : ℕ) → passes (names_no_row g) (leaf_of (arrays_of g) e) ≡ false
  pub shared : (r : ℕ) → is_shared g r ≡ false
  pub stride : (r : ℕ) → is_missstrided g r ≡ false
  pub placed : (r : ℕ) → is_row_misplaced g r ≡ false
  pub apart : (q r : ℕ) → rows_share_a_byte g q r ≡ false

-- none of these rules is broken
pub record KeepsRows (p : Parts) : Type 0 where
  pub index : (e : ℕ) → Broken p (RowIndex e) → ⊥
  pub shared : (r : ℕ) → Broken p (RowShared r) → ⊥
  pub stride : (r : ℕ) → Broken p (Stride r) → ⊥
  pub placed : (r : ℕ) → Broken p (RowPlace r) → ⊥
  pub apart : (q r : ℕ) → Broken p (RowOverlap q r) → ⊥

pub keeps_rows : (p : Parts) → IsAccepted (Broken p) → KeepsRows p
keeps_rows p accepted =
    record {
      index = λ e. accepted (RowIndex e);
      shared = λ r. accepted (RowShared r);
      stride = λ r. accepted (Stride r);
      placed = λ r. accepted (RowPlace r);
      apart = λ q r. accepted (RowOverlap q r);
    }

is_kept : (p : Parts) (plain : Members) (test : Ground → Bool) → AreShapes p.toc plain → some_list plain ≡ true → (OfShapes p (of_rows p test) → ⊥) → test (ground p plain) ≡ false
is_kept p plain test shapes some rule =
    false_from_ne_true (test (ground p plain)) (λ h. rule (plain, shapes, and_from (some_list plain) (test (ground p plain)) some h))

-- where there is no list, no row is reached
mutual
  no_array : (table : List TocEntry) (s : Shape) (i : ℕ) (arrays : List ℕ) → has_list s ≡ false → filter (λ l. is_array l.shape) (leaves_in table s i arrays) ≡ []
  no_array table Void i arrays e = refl
  no_array table (Number k) i arrays e = refl
  no_array table (Array n s) i arrays e = let f : ⊥ = cc in absurd f
  no_array table (Cluster ss) i arrays e = no_arrays table ss (i + 1) arrays e
  no_array table Mutex i arrays e = refl

  no_arrays : (table : List TocEntry) (ss : Members) (i : ℕ) (arrays : List ℕ) → some_list ss ≡ false → filter (λ l. is_array l.shape) (leaves_among table ss i arrays) ≡ []
  no_arrays table no_members i arrays e = refl
  no_arrays table (member s ss) i arrays e =
      let two = or_parts (has_list s) (some_list ss) e in
      filter-append (λ l. is_array l.shape) (leaves_in table s i arrays) (leaves_among table ss (i + size s) arrays)
      ∙ ap (λ ls. ls ++ filter (λ l. is_array l.shape) (leaves_among table ss (i + size s) arrays)) (no_array table s i arrays two.0)
      ∙ no_arrays table ss (i + size s) arrays two.1

not_third : (a b c d e : Bool) → c ≡ false → (a && b && c && d && e) ≡ false
not_third true true true d e h = absurd (let f : ⊥ = cc in f)
not_third true true false d e h = refl
not_third true false c d e h = refl
not_third false b c d e h = refl

kept_without : (g : Ground) → arrays_of g ≡ [] → AreKept g
kept_without g none =
    let rows : reached g ≡ [] = ap (flat_map (reached_through g)) none in
    let full : (r : ℕ) → is_full g r ≡ false = λ r. ap (λ rs. list_any (is_it r) rs && has_elements g r) rows in
    record {
      index = λ e. ap (λ ls. passes (names_no_row g) (leaf_of ls e)) none;
      shared = λ r. ap (λ rs. nat_lt 1 (count_by (λ q. q == r) rs)) rows;
      stride = λ r.
          ap
          (list_any (λ l. let rows = reached_through g l in list_any (λ q. q == r) rows && not (is_strided g l.entry rows r)))
          none;
      placed = λ r. ap (λ b. b && not (is_placed g r)) (full r);
      apart = λ q r. not_third (nat_lt q r) ((q == 0) || is_full g q) (is_full g r) (nat_lt (place_of_row g q) (end_of_row g r)) (nat_lt (place_of_row g r) (end_of_row g q)) (full r);
    }

pub kept_without_list : (p : Parts) (plain : Members) → leaves p.toc plain ≡ leaves_among p.toc plain 0 [] → some_list plain ≡ false → AreKept (ground p plain)
kept_without_list p plain order none =
    kept_without (ground p plain) (ap (filter (λ l. is_array l.shape)) order ∙ no_arrays p.toc plain 0 [] none)

pub are_kept : (p : Parts) (plain : Members) → AreShapes p.toc plain → leaves p.toc plain ≡ leaves_among p.toc plain 0 [] → KeepsRows p → AreKept (ground p plain)
are_kept p plain shapes order rules =
    elim (cases_Bool (some_list plain)) [
      | inl some ↦ record {
        index = λ e. is_kept p plain (λ g. passes (names_no_row g) (leaf_of (arrays_of g) e)) shapes some (rules.index e);
        shared = λ r. is_kept p plain (λ g. is_shared g r) shapes some (rules.shared r);
        stride = λ r. is_kept p plain (λ g. is_missstrided g r) shapes some (rules.stride r);
        placed = λ r. is_kept p plain (λ g. is_row_misplaced g r) shapes some (rules.placed r);
        apart = λ q r. is_kept p plain (λ g. rows_share_a_byte g q r) shapes some (rules.apart q r);
      }
      | inr none ↦ kept_without_list p plain order none
    ]

-- ---- what that says of each array

named_rows : (p : Parts) (plain : Members) → AreKept (ground p plain) → Each (λ l. Each (λ r. r < row_count (ground p plain).memory) (numbers_of (ground p plain) l)) (arrays_of (ground p plain))
named_rows p plain kept =
    let g = ground p plain in
    each_then
    (λ l. leaf_of (arrays_of g) l.entry ≡ Some l)
    (λ l. Each (λ r. r < row_count g.memory) (numbers_of g l))
    (λ l e.
    each_then
    (λ r. nat_le (row_count g.memory) r ≡ false)
    (λ r. r < row_count g.memory)
    (λ r h. leb-false (row_count g.memory) r h)
    (numbers_of g l)
    (none_passes
    (λ r. nat_le (row_count g.memory) r)
    (numbers_of g l)
    (subst (λ o. passes (names_no_row g) o ≡ false) e (kept.index l.entry))))
    (arrays_of g)
    (some_found (λ l. is_array l.shape) p.toc plain)

placed_it : (any has x : Bool) → any ≡ true → ((any && has) && not (not has || x)) ≡ false → (not has || x) ≡ true
placed_it any false x a e = refl
placed_it any true true a e = refl
placed_it true true false a e = absurd (let f : ⊥ = cc in f)
placed_it false true false a e = absurd (let f : ⊥ = cc in f)

placed_rows : (g : Ground) → AreKept g → Each (λ l. Each (λ r. is_placed g r ≡ true) (reached_through g l)) (arrays_of g)
placed_rows g kept =
    each_part
    (λ r. is_placed g r ≡ true)
    (reached_through g)
    (arrays_of g)
    (each_then
    (λ r. list_any (is_it r) (reached g) ≡ true)
    (λ r. is_placed g r ≡ true)
    (λ r any. placed_it (list_any (is_it r) (reached g)) (has_elements g r) _ any (kept.placed r))
    (reached g)
    (has_itself (reached g)))

strided_it : (any x : Bool) → any ≡ true → (any && not x) ≡ false → x ≡ true
strided_it any true a e = refl
strided_it true false a e = absurd (let f : ⊥ = cc in f)
strided_it false false a e = absurd (let f : ⊥ = cc in f)

strided_rows : (g : Ground) → AreKept g → Each (λ l. Each (λ r. is_strided g l.entry (reached_through g l) r ≡ true) (reached_through g l)) (arrays_of g)
strided_rows g kept =
    each_then
    (λ l. (r : ℕ) → (list_any (is_it r) (reached_through g l) && not (is_strided g l.entry (reached_through g l) r)) ≡ false)
    (λ l. Each (λ r. is_strided g l.entry (reached_through g l) r ≡ true) (reached_through g l))
    (λ l h.
    each_then
    (λ r. list_any (is_it r) (reached_through g l) ≡ true)
    (λ r. is_strided g l.entry (reached_through g l) r ≡ true)
    (λ r any. strided_it (list_any (is_it r) (reached_through g l)) (is_strided g l.entry (reached_through g l) r) any (h r))
    (reached_through g l)
    (has_itself (reached_through g l)))
    (arrays_of g)
    (each_for_all
    (λ r l. (list_any (is_it r) (reached_through g l) && not (is_strided g l.entry (reached_through g l) r)) ≡ false)
    (arrays_of g)
    (λ r.
    none_passes
    (λ l. list_any (is_it r) (reached_through g l) && not (is_strided g l.entry (reached_through g l) r))
    (arrays_of g)
    (kept.stride r)))

-- each row is reached at most once
pub reached_once : (g : Ground) → AreKept g → (r : ℕ) → tally (is_it r) (reached g) ≤ 1
reached_once g kept r =
    subst
    (λ n. n ≤ 1)
    (tally_is (is_it r) (reached g))
    (ltb-false 1 (count_by (is_it r) (reached g)) (kept.shared r))

-- ---- what the rules say of each leaf

leaf_ends : (p : Parts) (plain : Members) → AreShapes p.toc plain → ((e : ℕ) → Broken p (Table (Place e)) → ⊥) → Each (λ l. end_of l ≤ (if is_outside l.arrays then p.header.static_size else 32768)) (leaves p.toc plain)
leaf_ends p plain shapes rule =
    let ls = leaves p.toc plain in
    each_then
    (λ l. leaf_of ls l.entry ≡ Some l)
    (λ l. end_of l ≤ (if is_outside l.arrays then p.header.static_size else 32768))
    (λ l e.
    ltb-false
    (if is_outside l.arrays then p.header.static_size else 32768)
    (end_of l)
    (false_from_ne_true
    (is_misplaced p.header.static_size l)
    (λ h. rule l.entry (plain, shapes, subst (λ o. passes (is_misplaced p.header.static_size) o ≡ true) (sym e) h))))
    ls
    (leaves_found p.toc plain)

fits_room : (g : Ground) (end : ℕ) (arrays : List ℕ) → end ≤ (if is_outside arrays then g.static_size else 32768) → ((a : ℕ) → stands_in a arrays ≡ true → end ≤ extent g.leaves a) → end ≤ room g arrays
fits_room g end [] h k = h
fits_room g end (a ∷ around) h k = k a (eq-eqb a a refl)

pub fair_leaves : (p : Parts) (plain : Members) → AreShapes p.toc plain → ((e : ℕ) → Broken p (Table (Place e)) → ⊥) → AreKept (ground p plain) → Each (IsFair (ground p plain)) (leaves p.toc plain)
fair_leaves p plain shapes place kept =
    let g = ground p plain in
    let rows : Each (HasFairRows g) (arrays_of g) =
    each_both
    (λ l. Each (λ r. r < row_count g.memory) (numbers_of g l))
    (λ l. Each (λ r. is_placed g r ≡ true) (reached_through g l) × Each (λ r. is_strided g l.entry (reached_through g l) r ≡ true) (reached_through g l))
    (HasFairRows g)
    (λ l a b. let fair : HasFairRows g l = record { named = a; placed = b.0; strided = b.1 } in fair)
    (arrays_of g)
    (named_rows p plain kept)
    (each_both
    (λ l. Each (λ r. is_placed g r ≡ true) (reached_through g l))
    (λ l. Each (λ r. is_strided g l.entry (reached_through g l) r ≡ true) (reached_through g l))
    (λ l. Each (λ r. is_placed g r ≡ true) (reached_through g l) × Each (λ r. is_strided g l.entry (reached_through g l) r ≡ true) (reached_through g l))
    (λ l a b. (a, b))
    (arrays_of g)
    (placed_rows g kept)
    (strided_rows g kept))
    in
    let ends : Each (λ l. end_of l ≤ room g l.arrays) g.leaves =
    each_both
    (λ l. end_of l ≤ (if is_outside l.arrays then p.header.static_size else 32768))
    (λ l. (a : ℕ) → stands_in a l.arrays ≡ true → end_of l ≤ extent g.leaves a)
    (λ l. end_of l ≤ room g l.arrays)
    (λ l a b. fits_room g (end_of l) l.arrays a b)
    g.leaves
    (leaf_ends p plain shapes place)
    (in_extent g.leaves)
    in
    each_both
    (λ l. end_of l ≤ room g l.arrays)
    (λ l. is_array l.shape ≡ true → HasFairRows g l)
    (IsFair g)
    (λ l a b. let fair : IsFair g l = record { ends = a; rows = b } in fair)
    g.leaves
    ends
    (each_kept (HasFairRows g) (λ l. is_array l.shape) g.leaves rows)
