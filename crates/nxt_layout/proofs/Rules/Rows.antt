-- The passes over the numbers of arrays find the first that names no row, and the first row that two lists name.
use Rattle.std.proofs.Common.{◌≡◌, ℕ, ◌<◌, Bool, true, false, cond, ◌&&◌, ◌||◌, not, ◌==◌, nat_lt, List, [], ◌∷◌, map, find, option_map, IsTrue, Option, Some, None, if◌then◌else◌, refl, sym, ap, ap₂, ◌∙◌, arith, lt-ltb, ltb-true}
use Rattle.std.specs.List.{list_any}
use Rattle.std.proofs.lemmas.Bool.{and_parts}
use Rattle.std.proofs.lemmas.List.Folds.{list_any-append}
use Rattle.nxt_types.specs.declared.kind.Kind.{Kind}
use Rattle.nxt_types.specs.declared.kind.Kind.TheVariants.{Ubyte, Sbyte, Uword, Sword, Ulong, Slong}
use Rattle.nxt_types.specs.declared.shape.TocEntry.{TocEntry}
use Rattle.nxt_types.specs.Refusals.{passes, comes_first}
use Rattle.nxt_types.specs.Shapes.{Shape, Void, Number, Array, Cluster, Mutex, Members, no_members, member, has_list, some_list, code_of, outline, spelling, spellings}
use Rattle.nxt_rxe.specs.declared.parts.Header.{Header}
use Rattle.nxt_rxe.specs.declared.parts.Parts.{Parts}
use Rattle.nxt_model.specs.Reading.{row_count}
use Rattle.nxt_layout.specs.declared.fault.LayoutFault.{LayoutFault}
use Rattle.nxt_layout.specs.declared.fault.LayoutFault.TheVariants.{RowZero}
use Rattle.nxt_table.specs.declared.leaves.PlacedLeaf as flats
use Rattle.nxt_table.specs.Leaves.{Leaf, AreShapes, leaf_of, leaves}
use Rattle.nxt_layout.specs.Rows.{Ground, has_elements, is_array, reached, arrays_of, is_full_in, is_full}
use Rattle.nxt_layout.specs.Inside.RowPasses.{Through, bare_ground, extent_in, array_leaves, through_from, times, all_rows, first_beyond, first_below}
use Rattle.nxt_layout.specs.LayoutRules.{has_table, lacks_table, names_no_row, is_shared}
use Rattle.nxt_layout.specs.Start.{ground}
use Rattle.nxt_layout.specs.Inside.Passes.{spells_array, ground_in, arrays_in, rows_fault, row_fault}
use Rattle.nxt_facts.proofs.Sums.{tally, is_it, tally_is, any_is}
use Rattle.nxt_table.proofs.Laws.Leaves.{Rising, table_rises, table_leaves, first_entry, first_leaf_passes, first_leaf_least, no_leaf_passes}
use Rattle.nxt_layout.proofs.Start.LeafOrder.{rising_filter}
use Rattle.nxt_table.proofs.Laws.Dataspace.{same_dataspace}
use Rattle.nxt_layout.proofs.Start.SizeByRows.{reached_below}
use Rattle.nxt_layout.proofs.Dope.NoneOneMany.{alike_any, alike_two}
use Rattle.nxt_layout.proofs.Dope.Reached.{few_through, all_rows_alike, beyond_same}
use Rattle.nxt_layout.proofs.Dope.Scanned.{bare, through_is}
use Rattle.nxt_layout.proofs.Dope.Strides.{each_among}
use Rattle.nxt_layout.proofs.Dope.Searches.{IsFirst, first_alike, first_in}

-- ---- arrays

pub array_code : (k : Kind) → (code_of k == 7) ≡ false
array_code Ubyte = refl
array_code Sbyte = refl
array_code Uword = refl
array_code Sword = refl
array_code Ulong = refl
array_code Slong = refl

abbrev pub begins_array : ℕ × ℕ → Bool
begins_array o = o.0 == 7

mutual
  one_spells : (s : Shape) → list_any begins_array (spelling s) ≡ has_list s
  one_spells Void = refl
  one_spells (Number k) = ap (λ b. b || false) (array_code k)
  one_spells (Array n s) = refl
  one_spells (Cluster ss) = all_spell ss
  one_spells Mutex = refl

  all_spell : (ss : Members) → list_any begins_array (spellings ss) ≡ some_list ss
  all_spell no_members = refl
  all_spell (member s ss) =
      list_any-append begins_array (spelling s) (spellings ss)
      ∙ ap₂ (λ (a b : Bool). a || b) (one_spells s) (all_spell ss)

pub any_outline : (es : List TocEntry) → spells_array es ≡ list_any begins_array (map outline es)
any_outline [] = refl
any_outline (e ∷ es) = ap (λ b. (e.code == 7) || b) (any_outline es)

-- a table spells an array where its variables have a list
pub arrays_same : (table : List TocEntry) (ss : Members) → AreShapes table ss → spells_array table ≡ some_list ss
arrays_same table ss h = any_outline table ∙ ap (list_any begins_array) h.spelled.entries ∙ all_spell ss

-- ---- what is found first

-- the pair that comes first of those that pass the test, or none does
pub record IsFirstPair (test : ℕ → ℕ → Bool) (o : Option (ℕ × ℕ)) : Type 0 where
  pub here : (w : ℕ × ℕ) → o ≡ Some w → test w.0 w.1 ≡ true
  pub least : (w : ℕ × ℕ) (q r : ℕ) → o ≡ Some w → test q r ≡ true → IsTrue (comes_first (w.0 ∷ w.1 ∷ []) (q ∷ r ∷ []))
  pub none : (q r : ℕ) → o ≡ None → test q r ≡ true → ⊥

-- ---- what the passes go over

-- what is found through the arrays, where each row is kept at most twice
abbrev pub few : Ground → List Through
few g = map (few_through g) (arrays_of g)

pub same_ground : (p : Parts) (plain : Members) → AreShapes p.toc plain → ground_in p ≡ bare (ground p plain)
same_ground p plain shapes =
    ap (λ bytes. bare_ground bytes p.header.dope_at p.header.static_size) (same_dataspace p plain shapes)

pub same_arrays : (p : Parts) (plain : Members) → AreShapes p.toc plain → arrays_in p ≡ few (ground p plain)
same_arrays p plain shapes =
    ap₂
    (λ (g : Ground) (ls : List flats.PlacedLeaf). through_from g (extent_in ls) [] (array_leaves ls))
    (same_ground p plain shapes)
    (table_leaves p.toc plain shapes)
    ∙ through_is p plain shapes

-- the tests need the bytes alone
pub bare_table : (h : Header) (g : Ground) → has_table h (bare g) ≡ has_table h g
bare_table h g = refl

pub bare_rows : (g : Ground) (ts : List Through) → rows_fault (bare g) ts ≡ rows_fault g ts
bare_rows g ts = refl

pub rows_read : (p : Parts) (plain : Members) → AreShapes p.toc plain → row_fault p ≡ (if lacks_table p plain then Some RowZero else rows_fault (ground p plain) (few (ground p plain)))
rows_read p plain shapes =
    let g = ground p plain in
    ap
    (λ b. if b && not (has_table p.header (ground_in p)) then Some RowZero else rows_fault (ground_in p) (arrays_in p))
    (arrays_same p.toc plain shapes)
    ∙ ap₂
    (λ (k : Ground) (ts : List Through). if some_list plain && not (has_table p.header k) then Some RowZero else rows_fault k ts)
    (same_ground p plain shapes)
    (same_arrays p plain shapes)
    ∙ ap₂
    (λ (b : Bool) (o : Option LayoutFault). if some_list plain && not b then Some RowZero else o)
    (bare_table p.header g)
    (bare_rows g (few g))

pub arrays_rise : (p : Parts) (plain : Members) → Rising 0 (arrays_of (ground p plain))
arrays_rise p plain = rising_filter (λ l. is_array l.shape) 0 (leaves p.toc plain) (table_rises p.toc plain)

-- ---- rows that are reached

pub reached_row : (g : Ground) (r : ℕ) → list_any (is_it r) (reached g) ≡ true → r < row_count g.memory
reached_row g r h = each_among (λ q. q < row_count g.memory) (reached g) r (reached_below g) h

pub full_row : (g : Ground) (r : ℕ) → is_full g r ≡ true → r < row_count g.memory
full_row g r h = reached_row g r (and_parts (list_any (is_it r) (reached g)) (has_elements g r) h).0

pub full_same : (g : Ground) (r : ℕ) → is_full_in g (all_rows (few g)) r ≡ is_full g r
full_same g r =
    ap
    (λ b. b && has_elements g r)
    (alike_any (is_it r) (all_rows (few g)) (reached g) (all_rows_alike g (arrays_of g)))

-- ---- numbers past the table's rows

abbrev pub beyond_at : Ground → Option ℕ
beyond_at g = first_beyond (few g)

pub beyond_entry : (g : Ground) (ls : List Leaf) → first_beyond (map (few_through g) ls) ≡ first_entry (names_no_row g) ls
beyond_entry g [] = refl
beyond_entry g (l ∷ ls) =
    ap
    (λ b. option_map (λ (t : Through). t.entry) (cond b (Some (few_through g l)) (find (λ t. t.beyond) (map (few_through g) ls))))
    (beyond_same g l)
    ∙ at (names_no_row g l) (beyond_entry g ls)
  where
    at : (b : Bool) → first_beyond (map (few_through g) ls) ≡ first_entry (names_no_row g) ls →
        option_map (λ (t : Through). t.entry) (cond b (Some (few_through g l)) (find (λ t. t.beyond) (map (few_through g) ls))) ≡ option_map (λ (k : Leaf). k.entry) (cond b (Some l) (find (names_no_row g) ls))
    at true h = refl
    at false h = h

pub beyond_first : (g : Ground) → Rising 0 (arrays_of g) → IsFirst (λ e. passes (names_no_row g) (leaf_of (arrays_of g) e)) (beyond_at g)
beyond_first g rise =
    let ls = arrays_of g in
    let same = beyond_entry g ls in
    record {
      here = λ w e. first_leaf_passes (names_no_row g) ls w rise (sym same ∙ e);
      least = λ w v e h. first_leaf_least (names_no_row g) ls w v rise (sym same ∙ e) h;
      none = λ v e h. no_leaf_passes (names_no_row g) ls v rise (sym same ∙ e) h;
    }

-- ---- rows that two lists name

abbrev pub shared_at : Ground → Option ℕ
shared_at g = first_below (λ r. nat_lt 1 (times r (all_rows (few g)))) 0 (row_count g.memory)

pub two_are_some : (n : ℕ) → nat_lt 1 n ≡ true → nat_lt 0 n ≡ true
two_are_some n h = lt-ltb 0 n (omega (arith, ltb-true 1 n h))

pub shared_row : (g : Ground) (r : ℕ) → is_shared g r ≡ true → r < row_count g.memory
shared_row g r h =
    let two : nat_lt 1 (tally (is_it r) (reached g)) ≡ true = sym (ap (nat_lt 1) (tally_is (is_it r) (reached g))) ∙ h in
    reached_row g r (any_is (is_it r) (reached g) ∙ two_are_some (tally (is_it r) (reached g)) two)

pub shared_first : (g : Ground) → IsFirst (is_shared g) (shared_at g)
shared_first g =
    let test = λ (r : ℕ). nat_lt 1 (times r (all_rows (few g))) in
    let same : (r : ℕ) → test r ≡ is_shared g r =
    λ r. alike_two (is_it r) (all_rows (few g)) (reached g) (all_rows_alike g (arrays_of g)) in
    first_alike test (is_shared g) (shared_at g) same (first_in test (row_count g.memory) (λ v h. shared_row g v (sym (same v) ∙ h)))
