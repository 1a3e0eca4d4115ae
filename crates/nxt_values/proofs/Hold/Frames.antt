-- What a value depends on: the bytes in its spans and the lists of its rows.
use Rattle.std.proofs.Common.{◌≡◌, ◌≢◌, ℕ, zero, suc, ◌+◌, ◌-◌, ◌*◌, ◌/◌, ◌<◌, ◌≤◌, ◌⊎◌, inl, inr, Bool, true, false, if◌then◌else◌, List, [], ◌∷◌, ◌++◌, map, flat_map, take, drop, set, get_or, length, Option, Some, None, refl, sym, ap, ap₂, ◌∙◌, arith}
use Rattle.std.specs.Int.{from_le_bytes}
use Rattle.std.proofs.lemmas.Bool.{cases_lt}
use Rattle.std.proofs.lemmas.List.{drop-set-lt, drop-set-add, take-set-le, get_or-set_other, get_or_append_left, get_or-append_right, get_or_past}
use Rattle.nxt_types.specs.Arithmetic.{width_of, extend}
use Rattle.nxt_types.specs.Shapes.{Shape, Void, Number, Array, Cluster, Mutex, Members, no_members, member}
use Rattle.nxt_types.specs.Names.{size}
use Rattle.nxt_types.specs.declared.shape.TocEntry.{TocEntry}
use Rattle.nxt_types.proofs.Laws.Bytes.{u16_at-same}
use Rattle.nxt_model.specs.Values.{Num, list_of, group_of}
use Rattle.nxt_facts.proofs.Each.{Each, each_from, each_then, each_both, each_apart, each_part}
use Rattle.nxt_facts.proofs.Places.{length-places}
use Rattle.nxt_heap.specs.Lists.{Lists, ByteList, list_at, bytes_at, bytes_of, with_list, with_free_row, any_free}
use Rattle.nxt_values.specs.Held.{row_in, element_starts, value_at, values_among, rows_at, rows_among, HasElements, Holds, HoldAll}
use Rattle.nxt_model.specs.Spans.{Span, spans, spans_among}
use Rattle.nxt_values.proofs.Laws.HeldSizes.{held_elements, elements_fill}

-- ---- what is the same

-- the span holds the same bytes in an element of the new bytes
abbrev pub IsSame : List ℕ → List ℕ → ℕ → Span → Type 0
IsSame old new base p = take p.width (drop (base + p.place) new) ≡ take p.width (drop (base + p.place) old)

abbrev pub AreSame : List ℕ → List ℕ → ℕ → List Span → Type 0
AreSame old new base ps = Each (IsSame old new base) ps

-- the row has the same list, or none as before
abbrev pub KeepsList : Lists → Lists → ℕ → Type 0
KeepsList h g row = list_at g row ≡ list_at h row

abbrev pub KeepLists : Lists → Lists → List ℕ → Type 0
KeepLists h g rows = Each (KeepsList h g) rows

-- a value with its rows stays, from the bytes `old` and the lists of h to the bytes `new` and the lists of g
pub record Stays (table : List TocEntry) (h g : Lists) (s : Shape) (i : ℕ) (old new : List ℕ) (base : ℕ) : Type 0 where
  pub value : value_at table g s i new base ≡ value_at table h s i old base
  pub rows : rows_at table g s i new base ≡ rows_at table h s i old base
  pub holds : Holds table h s i old base → Holds table g s i new base

pub record AllStay (table : List TocEntry) (h g : Lists) (ss : Members) (i : ℕ) (old new : List ℕ) (base : ℕ) : Type 0 where
  pub value : values_among table g ss i new base ≡ values_among table h ss i old base
  pub rows : rows_among table g ss i new base ≡ rows_among table h ss i old base
  pub holds : HoldAll table h ss i old base → HoldAll table g ss i new base

-- ---- elements

map_each : {X Y : Type 0} (f g : X → Y) (xs : List X) → Each (λ x. f x ≡ g x) xs → map f xs ≡ map g xs
map_each f g [] e = refl
map_each f g (x ∷ xs) e = ap₂ (λ y ys. y ∷ ys) e.0 (map_each f g xs e.1)

flat_each : {X Y : Type 0} (f g : X → List Y) (xs : List X) → Each (λ x. f x ≡ g x) xs → flat_map f xs ≡ flat_map g xs
flat_each f g [] e = refl
flat_each f g (x ∷ xs) e = ap₂ (λ y ys. y ++ ys) e.0 (flat_each f g xs e.1)

pub same_bytes : (bytes : List ℕ) (base : ℕ) (ps : List Span) → AreSame bytes bytes base ps
same_bytes bytes base ps = each_from (IsSame bytes bytes base) (λ p. refl) ps

-- each element of a list stays
abbrev ElementsStay : List TocEntry → Lists → Lists → Shape → ℕ → ℕ → List ℕ → Type 0
ElementsStay table h g s i stride bytes = Each (Stays table h g s i bytes bytes) (element_starts stride bytes)

-- the elements of a row whose list is the same
elements_hold : (table : List TocEntry) (h g : Lists) (s : Shape) (i stride row other : ℕ) → other ≡ row → KeepsList h g row → ElementsStay table h g s i stride (bytes_at h row) → HasElements h row stride (Holds table h s i) → HasElements g other stride (Holds table g s i)
elements_hold table h g s i stride row other same kept inside e =
    let held = bytes_at h row in
    let starts = element_starts stride held in
    record {
      count = length held / stride;
      bytes = held;
      some = e.some;
      here = ap (list_at g) same ∙ kept ∙ e.here ∙ ap (λ bytes. Some (record { stride = stride; bytes = bytes })) (sym (ap bytes_of e.here));
      whole = sym (elements_fill h row stride (Holds table h s i) e) ∙ ap (λ n. n * stride) (length-places 0 stride (length held / stride));
      elements = each_both
          (Holds table h s i held)
          (Stays table h g s i held held)
          (Holds table g s i held)
          (λ at here stays. stays.holds here)
          starts
          (held_elements h row stride (Holds table h s i) e)
          inside;
    }

list_stays : (table : List TocEntry) (h g : Lists) (s : Shape) (stride i : ℕ) (old new : List ℕ) (base : ℕ) → row_in table i new base ≡ row_in table i old base → KeepsList h g (row_in table i old base) → ElementsStay table h g s (i + 1) stride (bytes_at h (row_in table i old base)) → length old ≤ length new → Stays table h g (Array stride s) i old new base
list_stays table h g s stride i old new base same kept inside long =
    let row = row_in table i old base in
    let held = bytes_at h row in
    let starts = element_starts stride held in
    let bytes : bytes_at g (row_in table i new base) ≡ held = ap (bytes_at g) same ∙ ap bytes_of kept in
    record {
      value = ap (λ b. list_of (map (value_at table g s (i + 1) b) (element_starts stride b))) bytes
          ∙ ap
          list_of
          (map_each
          (value_at table g s (i + 1) held)
          (value_at table h s (i + 1) held)
          starts
          (each_then
          (Stays table h g s (i + 1) held held)
          (λ at. value_at table g s (i + 1) held at ≡ value_at table h s (i + 1) held at)
          (λ at stays. stays.value)
          starts
          inside));
      rows = ap₂ (λ q b. q ∷ flat_map (rows_at table g s (i + 1) b) (element_starts stride b)) same bytes
          ∙ ap
          (λ rows. row ∷ rows)
          (flat_each
          (rows_at table g s (i + 1) held)
          (rows_at table h s (i + 1) held)
          starts
          (each_then
          (Stays table h g s (i + 1) held held)
          (λ at. rows_at table g s (i + 1) held at ≡ rows_at table h s (i + 1) held at)
          (λ at stays. stays.rows)
          starts
          inside));
      holds = λ e.
          (omega (arith, long, e.0), elements_hold table h g s (i + 1) stride row (row_in table i new base) same kept inside e.1);
    }

-- ---- the law

-- a value stays where the bytes in its spans and the lists of its rows do, and no bytes get lost
mutual
  pub shape_stays : (table : List TocEntry) (h g : Lists) (s : Shape) (i : ℕ) (old new : List ℕ) (base : ℕ) → AreSame old new base (spans table s i) → KeepLists h g (rows_at table h s i old base) → length old ≤ length new → Stays table h g s i old new base
  shape_stays table h g Void i old new base same kept long =
      record { value = refl; rows = refl; holds = λ e. tt }
  shape_stays table h g (Number k) i old new base same kept long =
      record {
        value = ap (λ bytes. Num (extend k (from_le_bytes (width_of k) bytes))) same.0;
        rows = refl;
        holds = λ e. omega (arith, long, e);
      }
  shape_stays table h g (Array stride s) i old new base same kept long =
      let row = row_in table i old base in
      let held = bytes_at h row in
      let rows = rows_at table h s (i + 1) held in
      let starts = element_starts stride held in
      list_stays
      table
      h
      g
      s
      stride
      i
      old
      new
      base
      (u16_at-same new old _ _ same.0)
      kept.0
      (each_then
      (λ at. KeepLists h g (rows at))
      (Stays table h g s (i + 1) held held)
      (λ at k. shape_stays table h g s (i + 1) held held at (same_bytes held at (spans table s (i + 1))) k (omega arith))
      starts
      (each_part (KeepsList h g) rows starts kept.1))
      long
  shape_stays table h g (Cluster ss) i old new base same kept long =
      let all = members_stay table h g ss (i + 1) old new base same kept long in
      record { value = ap group_of all.value; rows = all.rows; holds = all.holds }
  shape_stays table h g Mutex i old new base same kept long =
      record { value = refl; rows = refl; holds = λ e. tt }

  pub members_stay : (table : List TocEntry) (h g : Lists) (ss : Members) (i : ℕ) (old new : List ℕ) (base : ℕ) → AreSame old new base (spans_among table ss i) → KeepLists h g (rows_among table h ss i old base) → length old ≤ length new → AllStay table h g ss i old new base
  members_stay table h g no_members i old new base same kept long =
      record { value = refl; rows = refl; holds = λ e. tt }
  members_stay table h g (member s ss) i old new base same kept long =
      let two = each_apart (IsSame old new base) (spans table s i) (spans_among table ss (i + size s)) same in
      let both = each_apart (KeepsList h g) (rows_at table h s i old base) (rows_among table h ss (i + size s) old base) kept in
      let one = shape_stays table h g s i old new base two.0 both.0 long in
      let others = members_stay table h g ss (i + size s) old new base two.1 both.1 long in
      record {
        value = ap₂ (λ v vs. v ∷ vs) one.value others.value;
        rows = ap₂ (λ rs qs. rs ++ qs) one.rows others.rows;
        holds = λ e. (one.holds e.0, others.holds e.1);
      }

-- ---- changes that leave it

-- a byte outside of the span, where its element begins at `base`
abbrev pub IsOutside : ℕ → ℕ → Span → Type 0
IsOutside at base p = (at < base + p.place) ⊎ (base + p.place + p.width ≤ at)

outside_same : (bytes : List ℕ) (at b base : ℕ) (p : Span) → IsOutside at base p → IsSame bytes (set bytes at b) base p
outside_same bytes at b base p (inl less) = ap (take p.width) (drop-set-lt (base + p.place) bytes at b less)
outside_same bytes at b base p (inr more) =
    let k = at - (base + p.place) in
    let is : at ≡ (base + p.place) + k = omega (arith, more) in
    ap (λ n. take p.width (drop (base + p.place) (set bytes n b))) is
    ∙ ap (take p.width) (drop-set-add (base + p.place) bytes k b)
    ∙ take-set-le p.width (drop (base + p.place) bytes) k b (omega (arith, more))

-- the change of a byte outside of the spans
pub set_same : (bytes : List ℕ) (at b base : ℕ) (ps : List Span) → Each (IsOutside at base) ps → AreSame bytes (set bytes at b) base ps
set_same bytes at b base ps e =
    each_then (IsOutside at base) (IsSame bytes (set bytes at b) base) (λ p out. outside_same bytes at b base p out) ps e

-- the change of another row's list
pub other_lists : (h : Lists) (row : ℕ) (l : Option ByteList) (rows : List ℕ) → Each (λ r. r ≢ row) rows → KeepLists h (with_list h row l) rows
other_lists h row l rows e =
    each_then (λ r. r ≢ row) (KeepsList h (with_list h row l)) (λ r other. get_or-set_other h.by_row row r l None other) rows e

one_none : (l : List (Option ByteList)) (n : ℕ) → l ≡ None ∷ [] → get_or l n None ≡ None
one_none l zero e = ap (λ k. get_or k 0 None) e
one_none l (suc n) e = ap (λ k. get_or k (suc n) None) e

-- a free row more in the table
free_list : (lists : List (Option ByteList)) (any : Bool) (row : ℕ) → get_or (if any then lists else lists ++ None ∷ []) row None ≡ get_or lists row None
free_list lists true row = refl
free_list lists false row =
    elim (cases_lt row (length lists)) [
      | inl less ↦ get_or_append_left lists (None ∷ []) None row less
      | inr more ↦ get_or-append_right lists (None ∷ []) (length lists) row None refl more ∙ one_none (None ∷ []) (row - length lists) refl ∙ sym (get_or_past lists row None more)
    ]

pub free_row_lists : (h : Lists) (rows : List ℕ) → KeepLists h (with_free_row h) rows
free_row_lists h rows = each_from (KeepsList h (with_free_row h)) (λ r. free_list h.by_row (any_free h.by_row) r) rows
