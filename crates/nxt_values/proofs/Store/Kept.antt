-- Lists that keep their rows.
use Rattle.std.proofs.Common.{◌≡◌, ℕ, zero, suc, ◌+◌, ◌*◌, ◌<◌, true, false, ◌||◌, if◌then◌else◌, List, [], ◌∷◌, ◌++◌, set, get_or, length, flat_map, Option, Some, None, is_some, is_none, Result, Ok, Err, IfOk, OnOk, Box, Global, refl, sym, ap, ap₂, ◌∙◌, subst, arith}
use Rattle.std.specs.List.{list_any}
use Rattle.std.specs.Prelude.{ℤ}
use Rattle.std.proofs.lemmas.Bool.{or_parts}
use Rattle.std.proofs.lemmas.List.{length-set, get_or-set_same, set-set}
use Rattle.nxt_types.specs.Shapes.{Shape, Void, Number, Array, Cluster, Mutex, Members, no_members, member, has_list, some_list, tree}
use Rattle.nxt_types.specs.declared.shape.Shape as seen
use Rattle.nxt_types.specs.Names.{size}
use Rattle.nxt_types.specs.declared.shape.TocEntry.{TocEntry}
use Rattle.nxt_heap.specs.Lists.{Lists, ByteList, list_at, bytes_at, stride_of, with_list, with_length, with_free, any_free, of_length, IsFree, IsAlive}
use Rattle.nxt_heap.proofs.Laws.Lengths.{length-of_length}
use Rattle.nxt_values.specs.Held.{row_in, element_starts, rows_at, rows_among}
use Rattle.nxt_values.specs.Regions.{bytes_in, IsRegion, HoldsThere}
use Rattle.nxt_values.specs.Writes.{without, emptied, rows_there, has_inner_list, KeepsRows, IsOther, AreOwn}
use Rattle.nxt_values.specs.Fills.{IsOpened}
use Rattle.nxt_values.specs.Elements.{AreOpened, FillsElements, HasRow, row_there, closed}
use Rattle.nxt_values.specs.declared.elements.Elements.{Elements}
use Rattle.nxt_values.specs.declared.reading.Place.{Place}
use Rattle.nxt_values.proofs.Laws.HeldRows.{alive_within}
use Rattle.nxt_values.proofs.Laws.Needs.{taken}
use Rattle.nxt_values.proofs.Laws.Without.{region_kept}
use Rattle.nxt_values.proofs.Fill.Growing.{or_right, region_bytes}
use Rattle.nxt_values.proofs.Laws.Opened.{opens_again}

-- ---- shapes without lists

mutual
  -- a value of theirs has no rows
  pub no_rows : (table : List TocEntry) (h : Lists) (s : Shape) (i : ℕ) (bytes : List ℕ) (base : ℕ) → has_list s ≡ false → rows_at table h s i bytes base ≡ []
  no_rows table h Void i bytes base none = refl
  no_rows table h (Number k) i bytes base none = refl
  no_rows table h (Array stride s) i bytes base none = let f : ⊥ = cc in absurd f
  no_rows table h (Cluster ss) i bytes base none = no_rows_among table h ss (i + 1) bytes base none
  no_rows table h Mutex i bytes base none = refl

  no_rows_among : (table : List TocEntry) (h : Lists) (ss : Members) (i : ℕ) (bytes : List ℕ) (base : ℕ) → some_list ss ≡ false → rows_among table h ss i bytes base ≡ []
  no_rows_among table h no_members i bytes base none = refl
  no_rows_among table h (member s ss) i bytes base none =
      let two = or_parts (has_list s) (some_list ss) none in
      ap₂ (λ (xs ys : List ℕ). xs ++ ys) (no_rows table h s i bytes base two.0) (no_rows_among table h ss (i + size s) bytes base two.1)

flat_none : (f : ℕ → List ℕ) (xs : List ℕ) → ((x : ℕ) → f x ≡ []) → flat_map f xs ≡ []
flat_none f [] none = refl
flat_none f (x ∷ xs) none = ap₂ (λ (ys zs : List ℕ). ys ++ zs) (none x) (flat_none f xs none)

-- a list of theirs has one row
pub one_row : (table : List TocEntry) (h : Lists) (s : Shape) (stride i : ℕ) (bytes : List ℕ) (base : ℕ) → has_list s ≡ false → rows_at table h (Array stride s) i bytes base ≡ row_in table i bytes base ∷ []
one_row table h s stride i bytes base none =
    let row = row_in table i bytes base in
    let elements = bytes_at h row in
    ap
    (λ rows. row ∷ rows)
    (flat_none (rows_at table h s (i + 1) elements) (element_starts stride elements) (λ at. no_rows table h s (i + 1) elements at none))

-- a shape that is no list has none where no part of it has one
pub no_list : (shape : seen.Shape) → ((stride : ℕ) (element : Box seen.Shape Global) → shape ≡ seen.List stride element → ⊥) → has_inner_list (tree shape) ≡ false → has_list (tree shape) ≡ false
no_list seen.Void other none = refl
no_list (seen.Num k) other none = refl
no_list (seen.List' stride p s) other none = absurd (other stride (record { ptr = p.ptr; alloc = p.alloc; value = s }) refl)
no_list (seen.Group' n ss) other none = none
no_list seen.Mutex other none = refl

-- then nothing is freed
pub nothing_freed : (table : List TocEntry) (h : Lists) (s : Shape) (p : Place) → has_list s ≡ false → emptied table h s p ≡ h
nothing_freed table h s p none = ap (without h) (no_rows table h s p.entry (bytes_in h p.region) p.base none)

-- a list no part of which has one has its own row alone
pub one_row_there : {s whole : Shape} {stride : ℕ} (table : List TocEntry) (h : Lists) (list : Place) → whole ≡ Array stride s → has_inner_list whole ≡ false → rows_there table h whole list ≡ row_there table h list ∷ []
one_row_there {s} {whole} {stride} table h list is none =
    ap (λ w. rows_there table h w list) is
    ∙ one_row table h s stride list.entry (bytes_in h list.region) list.base (ap has_inner_list (sym is) ∙ none)

-- and that row alone is freed
pub one_freed : {s whole : Shape} {stride : ℕ} (table : List TocEntry) (h : Lists) (list : Place) → whole ≡ Array stride s → has_inner_list whole ≡ false → emptied table h whole list ≡ closed table h list
one_freed table h list is none = ap (without h) (one_row_there table h list is none)

-- ---- a row that is free

any_there : (xs : List (Option ByteList)) (k : ℕ) → k < length xs → get_or xs k None ≡ None → list_any is_none xs ≡ true
any_there [] k less none = absurd (omega (arith, less))
any_there (x ∷ xs) zero less none = ap (λ o. is_none o || list_any is_none xs) none
any_there (x ∷ xs) (suc k) less none =
    or_right (is_none x) (list_any is_none xs) (any_there xs k (omega (arith, less)) none)

free_there : (xs : List (Option ByteList)) (row : ℕ) → IsFree xs row → any_free xs ≡ true
free_there [] row free = absurd (omega (arith, free.within))
free_there (x ∷ xs) zero free = absurd (omega (arith, free.above))
free_there (x ∷ xs) (suc row) free = any_there xs row (omega (arith, free.within)) free.empty

-- then no row is added
same_rows : (xs : List (Option ByteList)) (row : ℕ) → IsFree xs row → with_free xs ≡ xs
same_rows xs row free = ap (λ any. if any then xs else xs ++ None ∷ []) (free_there xs row free)

above_first : (h : Lists) (row : ℕ) → list_at h 0 ≡ None → IsAlive h row → 0 < row
above_first h zero first alive = let f : ⊥ = cc (alive, ap is_some first) in absurd f
above_first h (suc row) first alive = omega arith

-- ---- a list that gets another length

-- against the heap without the list its row is taken for one of that length
pub record Reopens (table : List TocEntry) (h : Lists) (list : Place) (stride n : ℕ) : Type 0 where
  pub there : IsRegion (closed table h list) list.region
  pub bytes : bytes_in (closed table h list) list.region ≡ bytes_in h list.region
  pub free : IsFree (with_free (closed table h list).by_row) (row_there table h list)
  pub is : with_length h (row_there table h list) n ≡ taken (closed table h list) (row_there table h list) stride (of_length n (bytes_at h (row_there table h list)))

pub reopens : (table : List TocEntry) (h : Lists) (list : Place) (stride n : ℕ) → list_at h 0 ≡ None → IsRegion h list.region → HasRow table h stride list → Reopens table h list stride n
reopens table h list stride n first there has =
    let row = row_there table h list in
    let kept = region_kept h (row ∷ []) list.region there (has.other, tt) in
    let xs = set h.by_row row None in
    let within = alive_within h row has.alive in
    let free : IsFree xs row = record {
      above = above_first h row first has.alive;
      within = omega (arith, within, length-set h.by_row row None);
      empty = get_or-set_same h.by_row row None None within;
    } in
    let same = same_rows xs row free in
    let l : ℕ → Option ByteList = λ wide. Some (record { stride = wide; bytes = of_length n (bytes_at h row) }) in
    record {
      there = kept.there;
      bytes = kept.bytes;
      free = subst (λ ys. IsFree ys row) (sym same) free;
      is = ap (λ wide. with_list h row (l wide)) has.wide
          ∙ ap (λ ys. record h { by_row = ys }) (sym (set-set h.by_row row None (l stride)))
          ∙ ap (λ ys. record h { by_row = set ys row (l stride) }) (sym same);
    }

-- so the list is opened again
pub list_reopened : (table : List TocEntry) (h g : Lists) (list : Place) (stride count : ℕ) → list_at h 0 ≡ None → IsRegion h list.region → HasRow table h stride list → g ≡ with_length h (row_there table h list) (count * stride) → IsOpened table (closed table h list) g list.entry list.region list.base (row_there table h list) stride count
list_reopened table h g list stride count first there has is =
    let n = count * stride in
    let row = row_there table h list in
    let e = reopens table h list stride n first there has in
    opens_again
    table
    (closed table h list)
    g
    list.entry
    list.region
    list.base
    row
    stride
    (of_length n (bytes_at h row))
    count
    e.there
    (ap (λ bytes. row_in table list.entry bytes list.base) e.bytes)
    (length-of_length n (bytes_at h row))
    e.free
    (is ∙ e.is)

-- a list that was held has its row
pub has_row : {table : List TocEntry} {h : Lists} {s whole : Shape} {stride : ℕ} {list : Place} → whole ≡ Array stride s → HoldsThere table h whole list → AreOwn list.region (rows_there table h whole list) → HasRow table h stride list
has_row {table} {h} {s} {whole} {stride} {list} is holds own =
    let there : HoldsThere table h (Array stride s) list = subst (λ w. HoldsThere table h w list) is holds in
    let rows : AreOwn list.region (rows_there table h (Array stride s) list) = subst (λ w. AreOwn list.region (rows_there table h w list)) is own in
    record { alive = ap is_some there.1.here; wide = ap stride_of there.1.here; other = rows.other.0 }

-- with its elements filled it has that row
pub row_kept : {table : List TocEntry} {h k g f : Lists} {s whole : Shape} {stride count : ℕ} {list : Place} {e : Elements} {left rest : List ℤ} → whole ≡ Array stride s → HasRow table h stride list → AreOpened table k g list stride count e → e.row ≡ row_there table h list → FillsElements table g f s e left rest → KeepsRows table h f whole list
row_kept {table} {h} {k} {g} {f} {s} {whole} {stride} {count} {list} {e} {left} {rest} is has opened row each none =
    let other : IsOther list.region e.row = subst (IsOther list.region) (sym row) has.other in
    let same = region_bytes g f list.region e.row opened.opened.grows.there other (each.grows.static tt) each.grows.kept in
    one_row_there table f list is none
    ∙ ap (λ r. r ∷ []) (ap (λ bytes. row_in table list.entry bytes list.base) same.1 ∙ opened.opened.named ∙ row)
    ∙ sym (one_row_there table h list is none)

-- what follows from any value holds if there is one
pub on_ok : {T E : Type 0} (r : Result T E) (F : T → Type 0) (P : Type 0) → ((x : T) → F x → P) → IfOk r F → OnOk r P
on_ok (Ok x) F P so e = so x e
on_ok (Err x) F P so e = tt
