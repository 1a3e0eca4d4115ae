-- Rows that lose their lists.
use Rattle.std.proofs.Common.{◌≡◌, ◌≢◌, ℕ, ◌+◌, List, [], ◌∷◌, ◌++◌, length, sum_by, Option, Some, None, is_some, refl, sym, ap, ◌∙◌, subst, arith}
use Rattle.std.proofs.lemmas.List.{get_or-set_other, set_comm}
use Rattle.std.proofs.lemmas.List.Sums.{sum_by-cons}
use Rattle.nxt_types.specs.Shapes.{Shape}
use Rattle.nxt_types.specs.declared.shape.TocEntry.{TocEntry}
use Rattle.nxt_types.specs.Pool.{round4}
use Rattle.nxt_facts.proofs.Each.{Each, each_then, each_both}
use Rattle.nxt_heap.specs.Lists.{Lists, ByteList, list_at, bytes_of, block_of, with_list, IsAlive, footprint}
use Rattle.nxt_heap.proofs.Laws.Footprints.{footprint-with_list}
use Rattle.nxt_values.specs.Held.{rows_at, Holds}
use Rattle.nxt_values.specs.Regions.{bytes_in, IsRegion}
use Rattle.nxt_facts.specs.Pairs.{EachPair}
use Rattle.nxt_model.specs.Spans.{spans}
use Rattle.nxt_values.specs.Writes.{without, IsOther}
use Rattle.nxt_values.specs.declared.reading.Region.{Region}
use Rattle.nxt_values.specs.declared.reading.Region.TheVariants.{Static, Row}
use Rattle.nxt_facts.proofs.Pairs.{Across, turned}
use Rattle.nxt_values.proofs.Hold.Frames.{KeepsList, KeepLists, Stays, shape_stays, same_bytes}
use Rattle.nxt_values.proofs.Laws.HeldSizes.{row_size}
use Rattle.nxt_values.proofs.Laws.HeldRows.{alive_within}

abbrev pub Differ : ℕ → ℕ → Type 0
Differ a b = a ≢ b

-- ---- what stays

pub other_kept : (h : Lists) (rows : List ℕ) (r : ℕ) → Each (λ x. x ≢ r) rows → list_at (without h rows) r ≡ list_at h r
other_kept h [] r e = refl
other_kept h (x ∷ xs) r e =
    other_kept (with_list h x None) xs r e.1 ∙ get_or-set_other h.by_row x r None None (λ same. e.0 (sym same))

pub others_kept : (h : Lists) (rows others : List ℕ) → Across Differ rows others → KeepLists h (without h rows) others
others_kept h rows others e =
    each_then (λ r. Each (λ x. x ≢ r) rows) (KeepsList h (without h rows)) (λ r apart. other_kept h rows r apart) others (turned Differ rows others e)

pub static_kept : (h : Lists) (rows : List ℕ) → (without h rows).static_bytes ≡ h.static_bytes
static_kept h [] = refl
static_kept h (x ∷ xs) = static_kept (with_list h x None) xs

pub record RegionStays (h g : Lists) (region : Region) : Type 0 where
  pub there : IsRegion g region
  pub bytes : bytes_in g region ≡ bytes_in h region

pub region_kept : (h : Lists) (rows : List ℕ) (region : Region) → IsRegion h region → Each (IsOther region) rows → RegionStays h (without h rows) region
region_kept h rows Static there e = record { there = tt; bytes = static_kept h rows }
region_kept h rows (Row q) there e =
    let same = other_kept h rows q (each_then (λ r. q ≢ r) (λ r. r ≢ q) (λ r other is. other (sym is)) rows e) in
    record { there = ap is_some same ∙ there; bytes = ap bytes_of same }

-- ---- order

pub without-append : (h : Lists) (xs ys : List ℕ) → without h (xs ++ ys) ≡ without (without h xs) ys
without-append h [] ys = refl
without-append h (x ∷ xs) ys = without-append (with_list h x None) xs ys

-- a row that is freed last
pub without_last : (h : Lists) (row : ℕ) (rows : List ℕ) → Each (Differ row) rows → with_list (without h rows) row None ≡ without h (row ∷ rows)
without_last h row [] e = refl
without_last h row (x ∷ xs) e =
    without_last (with_list h x None) row xs e.1
    ∙ ap (λ by_row. without (record h { by_row = by_row }) xs) (set_comm h.by_row x row None None (λ same. e.0 (sym same)))

-- ---- the footprint

pub block_size : (o : Option ByteList) → block_of o ≡ round4 (length (bytes_of o))
block_size None = refl
block_size (Some l) = refl

sum_same : (v w : ℕ → ℕ) (xs : List ℕ) → Each (λ x. v x ≡ w x) xs → sum_by v xs ≡ sum_by w xs
sum_same v w [] e = refl
sum_same v w (x ∷ xs) e = omega (arith, sum_by-cons v x xs, sum_by-cons w x xs, e.0, sum_same v w xs e.1)

-- the footprint falls by the lists' blocks
pub footprint_without : (h : Lists) (rows : List ℕ) → Each (IsAlive h) rows → EachPair Differ rows → footprint (without h rows) + sum_by (row_size h) rows ≡ footprint h
footprint_without h [] alive own = omega arith
footprint_without h (x ∷ xs) alive own =
    let g = with_list h x None in
    let kept : KeepLists h g xs = each_then (Differ x) (KeepsList h g) (λ r other. get_or-set_other h.by_row x r None None (λ same. other (sym same))) xs own.0 in
    let still : Each (IsAlive g) xs = each_both (IsAlive h) (KeepsList h g) (IsAlive g) (λ r a k. ap is_some k ∙ a) xs alive.1 kept in
    let sizes : Each (λ r. row_size g r ≡ row_size h r) xs =
    each_then (KeepsList h g) (λ r. row_size g r ≡ row_size h r) (λ r k. ap (λ o. round4 (length (bytes_of o))) k) xs kept in
    omega (
      arith,
      footprint_without g xs still own.1,
      sum_same (row_size g) (row_size h) xs sizes,
      sum_by-cons (row_size h) x xs,
      footprint-with_list h x None (alive_within h x alive.0),
      block_size (list_at h x),
    )

-- ---- values that stay

-- a value of other rows is as it was
pub record StillThere (table : List TocEntry) (h g : Lists) (region : Region) (s : Shape) (i base : ℕ) : Type 0 where
  pub kept : RegionStays h g region
  pub rows : rows_at table g s i (bytes_in g region) base ≡ rows_at table h s i (bytes_in h region) base
  pub holds : Holds table g s i (bytes_in g region) base

pub still_there : (table : List TocEntry) (h g : Lists) (region : Region) (s : Shape) (i base : ℕ) (gone : List ℕ) → g ≡ without h gone → IsRegion h region → Each (IsOther region) gone → Across Differ gone (rows_at table h s i (bytes_in h region) base) → Holds table h s i (bytes_in h region) base → StillThere table h g region s i base
still_there table h g region s i base gone is there other apart holds =
    let f = without h gone in
    let bytes = bytes_in h region in
    let kept = region_kept h gone region there other in
    let stays : Stays table h f s i bytes bytes base =
    shape_stays table h f s i bytes bytes base (same_bytes bytes base (spans table s i)) (others_kept h gone (rows_at table h s i bytes base) apart) (omega arith) in
    subst
    (λ k. StillThere table h k region s i base)
    (sym is)
    (record {
      kept = kept;
      rows = ap (λ b. rows_at table f s i b base) kept.bytes ∙ stays.rows;
      holds = subst (λ b. Holds table f s i b base) (sym kept.bytes) (stays.holds holds);
    })
