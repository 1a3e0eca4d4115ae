-- The elements of lists: where they stand, what they hold, their values and their rows.
use Rattle.std.proofs.Common.{◌≡◌, ℕ, zero, suc, ◌+◌, ◌*◌, ◌/◌, ◌<◌, ◌≤◌, List, ◌∷◌, map, flat_map, length, get_or, is_some, Option, Some, None, sym, ap, subst, ◌∙◌, arith, inl, inr, suc-mul}
use Rattle.std.specs.Prelude.{pos}
use Rattle.std.proofs.lemmas.Bool.{cases_lt}
use Rattle.std.proofs.lemmas.List.{get_or_past, get_or-map, length-map}
use Rattle.std.proofs.lemmas.Nat.{mul-le}
use Rattle.std.proofs.Math.Nat.{div-mul-le_self}
use Rattle.std.proofs.lemmas.List.Sums.{get_or-le-sum_by}
use Rattle.nxt_facts.proofs.Places.{each_place}
use Rattle.nxt_types.specs.Shapes.{Shape, Array}
use Rattle.nxt_types.specs.declared.shape.TocEntry.{TocEntry}
use Rattle.nxt_types.specs.Pool.{pool_size}
use Rattle.nxt_model.specs.Values.{Num, list_of, elements}
use Rattle.nxt_model.proofs.Laws.Values.{items-values}
use Rattle.nxt_facts.specs.Places.{places_from}
use Rattle.nxt_facts.proofs.Each.{Each}
use Rattle.nxt_facts.proofs.Places.{length-places}
use Rattle.nxt_heap.specs.Lists.{Lists, bytes_at, bytes_of, block_of, list_at, footprint, IsAlive}
use Rattle.nxt_types.proofs.Laws.Pool.{le-round4}
use Rattle.nxt_values.specs.Held.{row_in, value_at, rows_at, Holds}
use Rattle.nxt_values.specs.Regions.{bytes_in, IsRegion, HoldsThere, value_there}
use Rattle.nxt_values.specs.Writes.{rows_there}
use Rattle.nxt_values.specs.Elements.{AreElements, element_place}
use Rattle.nxt_values.specs.declared.elements.Elements.{Elements}
use Rattle.nxt_values.specs.declared.reading.Place.{Place}
use Rattle.nxt_values.proofs.Laws.HeldSizes.{held_elements}

-- ---- places

-- what holds of all places holds of the k-th
pub kth_place : (P : ℕ → Type 0) (stride n k : ℕ) → Each P (places_from 0 stride n) → k < n → P (k * stride)
kth_place P stride n k e less =
    let same : 0 + k * stride ≡ k * stride = omega arith in subst P same (each_place P 0 stride n k e less)

pub nth_place : (at stride n k : ℕ) → k < n → get_or (places_from at stride n) k 0 ≡ at + k * stride
nth_place at stride zero k less = absurd (omega (arith, less))
nth_place at stride (suc n) zero less = omega arith
nth_place at stride (suc n) (suc k) less =
    nth_place (at + stride) stride n k (omega (arith, less)) ∙ omega (arith, suc-mul k stride)

-- ---- sizes

block-le : (o : Option _) → length (bytes_of o) ≤ block_of o
block-le None = omega arith
block-le (Some l) = le-round4 (length l.bytes)

-- a row's list lies in the pool
pub row_small : (h : Lists) (row : ℕ) → footprint h ≤ pool_size → length (bytes_at h row) ≤ pool_size
row_small h row fits =
    elim (cases_lt row (length h.by_row)) [
      | inl less ↦ omega (arith, block-le (list_at h row), get_or-le-sum_by block_of h.by_row row None less, fits)
      | inr more ↦
          let none : length (bytes_at h row) ≡ 0 = ap (λ o. length (bytes_of o)) (get_or_past h.by_row row None more) in
          omega (arith, none)
    ]

-- and so do its elements
pub elements_small : (h : Lists) (row stride : ℕ) → footprint h ≤ pool_size → length (bytes_at h row) / stride * stride ≤ pool_size
elements_small h row stride fits = omega (arith, div-mul-le_self (length (bytes_at h row)) stride, row_small h row fits)

pub place_small : (k count stride : ℕ) → k < count → k * stride ≤ count * stride
place_small k count stride less = mul-le k stride count stride (omega (arith, less)) (omega arith)

-- ---- the list

-- it is the list of its elements' values
pub elements_value : {table : List TocEntry} {h : Lists} {stride : ℕ} {list : Place} {e : Elements} {s whole : Shape} → AreElements table h stride list e → whole ≡ Array stride s → value_there table h whole list ≡ list_of (map (value_at table h s e.entry (bytes_at h e.row)) (places_from 0 e.stride e.count))
elements_value {table} {h} {stride} {list} {e} {s} {whole} all is =
    ap (λ w. value_there table h w list) is
    ∙ ap
    (λ (x : Elements). list_of (map (value_at table h s x.entry (bytes_at h x.row)) (places_from 0 x.stride x.count)))
    (sym all.is)

-- its rows are its own and those of its elements
pub elements_rows : {table : List TocEntry} {h : Lists} {stride : ℕ} {list : Place} {e : Elements} {s whole : Shape} → AreElements table h stride list e → whole ≡ Array stride s → rows_there table h whole list ≡ e.row ∷ flat_map (rows_at table h s e.entry (bytes_at h e.row)) (places_from 0 e.stride e.count)
elements_rows {table} {h} {stride} {list} {e} {s} {whole} all is =
    ap (λ w. rows_there table h w list) is
    ∙ ap
    (λ (x : Elements). x.row ∷ flat_map (rows_at table h s x.entry (bytes_at h x.row)) (places_from 0 x.stride x.count))
    (sym all.is)

-- it has as many elements
pub elements_counted : {table : List TocEntry} {h : Lists} {stride : ℕ} {list : Place} {e : Elements} {s whole : Shape} → AreElements table h stride list e → whole ≡ Array stride s → e.count ≡ length (elements (value_there table h whole list))
elements_counted {table} {h} {stride} {list} {e} {s} {whole} all is =
    let value = value_at table h s e.entry (bytes_at h e.row) in
    let places = places_from 0 e.stride e.count in
    sym
    (ap (λ v. length (elements v)) (elements_value all is)
    ∙ ap length (items-values (map value places))
    ∙ length-map places value
    ∙ length-places 0 e.stride e.count)

-- its row is alive, and each element holds a value
pub record AreHeld (table : List TocEntry) (h : Lists) (s : Shape) (e : Elements) : Type 0 where
  pub alive : IsAlive h e.row
  pub hold : Each (Holds table h s e.entry (bytes_at h e.row)) (places_from 0 e.stride e.count)

pub elements_held : {table : List TocEntry} {h : Lists} {stride : ℕ} {list : Place} {e : Elements} {s whole : Shape} → AreElements table h stride list e → whole ≡ Array stride s → HoldsThere table h whole list → AreHeld table h s e
elements_held {table} {h} {stride} {list} {e} {s} {whole} all is holds =
    let there : HoldsThere table h (Array stride s) list = subst (λ w. HoldsThere table h w list) is holds in
    let row = row_in table list.entry (bytes_in h list.region) list.base in
    subst
    (AreHeld table h s)
    (sym all.is)
    (record {
      alive = ap is_some there.1.here;
      hold = held_elements h row stride (Holds table h s (list.entry + 1)) there.1;
    })

-- ---- one element

-- a value of the shape stands there, one entry behind the list
pub record IsElement (table : List TocEntry) (h : Lists) (s : Shape) (list place : Place) : Type 0 where
  pub region : IsRegion h place.region
  pub entry : place.entry ≡ list.entry + 1
  pub holds : HoldsThere table h s place

pub element_there : {table : List TocEntry} {h : Lists} {stride : ℕ} {list : Place} {e : Elements} {s whole : Shape} {k : ℕ} {place : Place} → AreElements table h stride list e → whole ≡ Array stride s → HoldsThere table h whole list → k < e.count → place ≡ element_place e k → IsElement table h s list place
element_there {table} {h} {stride} {list} {e} {s} {whole} {k} {place} all is holds less at =
    let held = elements_held all is holds in
    subst
    (IsElement table h s list)
    (sym at)
    (record {
      region = held.alive;
      entry = ap (λ (x : Elements). x.entry) all.is;
      holds = kth_place (Holds table h s e.entry (bytes_at h e.row)) e.stride e.count k held.hold less;
    })

-- the place's entry is the one behind the list's
pub element_entry : {table : List TocEntry} {h : Lists} {stride : ℕ} {list : Place} {e : Elements} {place : Place} (k : ℕ) → AreElements table h stride list e → place ≡ element_place e k → place.entry ≡ list.entry + 1
element_entry k all at = ap (λ (p : Place). p.entry) at ∙ ap (λ (x : Elements). x.entry) all.is

-- and it is that element of the list
pub element_value : {table : List TocEntry} {h : Lists} {stride : ℕ} {list : Place} {e : Elements} {s whole : Shape} {k : ℕ} {place : Place} → AreElements table h stride list e → whole ≡ Array stride s → k < e.count → place ≡ element_place e k → value_there table h s place ≡ get_or (elements (value_there table h whole list)) k (Num (pos 0))
element_value {table} {h} {stride} {list} {e} {s} {whole} {k} {place} all is less at =
    let value = value_at table h s e.entry (bytes_at h e.row) in
    let places = places_from 0 e.stride e.count in
    let kth : get_or places k 0 ≡ k * e.stride = nth_place 0 e.stride e.count k less ∙ omega arith in
    ap (value_there table h s) at
    ∙ ap value (sym kth)
    ∙ sym (get_or-map value places k 0 (Num (pos 0)) (omega (arith, length-places 0 e.stride e.count, less)))
    ∙ ap (λ vs. get_or vs k (Num (pos 0))) (sym (items-values (map value places)))
    ∙ ap (λ v. get_or (elements v) k (Num (pos 0))) (sym (elements_value all is))
