-- Lists that are freed, member by member and element by element.
use Rattle.std.proofs.Common.{◌≡◌, ℕ, zero, suc, ◌+◌, ◌-◌, ◌*◌, ◌<◌, ◌≤◌, List, ◌∷◌, ◌++◌, flat_map, None, sym, ap, ◌∙◌, subst, arith, append-nil, suc-mul}
use Rattle.std.proofs.lemmas.List.Concat.{flat_map-append}
use Rattle.nxt_types.specs.Shapes.{Shape, Array}
use Rattle.nxt_types.specs.declared.shape.TocEntry.{TocEntry}
use Rattle.nxt_types.specs.Pool.{pool_size}
use Rattle.nxt_facts.specs.Places.{places_from}
use Rattle.nxt_facts.proofs.Each.{Each, each_then, each_apart}
use Rattle.nxt_heap.specs.Lists.{Lists, bytes_at, with_list, IsAlive, footprint}
use Rattle.nxt_values.specs.Regions.{bytes_in, IsRegion, HoldsThere}
use Rattle.nxt_values.specs.Held.{rows_at, Holds}
use Rattle.nxt_facts.specs.Pairs.{EachPair}
use Rattle.nxt_values.specs.Writes.{without, rows_there, IsOther, AreOwn}
use Rattle.nxt_values.specs.Elements.{AreElements, element_place}
use Rattle.nxt_values.specs.declared.elements.Elements.{Elements}
use Rattle.nxt_values.specs.declared.reading.Region.{Region}
use Rattle.nxt_values.specs.declared.reading.Region.TheVariants.{Row}
use Rattle.nxt_values.specs.declared.reading.Place.{Place}
use Rattle.nxt_facts.proofs.Pairs.{Across, pair_parts}
use Rattle.nxt_values.proofs.Laws.Elements.{AreHeld, elements_rows, elements_held, kth_place}
use Rattle.nxt_values.proofs.Laws.HeldRows.{rows_alive}
use Rattle.nxt_values.proofs.Laws.Without.{Differ, still_there, without-append, without_last, footprint_without, region_kept}

-- ---- what a value needs to be freed

-- where the rows that are gone are free, a value can be freed
pub record CanFree (table : List TocEntry) (h g : Lists) (region : Region) (s : Shape) (i base : ℕ) : Type 0 where
  pub pool : footprint g ≤ pool_size
  pub there : IsRegion g region
  pub holds : Holds table g s i (bytes_in g region) base
  pub own : AreOwn region (rows_at table g s i (bytes_in g region) base)
  pub rows : rows_at table g s i (bytes_in g region) base ≡ rows_at table h s i (bytes_in h region) base

-- of rows that are alive and that all differ, the first are gone, and those of a value come next
pub record AreNext (h : Lists) (region : Region) (gone rows : List ℕ) : Type 0 where
  pub alive : Each (IsAlive h) gone
  pub own : EachPair Differ gone
  pub other : Each (IsOther region) gone
  pub across : Across Differ gone rows
  pub next : AreOwn region rows

pub can_free : (table : List TocEntry) (h g : Lists) (region : Region) (s : Shape) (i base : ℕ) (gone : List ℕ) → g ≡ without h gone → footprint h ≤ pool_size → IsRegion h region → Holds table h s i (bytes_in h region) base → AreNext h region gone (rows_at table h s i (bytes_in h region) base) → CanFree table h g region s i base
can_free table h g region s i base gone is pool there holds e =
    let still = still_there table h g region s i base gone is there e.other e.across holds in
    let small : footprint (without h gone) ≤ pool_size = omega (arith, pool, footprint_without h gone e.alive e.own) in
    record {
      pool = subst (λ f. footprint f ≤ pool_size) (sym is) small;
      there = still.kept.there;
      holds = still.holds;
      own = subst (AreOwn region) (sym still.rows) e.next;
      rows = still.rows;
    }

-- with a value's rows more
pub freed_more : (table : List TocEntry) (h g f : Lists) (region : Region) (s : Shape) (i base : ℕ) (gone : List ℕ) → g ≡ without h gone → CanFree table h g region s i base → f ≡ without g (rows_at table g s i (bytes_in g region) base) → f ≡ without h (gone ++ rows_at table h s i (bytes_in h region) base)
freed_more table h g f region s i base gone is can e =
    e ∙ ap (without g) can.rows
    ∙ ap (λ k. without k (rows_at table h s i (bytes_in h region) base)) is
    ∙ sym (without-append h gone (rows_at table h s i (bytes_in h region) base))

-- the parts of rows that are gone, come next and are left
pub are_next : (h : Lists) (region : Region) (gone rows left : List ℕ) → Each (IsAlive h) (gone ++ (rows ++ left)) → AreOwn region (gone ++ (rows ++ left)) → AreNext h region gone rows
are_next h region gone rows left alive e =
    let parts = pair_parts Differ gone (rows ++ left) e.own in
    let others = each_apart (IsOther region) gone (rows ++ left) e.other in
    record {
      alive = (each_apart (IsAlive h) gone (rows ++ left) alive).0;
      own = parts.first;
      other = others.0;
      across = each_then
          (λ x. Each (Differ x) (rows ++ left))
          (λ x. Each (Differ x) rows)
          (λ x all. (each_apart (Differ x) rows left all).0)
          gone
          parts.across;
      next = record {
        own = (pair_parts Differ rows left parts.rest).first;
        other = (each_apart (IsOther region) rows left others.1).0;
      };
    }

-- ---- lists

-- the rows of a list's first elements
abbrev pub rows_until : List TocEntry → Lists → Shape → Elements → ℕ → List ℕ
rows_until table h s e k = flat_map (rows_at table h s e.entry (bytes_at h e.row)) (places_from 0 e.stride k)

-- a list with its row
pub record HasList (table : List TocEntry) (h : Lists) (s : Shape) (e : Elements) (region : Region) : Type 0 where
  pub held : AreHeld table h s e
  pub own : AreOwn region (e.row ∷ rows_until table h s e e.count)
  pub alive : Each (IsAlive h) (e.row ∷ rows_until table h s e e.count)

pub has_list : {table : List TocEntry} {h : Lists} {s whole : Shape} {stride : ℕ} {list : Place} {e : Elements} → AreElements table h stride list e → whole ≡ Array stride s → HoldsThere table h whole list → AreOwn list.region (rows_there table h whole list) → HasList table h s e list.region
has_list {table} {h} {s} {whole} {stride} {list} {e} all is holds own =
    record {
      held = elements_held all is holds;
      own = subst (AreOwn list.region) (elements_rows all is) own;
      alive = subst
          (Each (IsAlive h))
          (elements_rows all is)
          (rows_alive table h whole list.entry (bytes_in h list.region) list.base holds);
    }

places_split : (at stride k m : ℕ) → places_from at stride (k + m) ≡ places_from at stride k ++ places_from (at + k * stride) stride m
places_split at stride zero m =
    let e : at ≡ at + 0 * stride = omega arith in
    let f : 0 + m ≡ m = omega arith in
    ap (places_from at stride) f ∙ ap (λ n. places_from n stride m) e
places_split at stride (suc k) m =
    let e : (at + stride) + k * stride ≡ at + suc k * stride = omega (arith, suc-mul k stride) in
    let f : suc k + m ≡ suc (k + m) = omega arith in
    ap (places_from at stride) f
    ∙ ap (λ ps. at ∷ ps) (places_split (at + stride) stride k m ∙ ap (λ n. places_from (at + stride) stride k ++ places_from n stride m) e)

rows_parted : (rows : ℕ → List ℕ) (stride k m : ℕ) → flat_map rows (places_from 0 stride (k + m)) ≡ flat_map rows (places_from 0 stride k) ++ flat_map rows (places_from (k * stride) stride m)
rows_parted rows stride k m =
    let e : 0 + k * stride ≡ k * stride = omega arith in
    ap (flat_map rows) (places_split 0 stride k m ∙ ap (λ n. places_from 0 stride k ++ places_from n stride m) e)
    ∙ flat_map-append rows (places_from 0 stride k) (places_from (k * stride) stride m)

-- the rows of the first k elements, of the next one and of those behind it
rows_split : (rows : ℕ → List ℕ) (stride k count : ℕ) → k < count → flat_map rows (places_from 0 stride count) ≡ flat_map rows (places_from 0 stride k) ++ (rows (k * stride) ++ flat_map rows (places_from (k * stride + stride) stride (count - suc k)))
rows_split rows stride k count less =
    let e : count ≡ k + suc (count - suc k) = omega (arith, less) in
    ap (λ n. flat_map rows (places_from 0 stride n)) e ∙ rows_parted rows stride k (suc (count - suc k))

rows_more : (rows : ℕ → List ℕ) (stride k : ℕ) → flat_map rows (places_from 0 stride (k + 1)) ≡ flat_map rows (places_from 0 stride k) ++ rows (k * stride)
rows_more rows stride k =
    rows_parted rows stride k 1 ∙ ap (λ xs. flat_map rows (places_from 0 stride k) ++ xs) (append-nil (rows (k * stride)))

-- the next element of a list can be freed
pub element_can : {table : List TocEntry} {h g : Lists} {s : Shape} {e : Elements} {region : Region} {k : ℕ} {place : Place} → HasList table h s e region → k < e.count → footprint h ≤ pool_size → g ≡ without h (rows_until table h s e k) → place ≡ element_place e k → CanFree table h g place.region s place.entry place.base
element_can {table} {h} {g} {s} {e} {region} {k} {place} has less pool is at =
    let rows = rows_at table h s e.entry (bytes_at h e.row) in
    let left = flat_map rows (places_from (k * e.stride + e.stride) e.stride (e.count - suc k)) in
    let split = rows_split rows e.stride k e.count less in
    let inner : AreOwn (Row e.row) (rows_until table h s e e.count) = record { own = has.own.own.1; other = has.own.own.0 } in
    subst
    (λ (p : Place). CanFree table h g p.region s p.entry p.base)
    (sym at)
    (can_free
    table
    h
    g
    (Row e.row)
    s
    e.entry
    (k * e.stride)
    (rows_until table h s e k)
    is
    pool
    has.alive.0
    (kth_place (Holds table h s e.entry (bytes_at h e.row)) e.stride e.count k has.held.hold less)
    (are_next
    h
    (Row e.row)
    (rows_until table h s e k)
    (rows (k * e.stride))
    left
    (subst (Each (IsAlive h)) split has.alive.1)
    (subst (AreOwn (Row e.row)) split inner)))

-- and then it is
pub element_freed : {table : List TocEntry} {h g f : Lists} {s : Shape} {e : Elements} {region : Region} {k : ℕ} {place : Place} → HasList table h s e region → k < e.count → footprint h ≤ pool_size → g ≡ without h (rows_until table h s e k) → place ≡ element_place e k → f ≡ without g (rows_there table g s place) → f ≡ without h (rows_until table h s e (k + 1))
element_freed {table} {h} {g} {f} {s} {e} {region} {k} {place} has less pool is at gone =
    freed_more table h g f place.region s place.entry place.base (rows_until table h s e k) is (element_can has less pool is at) gone
    ∙ ap (λ (p : Place). without h (rows_until table h s e k ++ rows_there table h s p)) at
    ∙ ap (without h) (sym (rows_more (rows_at table h s e.entry (bytes_at h e.row)) e.stride k))

-- with all its elements freed the list still has its row
pub list_alive : {table : List TocEntry} {h g : Lists} {s : Shape} {e : Elements} {region : Region} {k : ℕ} → HasList table h s e region → k ≡ e.count → g ≡ without h (rows_until table h s e k) → IsAlive g e.row
list_alive {table} {h} {g} {s} {e} {region} {k} has end is =
    subst
    (λ f. IsAlive f e.row)
    (sym (is ∙ ap (λ n. without h (rows_until table h s e n)) end))
    (region_kept h (rows_until table h s e e.count) (Row e.row) has.alive.0 has.own.own.0).there

-- and then that row is freed
pub list_freed : {table : List TocEntry} {h g f : Lists} {s whole : Shape} {stride : ℕ} {list : Place} {e : Elements} {region : Region} {k : ℕ} → AreElements table h stride list e → whole ≡ Array stride s → HasList table h s e region → k ≡ e.count → g ≡ without h (rows_until table h s e k) → f ≡ with_list g e.row None → f ≡ without h (rows_there table h whole list)
list_freed {table} {h} {g} {f} {s} {whole} {stride} {list} {e} {region} {k} all is has end freed last =
    last
    ∙ ap (λ x. with_list x e.row None) (freed ∙ ap (λ n. without h (rows_until table h s e n)) end)
    ∙ without_last h e.row (rows_until table h s e e.count) has.own.own.0
    ∙ ap (without h) (sym (elements_rows all is))
