-- Lists whose elements are filled.
use Rattle.std.proofs.Common.{◌≡◌, ℕ, ◌+◌, ◌*◌, ◌<◌, ◌≤◌, List, drop, length, sym, ap, ap₂, ◌∙◌, subst, arith}
use Rattle.std.specs.Prelude.{ℤ, nat_abs}
use Rattle.nxt_types.specs.Shapes.{Shape, Array}
use Rattle.nxt_types.specs.declared.shape.TocEntry.{TocEntry}
use Rattle.nxt_types.specs.Pool.{pool_size, round4}
use Rattle.nxt_model.specs.Values.{ListOf, many}
use Rattle.nxt_model.specs.Footprint.{list_bytes}
use Rattle.nxt_heap.specs.Lists.{Lists}
use Rattle.nxt_values.specs.Held.{leaf_place}
use Rattle.nxt_values.specs.Regions.{bytes_in, IsRegion}
use Rattle.nxt_values.specs.Fills.{first_of, filled, lists_of, bytes_of_lists, needs, needs_for, needs_for_each, FillsThere, RoomThere}
use Rattle.nxt_values.specs.Elements.{AreOpened, HaveRoom, FillsElements}
use Rattle.nxt_values.specs.declared.elements.Elements.{Elements}
use Rattle.nxt_values.specs.declared.reading.Place.{Place}
use Rattle.nxt_values.proofs.Laws.FilledElements.{list_bytes_are, list_filled}
use Rattle.nxt_values.proofs.Laws.Needs.{needs_more}

-- ---- elements of a list that was opened

-- there is room for them
pub opened_room : {table : List TocEntry} {h g : Lists} {s whole : Shape} {list : Place} {stride count : ℕ} {e : Elements} → whole ≡ Array stride s → RoomThere table h whole list → AreOpened table h g list stride count e → HaveRoom table g s e
opened_room {table} {h} {g} {s} {whole} {list} {stride} {count} {e} is room_there opened =
    let room = subst (λ w. RoomThere table h w list) is room_there in
    subst
    (HaveRoom table g s)
    (sym opened.is)
    (record { alive = opened.opened.alive; long = opened.opened.long; apart = room.fits.3; fits = room.fits.4 })

-- with them the list is filled
pub opened_filled : {table : List TocEntry} {h g f : Lists} {s whole : Shape} {list : Place} {stride count : ℕ} {e : Elements} {left rest : List ℤ} (zs : List ℤ) → IsRegion h list.region → whole ≡ Array stride s → RoomThere table h whole list → AreOpened table h g list stride count e → count ≡ nat_abs (first_of zs) → left ≡ drop 1 zs → FillsElements table g f s e left rest → FillsThere table h f whole list zs rest
opened_filled {table} {h} {g} {f} {s} {whole} {list} {stride} {count} {e} {left} {rest} zs there is room_there opened counted behind each =
    let room = subst (λ w. RoomThere table h w list) is room_there in
    let within : leaf_place table list.entry list.base + 2 ≤ length (bytes_in h list.region) = omega (arith, room.within, room.fits.0) in
    let all = subst (λ (x : Elements). FillsElements table g f s x left rest) opened.is each in
    subst
    (λ w. FillsThere table h f w list zs rest)
    (sym is)
    (list_filled table h g f s stride list.entry list.region list.base e.row count zs rest there room.fits.1 within counted opened.opened
    (subst (λ ys. FillsElements table g f s (record { row = e.row; count = count; stride = stride; entry = list.entry + 1 }) ys rest) behind all))

-- ---- what the pool does not hold

list_needs : (h : Lists) (s : Shape) (stride n : ℕ) (zs : List ℤ) → n ≡ nat_abs (first_of zs) → needs h (1 + lists_of s n (drop 1 zs)) (round4 (n * stride) + bytes_of_lists s n (drop 1 zs)) ≡ needs_for h (Array stride s) zs
list_needs h s stride n zs counted =
    let more : 1 + lists_of s n (drop 1 zs) ≡ lists_of s n (drop 1 zs) + 1 = omega arith in
    ap₂ (needs h) more (list_bytes_are s stride n (drop 1 zs))
    ∙ ap (λ m. needs h (lists_of s m (drop 1 zs) + 1) (list_bytes (Array stride s) (ListOf (many m (filled s) (drop 1 zs)).0))) counted

-- a list's own row and bytes need no more than the whole list
pub list_passed : {s whole : Shape} {stride n : ℕ} (h : Lists) (zs : List ℤ) → whole ≡ Array stride s → n ≡ nat_abs (first_of zs) → pool_size < needs h 1 (round4 (n * stride)) → pool_size < needs_for h whole zs
list_passed {s} {whole} {stride} {n} h zs is counted passed =
    let more : pool_size < needs_for h (Array stride s) zs =
    omega (
      arith,
      passed,
      needs_more h 1 (round4 (n * stride)) (lists_of s n (drop 1 zs)) (bytes_of_lists s n (drop 1 zs)),
      list_needs h s stride n zs counted,
    ) in
    subst (λ w. pool_size < needs_for h w zs) (sym is) more

-- with that row and those bytes the elements need as much as the whole list
pub opened_passed : {table : List TocEntry} {h g : Lists} {s whole : Shape} {list : Place} {stride count : ℕ} {e : Elements} {left : List ℤ} (zs : List ℤ) → whole ≡ Array stride s → AreOpened table h g list stride count e → count ≡ nat_abs (first_of zs) → left ≡ drop 1 zs → pool_size < needs_for_each g s e.count left → pool_size < needs_for h whole zs
opened_passed {table} {h} {g} {s} {whole} {list} {stride} {count} {e} {left} zs is opened counted behind passed =
    let many_are : e.count ≡ count = ap (λ (x : Elements). x.count) opened.is in
    let more : pool_size < needs_for h (Array stride s) zs =
    omega (
      arith,
      passed,
      ap (λ n. needs_for_each g s n left) many_are,
      ap (needs_for_each g s count) behind,
      opened.opened.spends (lists_of s count (drop 1 zs)) (bytes_of_lists s count (drop 1 zs)),
      list_needs h s stride count zs counted,
    ) in
    subst (λ w. pool_size < needs_for h w zs) (sym is) more
