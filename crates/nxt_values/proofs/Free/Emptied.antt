-- A place whose lists are freed can be filled.
use Rattle.std.proofs.Common.{◌≡◌, ◌≤◌, length, sym, ap, subst, arith}
use Rattle.nxt_types.specs.Shapes.{Shape}
use Rattle.nxt_types.specs.declared.shape.TocEntry.{TocEntry}
use Rattle.nxt_types.specs.Pool.{pool_size}
use Rattle.std.specs.Prelude.{List}
use Rattle.nxt_heap.specs.Lists.{Lists, footprint}
use Rattle.nxt_values.specs.Regions.{bytes_in, IsRegion, HoldsThere}
use Rattle.nxt_values.specs.Fills.{HasRoom, RoomThere}
use Rattle.nxt_values.specs.Writes.{emptied, rows_there, AreOwn}
use Rattle.nxt_values.specs.declared.reading.Place.{Place}
use Rattle.nxt_values.proofs.Laws.HeldRows.{rows_alive}
use Rattle.nxt_values.proofs.Laws.Without.{footprint_without, region_kept}

pub record CanFill (table : List TocEntry) (g : Lists) (s : Shape) (p : Place) : Type 0 where
  pub pool : footprint g ≤ pool_size
  pub there : IsRegion g p.region
  pub room : RoomThere table g s p

pub emptied_room : (table : List TocEntry) (h g : Lists) (s : Shape) (p : Place) → g ≡ emptied table h s p → footprint h ≤ pool_size → IsRegion h p.region → HoldsThere table h s p → AreOwn p.region (rows_there table h s p) → RoomThere table h s p → CanFill table g s p
emptied_room table h g s p is pool there holds own room =
    let rows = rows_there table h s p in
    let kept = region_kept h rows p.region there own.other in
    let alive = rows_alive table h s p.entry (bytes_in h p.region) p.base holds in
    subst
    (λ f. CanFill table f s p)
    (sym is)
    (record {
      pool = omega (arith, pool, footprint_without h rows alive own.own);
      there = kept.there;
      room = subst (HasRoom table s p.entry p.base) (sym (ap length kept.bytes)) room;
    })
