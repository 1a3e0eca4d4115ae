-- The table right above the static bytes, and a pool without gaps.
use Rattle.std.proofs.Common.{◌≡◌, ◌≢◌, ℕ, ◌+◌, ◌<◌, ◌≤◌, true, false, inl, inr, List, [], ◌∷◌, ◌++◌, length, Option, Some, None, refl, sym, ap, ◌∙◌, arith, length-append, length-set}
use Rattle.std.specs.Prelude.{Bool}
use Rattle.nxt_blocks.specs.Blocks.{packed, unsettled}
use Rattle.nxt_blocks.proofs.Laws.Lowest.{unsettled_all}
use Rattle.nxt_blocks.proofs.Laws.Packing.{below_none}
use Rattle.nxt_compact.specs.Pools.{blocks_in, Compacts, IsSound}
use Rattle.nxt_compact.proofs.Laws.Compacted.{compacted_unsettled}
use Rattle.nxt_compact.proofs.Laws.Going.{first_full}
use Rattle.nxt_compact.proofs.Laws.InPool.{standing}
use Rattle.nxt_compact.proofs.Laws.Opening.{all_pack, few}
use Rattle.nxt_heap.proofs.FreeRows.{with_free-free, with_free-full}
use Rattle.nxt_heap.specs.Lists.{ByteList, Lists, HeapViews, Pool, any_free, base_of, bytes_at, empty_list, of_length, stride_at, with_free, with_free_row, with_length, with_list}
use Rattle.nxt_heap.specs.Moves.{GrowsTable, IsPacked, KeepsFront, MovesAtNeed, RowsStay}

-- ---- the table stays in front

pub front_same : (h : HeapViews) → KeepsFront h h
front_same h = record { base = refl; rows = omega arith; front = λ same at. at }

pub front_then : (a b c : HeapViews) → KeepsFront a b → KeepsFront b c → KeepsFront a c
front_then a b c k l = record {
  base = l.base ∙ k.base;
  rows = omega (arith, k.rows, l.rows);
  front = λ same at.
      let first = k.front (omega (arith, same, k.rows, l.rows)) at in
      l.front (omega (arith, same, k.rows, l.rows)) (first ∙ sym k.base) ∙ k.base;
}

-- where no row of the table changes
pub front_stays : (old new : HeapViews) → base_of new.lists ≡ base_of old.lists → length new.lists.by_row ≡ length old.lists.by_row → RowsStay old.pool new.pool → KeepsFront old new
front_stays old new base rows stay = record { base = base; rows = omega (arith, rows); front = λ same at. stay.table ∙ at }

-- the row's list with another number of bytes
abbrev list_of_length : Lists → ℕ → ℕ → Option ByteList
list_of_length h row n = Some (record { stride = stride_at h row; bytes = of_length n (bytes_at h row) })

-- a list that gets another number of bytes
pub front_resized : (old new : HeapViews) (row n bytes : ℕ) → 0 < row → IsSound old.pool.bytes old.pool.table (base_of old.lists) → IsSound new.pool.bytes new.pool.table (base_of new.lists)
    → new.lists ≡ with_length old.lists row n → MovesAtNeed (base_of old.lists) old.pool new.pool row bytes → KeepsFront old new
front_resized old new row n bytes above s t is m = record {
  base = ap base_of is;
  rows = omega (arith, ap (λ h. length h.by_row) is, length-set old.lists.by_row row (list_of_length old.lists row n));
  front = λ same at. sym t.place ∙ m.front 0 (first_full old.pool.bytes old.pool.table (base_of old.lists) s) (λ e. omega (arith, e, above)) (s.place ∙ at);
}

-- a row that is taken, or added to the table
abbrev TakesRow : HeapViews → HeapViews → ℕ → ℕ → Type 0
TakesRow old new row stride = new.lists ≡ with_list (with_free_row old.lists) row (empty_list stride)

taken_rows : (old new : HeapViews) (row stride : ℕ) → TakesRow old new row stride → length new.lists.by_row ≡ length (with_free old.lists.by_row)
taken_rows old new row stride is = ap (λ h. length h.by_row) is ∙ length-set (with_free old.lists.by_row) row (empty_list stride)

taken_by : (old new : HeapViews) (row stride bytes : ℕ) (free : Bool) → any_free old.lists.by_row ≡ free → IsSound old.pool.bytes old.pool.table (base_of old.lists) → IsSound new.pool.bytes new.pool.table (base_of new.lists)
    → TakesRow old new row stride → GrowsTable (base_of old.lists) old.pool new.pool (any_free old.lists.by_row) bytes → KeepsFront old new
taken_by old new row stride bytes true e s t is g = record {
  base = ap base_of is;
  rows = omega (arith, taken_rows old new row stride is, ap length (with_free-free old.lists.by_row e));
  front = λ same at. sym t.place ∙ (g.stays e 0 (first_full old.pool.bytes old.pool.table (base_of old.lists) s)).1 ∙ s.place ∙ at;
}
taken_by old new row stride bytes false e s t is g =
    let more = taken_rows old new row stride is ∙ ap length (with_free-full old.lists.by_row e) ∙ length-append old.lists.by_row (None ∷ []) in
    record {
      base = ap base_of is;
      rows = omega (arith, more);
      front = λ same at. absurd (omega (arith, more, same));
    }

pub front_taken : (old new : HeapViews) (row stride bytes : ℕ) → IsSound old.pool.bytes old.pool.table (base_of old.lists) → IsSound new.pool.bytes new.pool.table (base_of new.lists)
    → TakesRow old new row stride → GrowsTable (base_of old.lists) old.pool new.pool (any_free old.lists.by_row) bytes → KeepsFront old new
front_taken old new row stride bytes s t is g = taken_by old new row stride bytes (any_free old.lists.by_row) refl s t is g

-- ---- a pool without gaps

all_unsettled : (pool : List ℕ) (table base : ℕ) → IsSound pool table base → unsettled base (blocks_in pool table) < 65535
all_unsettled pool table base s = omega (arith, few pool table base (length pool) s, unsettled_all base (length pool) (blocks_in pool table) (standing pool table base s))

-- all blocks settle, where the table stands in front
pub packs : (base settled : ℕ) (old new : Pool) → IsSound old.bytes old.table base → old.table ≡ base → Compacts base 65535 old.bytes new.bytes old.table new.table settled → IsPacked base new
packs base settled old new s at c =
    let xs = blocks_in old.bytes old.table in
    let m = all_pack old.bytes new.bytes old.table new.table base settled s c in
    record {
      table = m.told ∙ ap (packed base xs) at ∙ omega (arith, below_none xs base (standing old.bytes old.table base s).above);
      gaps = omega (arith, compacted_unsettled base 65535 old.bytes new.bytes old.table new.table settled s c, c.count, all_unsettled old.bytes old.table base s);
    }
