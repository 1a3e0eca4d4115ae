-- Bytes stored in a list, for whatever is noted of the pool.
use Rattle.std.proofs.Common.{◌≡◌, ℕ, ◌+◌, ◌*◌, ◌<◌, ◌≤◌, List, length, refl, subst, arith}
use Rattle.nxt_facts.specs.PutAt.{put_at}
use Rattle.nxt_rows.specs.Rows.{dope_row, row_count}
use Rattle.nxt_compact.specs.Pools.{block_bytes, IsFull}
use Rattle.nxt_heap.specs.declared.blocks.BlockState.{BlockState}
use Rattle.nxt_heap.specs.Inside.Pool.{row_bytes, AreBlocks, IsListRow, Stores}
use Rattle.nxt_heap.proofs.Begins.{table_inside}
use Rattle.nxt_heap.proofs.Stored.{stored_blocks, stored_stay, stored_lists, stored_below, stored_none}
use Rattle.nxt_heap.proofs.Windows.{le-block}

module _ (xs fronts : List ℕ) (p : BlockState) (table row at : ℕ) (bs : List ℕ) (b : AreBlocks xs fronts p) (same : table ≡ p.table) (l : IsListRow xs table row 0) where
  pub row_fits : table + 10 * (row + 1) ≤ length xs
  row_fits = omega (arith, l.within, same, table_inside xs p.table p.base b.is_pool, count)
    where
      count : row_count xs table ≡ row_count xs p.table
      count = rw same refl

  -- the list's bytes lie in the pool
  pub list_fits : 0 < row_bytes (dope_row xs table row) → (dope_row xs table row).place + row_bytes (dope_row xs table row) ≤ length xs
  list_fits some =
      let full : IsFull xs table row = record { within = l.within; some = omega (arith, some, le-block (dope_row xs table row)) } in
      omega (arith, at_table full, le-block (dope_row xs table row))
    where
      at_table : IsFull xs table row → (dope_row xs table row).place + block_bytes (dope_row xs table row) ≤ length xs
      at_table full = rw same (b.is_pool.sound.within row (subst (λ t. IsFull xs t row) same full))

  module _ (some : 0 < length bs) (fits : at + length bs ≤ row_bytes (dope_row xs table row)) where
    pub place_fits : (dope_row xs table row).place + at + length bs ≤ length xs
    place_fits = omega (arith, list_fits (omega (arith, some, fits)), fits)

    pub stores : Stores xs (put_at ((dope_row xs table row).place + at) bs xs) table row at bs
    stores = record {
      blocks = λ gs q is c.
          rw is (stored_blocks xs gs q c row at bs l.above (rw is at l.within) (λ e. l.alive (rw is e)) some (rw is at fits));
      lists = rw same (stored_lists xs fronts p b row at bs l.above (rw same at l.within) (λ e. l.alive (rw same e)) some (rw same at fits));
      below = λ gs q is c k low. rw is (stored_below xs gs q c row at bs l.above (rw is at l.within) (λ e. l.alive (rw is e)) some (rw is at fits) k low);
      stay = rw same (stored_stay xs fronts p b row at bs l.above (rw same at l.within) (λ e. l.alive (rw same e)) some (rw same at fits));
    }

-- no bytes
pub stores_none : (xs : List ℕ) (table row at : ℕ) (bs : List ℕ) → IsListRow xs table row 0 → length bs ≡ 0 → Stores xs xs table row at bs
stores_none xs table row at bs l none = record {
  blocks = λ gs q is c. c;
  lists = stored_none xs table row at bs l.above l.within l.alive none;
  below = λ gs q is c k low. refl;
  stay = record { table = refl; count = refl; rows = λ q less. refl };
}
