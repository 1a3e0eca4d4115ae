-- A pool whose blocks moved holds the same lists.
use Rattle.std.proofs.Common.{◌≡◌, ◌≢◌, ℕ, ◌+◌, ◌%◌, ◌<◌, ◌≤◌, inl, inr, List, length, get_or, nat_eq, ap, sym, ◌∙◌, arith}
use Rattle.std.specs.List.{list_any}
use Rattle.std.proofs.lemmas.Bool.{cases_eq}
use Rattle.nxt_blocks.specs.Blocks.{total}
use Rattle.nxt_blocks.specs.Standing.{IsApart}
use Rattle.nxt_blocks.proofs.Laws.Settling.{moved-total}
use Rattle.nxt_rows.specs.Rows.{dope_row, row_count, free_rows}
use Rattle.nxt_compact.specs.Pools.{block_bytes, blocks_in, IsFull, IsSound, Moves}
use Rattle.nxt_compact.proofs.Laws.Compacted.{moved_blocks}
use Rattle.nxt_compact.proofs.Laws.Going.{first_full, full_before, moved_full, place_moved, bytes_moved}
use Rattle.nxt_compact.proofs.Laws.Moving.{row_stays}
use Rattle.nxt_heap.specs.Inside.Pool.{list_in, lists_in, IsPool}
use Rattle.nxt_heap.proofs.ListsKept.{free_rows-kept, IsFreeChain-kept, list_in-first, list_in-moved, same_lists_in}
use Rattle.nxt_heap.proofs.Windows.{block-none, row_bytes-none}

module _ (base : ℕ) (to : ℕ → ℕ) (old new : List ℕ) (table table' : ℕ) (m : Moves base to old new table table') where
  pub moved_count : 0 < row_count old table → row_count new table' ≡ row_count old table
  moved_count some = ap (λ d. d.count) (m.rows 0 some)

  pub moved_stride : (r : ℕ) → r < row_count old table → (dope_row new table' r).stride ≡ (dope_row old table r).stride
  moved_stride r within = ap (λ d. d.stride) (m.rows r within)

  -- apart where the blocks were
  pub moved_sound : IsSound old table base
      → ((q r : ℕ) → IsFull old table q → IsFull old table r → q ≢ r → IsApart (record { place = to (dope_row old table q).place; bytes = block_bytes (dope_row old table q) }) (record { place = to (dope_row old table r).place; bytes = block_bytes (dope_row old table r) }))
      → ((r : ℕ) → IsFull old table r → base ≤ to (dope_row old table r).place)
      → ((r : ℕ) → IsFull old table r → to (dope_row old table r).place + block_bytes (dope_row old table r) ≤ length old)
      → IsSound new table' base
  moved_sound s apart above within =
      let before : (r : ℕ) → IsFull new table' r → IsFull old table r = λ r f. full_before base to old new table table' r s.some m f in
      let place : (r : ℕ) → IsFull old table r → (dope_row new table' r).place ≡ to (dope_row old table r).place = λ r f. place_moved base to old new table table' r m f in
      let bytes : (r : ℕ) → IsFull old table r → block_bytes (dope_row new table' r) ≡ block_bytes (dope_row old table r) = λ r f. bytes_moved base to old new table table' r m f.within in
      record {
        size = omega (arith, m.size, s.size);
        some = omega (arith, s.some, moved_count s.some);
        place = place 0 (first_full old table base s) ∙ ap to s.place ∙ sym m.told;
        stride = moved_stride 0 s.some ∙ s.stride;
        apart = λ q r f g other. elim (apart q r (before q f) (before r g) other) [
          | inl l ↦ inl (omega (arith, l, place q (before q f), bytes q (before q f), place r (before r g)))
          | inr l ↦ inr (omega (arith, l, place r (before r g), bytes r (before r g), place q (before q f)))
        ];
        above = λ r f. omega (arith, above r (before r f), place r (before r f));
        within = λ r f. omega (arith, within r (before r f), place r (before r f), bytes r (before r f), m.size);
      }

  -- the bytes of all blocks are as many
  pub total_moved : 0 < row_count old table → total (blocks_in new table') ≡ total (blocks_in old table)
  total_moved some = ap total (moved_blocks base to old new table table' some m) ∙ moved-total to (blocks_in old table)

  pub free_moved : IsPool old table base → free_rows new table' ≡ free_rows old table
  free_moved p = free_rows-kept old new table table' p.chain p.sound.some (moved_count p.sound.some) (λ q within. ap (λ d. d.link) (m.rows q within))

  module _ (p : IsPool old table base) (s : IsSound new table' base) where
    pub lists_moved : lists_in new table' ≡ lists_in old table
    lists_moved = same_lists_in old new table table' (moved_count p.sound.some) (λ r within. elim (cases_eq r 0) [
      | inl first ↦ ap (λ q. list_in new table' q) first ∙ list_in-first new table' ∙ sym (ap (λ q. list_in old table q) first ∙ list_in-first old table)
      | inr other ↦ list_in-moved old new table table' r (moved_stride r within) (ap (λ d. d.count) (m.rows r within)) (λ some.
          let full : IsFull old table r = record { within = within; some = some } in
          let place = place_moved base to old new table table' r m full in
          let after = s.within r (moved_full base to old new table table' r p.sound.some m full) in
          record {
            from = p.sound.within r full;
            to = omega (arith, after, bytes_moved base to old new table table' r m within);
            bytes = λ k less. ap (λ q. get_or new (q + k) 0) place ∙ m.bytes r k (omega (arith, other)) within less;
          })
    ])

    pub pool_moved : ((r : ℕ) → IsFull old table r → to (dope_row old table r).place % 4 ≡ 0) → IsPool new table' base
    pool_moved word =
        let count = moved_count p.sound.some in
        record {
          size = m.size ∙ p.size;
          sound = s;
          words = λ r f. let g = full_before base to old new table table' r p.sound.some m f in ap (λ n. n % 4) (place_moved base to old new table table' r m g) ∙ word r g;
          empty = λ r above within none.
              let inside : r < row_count old table = omega (arith, within, count) in
              let same = ap (λ d. d.count) (m.rows r inside) in
              let zero : (dope_row old table r).count ≡ 0 = sym same ∙ none in
              let bytes = block-none (dope_row old table r) (row_bytes-none (dope_row old table r) zero) in
              ap (λ d. d.place) (m.rows r inside ∙ row_stays to (dope_row old table r) (λ some. absurd (omega (arith, some, bytes))))
              ∙ p.empty r above inside zero;
          bare = λ r above within none.
              let inside : r < row_count old table = omega (arith, within, count) in
              ap (λ d. d.count) (m.rows r inside) ∙ p.bare r above inside (sym (moved_stride r inside) ∙ none);
          backs = λ r within.
              let inside : r < row_count old table = omega (arith, within, count) in
              ap (λ d. d.back) (m.rows r inside) ∙ p.backs r inside;
          chain = IsFreeChain-kept old new table table' p.chain count (free_moved p);
          free = λ r above within.
              let inside : r < row_count old table = omega (arith, within, count) in
              ap (list_any (nat_eq r)) (free_moved p) ∙ p.free r above inside ∙ ap (λ n. nat_eq n 0) (sym (moved_stride r inside));
        }
