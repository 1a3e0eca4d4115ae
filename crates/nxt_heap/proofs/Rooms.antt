-- Room for a row's block: in place, in a hole, or above all others.
use Rattle.std.proofs.Common.{◌≡◌, ℕ, ◌+◌, ◌/◌, ◌%◌, ◌<◌, ◌≤◌, inl, inr, List, slice_index, refl, sym, arith}
use Rattle.nxt_types.specs.Pool.{pool_size}
use Rattle.nxt_blocks.specs.Blocks.{total, packed}
use Rattle.nxt_blocks.proofs.Laws.Packing.{packed-total}
use Rattle.nxt_rows.specs.Rows.{dope_row}
use Rattle.nxt_compact.specs.Pools.{block_bytes, block_of, blocks_in, IsFull, Moves, Compacts}
use Rattle.nxt_compact.specs.Steps.{moved_to}
use Rattle.nxt_compact.proofs.Laws.InPool.{full_in}
use Rattle.nxt_compact.proofs.Laws.Going.{full_before, place_moved, bytes_moved}
use Rattle.nxt_compact.proofs.Laws.Opening.{all_pack}
use Rattle.nxt_heap.specs.Inside.Pool.{IsPool, IsRoom, IsHole, IsFit, MayHave, AreFronts, no_row}
use Rattle.nxt_heap.proofs.Begins.{none_found}
use Rattle.nxt_heap.proofs.IntoHole.{hole_open, into_others, into_place}
use Rattle.nxt_heap.proofs.WordPlaces.{total_words}

-- a part of a hole is one
pub smaller_hole : (pool : List ℕ) (table at more less : ℕ) → less ≤ more → IsHole pool table at more → IsHole pool table at less
smaller_hole pool table at more less small h = record {
  within = omega (arith, small, h.within);
  others = λ q f. elim (h.others q f) [
    | inl l ↦ inl (omega (arith, l, small))
    | inr l ↦ inr l
  ];
}

-- a hole is room for a row without a block
pub hole_room : (pool : List ℕ) (table base row bytes at : ℕ) → block_bytes (dope_row pool table row) ≡ 0 → IsFit pool table base bytes at → IsRoom pool table base row at bytes
hole_room pool table base row bytes at none f = record {
  above = f.low;
  word = f.word;
  within = f.hole.within;
  others = λ q full other. f.hole.others q full;
  own = λ full. absurd (omega (arith, full.some, none));
}

-- and for a block that moved into it
pub moved_room : (old new : List ℕ) (table table' base row bytes at : ℕ) (p : IsPool old table base) (full : IsFull old table row) → block_bytes (dope_row old table row) < bytes → (f : IsFit old table base bytes at)
    → Moves base (moved_to (dope_row old table row).place at) old new table table' → IsRoom new table' base row at bytes
moved_room old new table table' base row bytes at p full more f m =
    let hole = hole_open old table row at (block_bytes (dope_row old table row)) (smaller_hole old table at bytes (block_bytes (dope_row old table row)) (omega (arith, more)) f.hole) in
    let same = into_others old table base row at p full f.low f.word hole new table' m in
    record {
      above = f.low;
      word = f.word;
      within = omega (arith, f.hole.within, m.size);
      others = λ q g other.
          let was = same.before q other g in
          elim (f.hole.others q was) [
            | inl l ↦ inl (omega (arith, l, same.place q other was))
            | inr l ↦ inr (omega (arith, l, same.place q other was, same.bytes q other was))
          ];
      own = λ g. into_place old table base row at p full f.low f.word hole new table' m;
    }

-- behind a block where none begins
pub behind_room : (pool : List ℕ) (table base : ℕ) (fronts : List ℕ) (row bytes : ℕ) → IsPool pool table base → AreFronts pool table fronts → MayHave pool table base row bytes → IsFull pool table row → (dope_row pool table row).place + bytes ≤ pool_size
    → ((w : ℕ) → ((dope_row pool table row).place + block_bytes (dope_row pool table row)) / 4 ≤ w → w < ((dope_row pool table row).place + bytes) / 4 → slice_index fronts w ≡ no_row) → IsRoom pool table base row (dope_row pool table row).place bytes
behind_room pool table base fronts row bytes p fs may full inside none =
    let place = (dope_row pool table row).place in
    let had = block_bytes (dope_row pool table row) in
    let word = p.words row full in
    record {
      above = p.sound.above row full;
      word = word;
      within = omega (arith, inside, p.size);
      others = λ q f other. elim (p.sound.apart row q full f (λ e. other (sym e))) [
        | inl l ↦ inl (omega (arith, none_found pool table base fronts ((place + had) / 4) ((place + bytes) / 4) p fs none q f (omega (arith, l)), word, may.word))
        | inr l ↦ inr l
      ];
      own = λ f. refl;
    }

-- above all others, where all gaps closed
pub top_room : (old new : List ℕ) (table table' base row bytes settled : ℕ) → IsPool old table base → base % 4 ≡ 0 → MayHave old table base row bytes → block_bytes (dope_row old table row) ≡ 0 → Compacts base 65535 old new table table' settled
    → IsRoom new table' base row (base + total (blocks_in old table)) bytes
top_room old new table table' base row bytes settled p word may none c =
    let m : Moves base (packed base (blocks_in old table)) old new table table' = all_pack old new table table' base settled p.sound c in
    record {
      above = omega arith;
      word = omega (arith, word, total_words old table);
      within = omega (arith, may.fits, none, m.size, p.size);
      others = λ q f other.
          let was = full_before base (packed base (blocks_in old table)) old new table table' q p.sound.some m f in
          inr (omega (
            arith,
            place_moved base (packed base (blocks_in old table)) old new table table' q m was,
            bytes_moved base (packed base (blocks_in old table)) old new table table' q m was.within,
            packed-total (blocks_in old table) base (block_of old table q) (full_in old table q was),
          ));
      own = λ f.
          let was = full_before base (packed base (blocks_in old table)) old new table table' row p.sound.some m f in
          absurd (omega (arith, was.some, none));
    }
