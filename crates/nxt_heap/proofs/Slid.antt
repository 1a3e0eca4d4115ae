-- Room behind a block, where all gaps closed.
use Rattle.std.proofs.Common.{◌≡◌, ℕ, ◌+◌, ◌-◌, ◌%◌, ◌<◌, ◌≤◌, inl, inr, List, length, refl, ap, sym, ◌∙◌, arith}
use Rattle.nxt_types.specs.Pool.{round4}
use Rattle.nxt_model.specs.Reading.{Block}
use Rattle.nxt_blocks.proofs.Laws.Packing.{packed-total}
use Rattle.nxt_blocks.proofs.Laws.Growing.{slid_bytes, slid-order, extra, extra_yes, shift_most}
use Rattle.nxt_rows.specs.Rows.{dope_row}
use Rattle.nxt_compact.specs.Pools.{block_bytes, block_of, blocks_in, IsFull, IsSound, Moves, HasRoom, slid_in}
use Rattle.nxt_compact.proofs.Laws.InPool.{full_in}
use Rattle.nxt_compact.proofs.Laws.Going.{full_before, place_moved, bytes_moved}
use Rattle.nxt_heap.specs.Inside.Pool.{IsPool, IsRoom, MayHave}
use Rattle.nxt_heap.proofs.Begins.{words_of}
use Rattle.nxt_heap.proofs.AfterMoves.{moved_sound, pool_moved}
use Rattle.nxt_heap.proofs.WordPlaces.{slid_words}

pub room_of : (n : ℕ) → n % 4 ≡ 0 → round4 n ≡ n
room_of n whole = omega (arith, whole)

module _ (old : List ℕ) (table base row bytes : ℕ) (p : IsPool old table base) (word : base % 4 ≡ 0) (may : MayHave old table base row bytes) (longer : block_bytes (dope_row old table row) < bytes) where
  pub has_room : HasRoom old table base row bytes
  has_room = record {
    sound = p.sound;
    within = may.within;
    fits = omega (arith, may.fits, p.size, room_of bytes may.word);
  }

  module _ (full : IsFull old table row) where
    -- so many bytes more
    abbrev more : ℕ
    more = bytes - block_bytes (dope_row old table row)

    xs : List Block
    xs = blocks_in old table

    -- a block ends below one that began above it, also the row's once it is longer
    below : (q r : ℕ) → IsFull old table q → (dope_row old table q).place < (dope_row old table r).place
        → slid_in old table base row more (dope_row old table q).place + (block_bytes (dope_row old table q) + extra (dope_row old table row).place more (block_of old table q)) ≤ slid_in old table base row more (dope_row old table r).place
    below q r f less = omega (
      arith,
      slid-order base (length old) (blocks_in old table) (dope_row old table row).place more (block_of old table q) (block_of old table r) (full_in old table q f) less,
      slid_bytes base (blocks_in old table) (dope_row old table row).place more (block_of old table q),
    )

    inside : (q : ℕ) → IsFull old table q → slid_in old table base row more (dope_row old table q).place + (block_bytes (dope_row old table q) + extra (dope_row old table row).place more (block_of old table q)) ≤ length old
    inside q f = omega (
      arith,
      packed-total (blocks_in old table) base (block_of old table q) (full_in old table q f),
      shift_most (dope_row old table row).place more (block_of old table q),
      may.fits,
      longer,
      p.size,
    )

    pub slid_sound : (new : List ℕ) (table' : ℕ) → Moves base (slid_in old table base row more) old new table table' → IsSound new table' base
    slid_sound new table' m = moved_sound base (slid_in old table base row more) old new table table' m p.sound
        (λ q r f g other. elim (p.sound.apart q r f g other) [
          | inl l ↦ inl (omega (arith, below q r f (omega (arith, l, f.some))))
          | inr l ↦ inr (omega (arith, below r q g (omega (arith, l, g.some))))
        ])
        (λ r f. omega arith)
        (λ r f. omega (arith, inside r f))

    pub slid_pool : (new : List ℕ) (table' : ℕ) → Moves base (slid_in old table base row more) old new table table' → IsPool new table' base
    slid_pool new table' m = pool_moved base (slid_in old table base row more) old new table table' m p (slid_sound new table' m)
        (λ r f. slid_words old table base row more (dope_row old table r).place word (omega (arith, may.word, longer, words_of (dope_row old table row))))

    pub slid_room : (new : List ℕ) (table' : ℕ) → Moves base (slid_in old table base row more) old new table table' → IsRoom new table' base row (dope_row new table' row).place bytes
    slid_room new table' m =
        let to = slid_in old table base row more in
        let place : (q : ℕ) → IsFull old table q → (dope_row new table' q).place ≡ to (dope_row old table q).place = λ q f. place_moved base to old new table table' q m f in
        let size : (q : ℕ) → IsFull old table q → block_bytes (dope_row new table' q) ≡ block_bytes (dope_row old table q) = λ q f. bytes_moved base to old new table table' q m f.within in
        let grown : extra (dope_row old table row).place more (block_of old table row) ≡ more = extra_yes (dope_row old table row).place more (block_of old table row) refl in
        record {
          above = omega (arith, place row full);
          word = ap (λ n. n % 4) (place row full) ∙ slid_words old table base row more (dope_row old table row).place word (omega (arith, may.word, longer, words_of (dope_row old table row)));
          within = omega (arith, place row full, inside row full, grown, longer, m.size);
          others = λ q f other.
              let g = full_before base to old new table table' q p.sound.some m f in
              elim (p.sound.apart row q full g (λ e. other (sym e))) [
                | inl l ↦ inl (omega (arith, place row full, place q g, below row q full (omega (arith, l, full.some)), grown, longer))
                | inr l ↦ inr (omega (arith, place row full, place q g, size q g, below q row g (omega (arith, l, g.some))))
              ];
          own = λ f. refl;
        }
