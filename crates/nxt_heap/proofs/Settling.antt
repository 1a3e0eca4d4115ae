-- Blocks that settle one after another, from the lowest up, found by their fronts.
use Rattle.std.proofs.Common.{◌≡◌, ℕ, suc, ◌+◌, ◌/◌, ◌%◌, ◌<◌, ◌≤◌, inl, inr, List, length, slice_index, refl, ap, subst, ◌∙◌, arith}
use Rattle.std.proofs.lemmas.Bool.{cases_lt}
use Rattle.nxt_rows.specs.Rows.{dope_row}
use Rattle.nxt_blocks.specs.Blocks.{place_after}
use Rattle.nxt_blocks.specs.Standing.{settled_place}
use Rattle.nxt_blocks.proofs.Laws.Packing.{packed-more}
use Rattle.nxt_blocks.proofs.Laws.Settling.{settled_no, block_packed-le}
use Rattle.nxt_compact.specs.Pools.{block_bytes, block_of, blocks_in, IsFull, Moves, Compacts}
use Rattle.nxt_compact.specs.Steps.{moved_to}
use Rattle.nxt_compact.proofs.Laws.InPool.{full_in, standing}
use Rattle.nxt_compact.proofs.Laws.Next.{IsNext}
use Rattle.nxt_compact.proofs.Laws.Going.{Going, Going-start, Going-moved, Going-stayed, Going-full, Going-out, movable, going_above, place_moved, moved_full}
use Rattle.nxt_heap.specs.declared.blocks.BlockState.{BlockState}
use Rattle.nxt_heap.specs.Inside.Pool.{AreBlocks, BlocksMove, IsFrontIn, IsOpenTo, no_row, words}
use Rattle.nxt_heap.proofs.Begins.{found, none_found, words_of}
use Rattle.nxt_heap.proofs.Settled.{end_inside, end_word}
use Rattle.nxt_heap.proofs.WordPlaces.{packed_words}

-- the blocks that began below `upto` stand without gaps up to `low`, and so many of them have moved
pub record IsSettling (old now fronts : List ℕ) (p q : BlockState) (low settled upto : ℕ) : Type 0 where
  pub going : Going old now p.table q.table p.base low settled upto
  pub blocks : AreBlocks now fronts q
  pub base : q.base ≡ p.base
  pub footprint : q.footprint ≡ p.footprint

pub settling_start : (pool fronts : List ℕ) (p : BlockState) → AreBlocks pool fronts p → IsSettling pool pool fronts p p p.base 0 0
settling_start pool fronts p b = record { going = Going-start pool p.table p.base b.is_pool.sound; blocks = b; base = refl; footprint = refl }

module _ (old now fronts_old fronts : List ℕ) (p q : BlockState) (low settled upto : ℕ) (was : AreBlocks old fronts_old p) (s : IsSettling old now fronts p q low settled upto) where
  pub low_word : low % 4 ≡ 0
  low_word = ap (λ n. n % 4) s.going.reached ∙ packed_words old p.table p.base upto was.word

  pub low_above : q.base ≤ low
  low_above = omega (arith, s.base, (going_above old now p.table q.table p.base low settled upto was.is_pool.sound s.going).0)

  pub end_fits : q.end / 4 ≤ words
  end_fits = omega (arith, end_inside now q.table q.base q.end s.blocks.is_pool s.blocks.end_is)

  -- the first front is that of the next block
  pub next_block : (row : ℕ) → IsFrontIn fronts (low / 4) (q.end / 4) row → IsNext now q.table low row
  next_block row f =
      let n = found now q.table q.base fronts (low / 4) (q.end / 4) row s.blocks.is_pool s.blocks.are_fronts end_fits f in
      record {
        full = n.full;
        here = omega (arith, n.low, low_word);
        first = λ r g above. n.first r g (omega (arith, above));
      }

  -- where there is none, all were passed
  pub all_behind : ((w : ℕ) → low / 4 ≤ w → w < q.end / 4 → slice_index fronts w ≡ no_row) → (r : ℕ) → IsFull old p.table r → (dope_row old p.table r).place < upto
  all_behind none r f =
      let xs = blocks_in old p.table in
      let place = (dope_row old p.table r).place in
      let sound = was.is_pool.sound in
      elim (cases_lt place upto) [
        | inl less ↦ less
        | inr high ↦
            let stood = place_moved p.base (settled_place upto p.base xs) old now p.table q.table r s.going.moves f ∙ settled_no upto p.base place xs high in
            let g = moved_full p.base (settled_place upto p.base xs) old now p.table q.table r sound.some s.going.moves f in
            let above : low ≤ place = omega (arith, s.going.reached, packed-more xs p.base upto place high, block_packed-le xs p.base (length old) (standing old p.table p.base sound) (block_of old p.table r) (full_in old p.table r f)) in
            absurd (omega (
              arith,
              none_found now q.table q.base fronts (low / 4) (q.end / 4) s.blocks.is_pool s.blocks.are_fronts none r g (omega (arith, above, stood)),
              s.blocks.end_is.most r g,
              g.some,
              words_of (dope_row now q.table r),
              end_word now q.table q.base q.end s.blocks.is_pool s.blocks.end_is,
            ))
      ]

  module _ (row : ℕ) (n : IsNext now q.table low row) where
    -- it may move down
    pub next_open : IsOpenTo now q.table row low (block_bytes (dope_row now q.table row))
    next_open = let m = movable old now p.table q.table p.base low settled upto row s.going was.is_pool.sound n in record { within = m.room; others = m.others }

    pub next_moved : (new fronts_new : List ℕ) (t : BlockState) → low < (dope_row now q.table row).place → BlocksMove now fronts new fronts_new q t (moved_to (dope_row now q.table row).place low)
        → IsSettling old new fronts_new p t (low + block_bytes (dope_row now q.table row)) (settled + 1) (suc (dope_row old p.table row).place)
    next_moved new fronts_new t less m = record {
      going = Going-moved old now new p.table q.table t.table p.base low settled upto row was.is_pool.sound s.going n less (subst (λ b. Moves b (moved_to (dope_row now q.table row).place low) now new q.table t.table) s.base m.moves);
      blocks = m.blocks;
      base = m.base ∙ s.base;
      footprint = m.footprint ∙ s.footprint;
    }

    pub next_stayed : (dope_row now q.table row).place ≤ low → IsSettling old now fronts p q (low + block_bytes (dope_row now q.table row)) settled (suc (dope_row old p.table row).place)
    next_stayed most = record {
      going = Going-stayed old now p.table q.table p.base low settled upto row was.is_pool.sound s.going n most;
      blocks = s.blocks;
      base = s.base;
      footprint = s.footprint;
    }

  -- ---- the end

  pub settled_full : (k : ℕ) → settled ≡ k → Compacts p.base k old now p.table q.table settled
  settled_full k e = Going-full old now p.table q.table p.base low settled upto k was.is_pool.sound s.going e

  pub settled_out : (k : ℕ) → settled ≤ k → ((w : ℕ) → low / 4 ≤ w → w < q.end / 4 → slice_index fronts w ≡ no_row) → Compacts p.base k old now p.table q.table settled
  settled_out k most none = Going-out old now p.table q.table p.base low settled upto k was.is_pool.sound s.going (all_behind none) most

  pub settling_moves : (k : ℕ) → Compacts p.base k old now p.table q.table settled → BlocksMove old fronts_old now fronts p q (place_after k p.base (blocks_in old p.table))
  settling_moves k c = record { blocks = s.blocks; moves = c.moves; base = s.base; footprint = s.footprint }
