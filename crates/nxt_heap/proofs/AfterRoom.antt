-- A list that is given another length, once its block has room.
use Rattle.std.proofs.Common.{ℕ, ◌%◌, List, ap, sym, ◌∙◌, arith}
use Rattle.nxt_compact.specs.Pools.{IsSound}
use Rattle.nxt_compact.proofs.Laws.Going.{bytes_moved}
use Rattle.nxt_heap.specs.declared.blocks.BlockState.{BlockState}
use Rattle.nxt_heap.specs.Inside.Pool.{AreBlocks, BlocksMove, IsListRow, HasLength, with_length_in}
use Rattle.nxt_heap.proofs.AfterMoves.{moved_count, moved_stride, lists_moved}

module _ (old fronts mid fronts' : List ℕ) (p q : BlockState) (to : ℕ → ℕ) (row bytes : ℕ) (b : AreBlocks old fronts p) (m : BlocksMove old fronts mid fronts' p q to) (l : IsListRow old p.table row bytes) where
  -- the row is that of a list still
  pub still_list : IsListRow mid q.table row bytes
  still_list =
      let stride = moved_stride p.base to old mid p.table q.table m.moves row l.within in
      record {
        above = l.above;
        within = omega (arith, l.within, moved_count p.base to old mid p.table q.table m.moves b.is_pool.sound.some);
        alive = λ e. l.alive (sym stride ∙ e);
        whole = ap (λ s. bytes % s) stride ∙ l.whole;
      }

  pub then_length : (new fronts'' : List ℕ) (r : BlockState) → HasLength mid new fronts'' q r row bytes → HasLength old new fronts'' p r row bytes
  then_length new fronts'' r h =
      let sound : IsSound mid q.table p.base = rw (sym m.base) m.blocks.is_pool.sound in
      record {
        blocks = h.blocks;
        base = h.base ∙ m.base;
        lists = h.lists ∙ ap (λ xs. with_length_in xs row bytes) (lists_moved p.base to old mid p.table q.table m.moves b.is_pool sound);
        below = λ k low. h.below k (omega (arith, low, m.base)) ∙ m.moves.below k low;
        footprint = omega (arith, h.footprint, m.footprint, bytes_moved p.base to old mid p.table q.table row m.moves l.within);
      }
