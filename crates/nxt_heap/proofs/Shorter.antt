-- A list that gets no longer: no block moves.
use Rattle.std.proofs.Common.{◌≡◌, ℕ, ◌/◌, ◌<◌, ◌≤◌, inl, inr, List, refl, ap, sym, ◌∙◌, subst, arith}
use Rattle.std.proofs.lemmas.Bool.{cases_eq}
use Rattle.nxt_types.specs.Pool.{round4}
use Rattle.nxt_rows.specs.Rows.{dope_row, row_count, no_place}
use Rattle.nxt_compact.specs.Pools.{block_bytes, IsFull}
use Rattle.nxt_compact.proofs.Laws.Going.{first_full, full_before}
use Rattle.nxt_heap.specs.Moves.{HasBlock, MovesAtNeed, NoneMoves}
use Rattle.nxt_heap.specs.Inside.Pool.{pool_at, AreBlocks, IsPool, IsRoom, BlocksMove, IsListRow, Relists}
use Rattle.nxt_heap.specs.declared.blocks.BlockState.{BlockState}
use Rattle.nxt_heap.proofs.Open.{behind_true}
use Rattle.nxt_heap.proofs.Windows.{block-none, row_bytes-none}

-- the other rows stay, and the table with them
module _ (old new : List ℕ) (p : BlockState) (row place count room : ℕ) (above : 0 < row) (some : 0 < row_count old p.table) (r : Relists old new p.table row place count room) where
  rows_are : row_count new p.table ≡ row_count old p.table
  rows_are = ap (λ d. d.count) (r.others 0 some (λ e. omega (arith, e, above)))

-- a list that has no bytes any more
pub emptied_stays : (old new : List ℕ) (p : BlockState) (row : ℕ) → 0 < row → 0 < row_count old p.table → Relists old new p.table row no_place 0 0 → NoneMoves (pool_at old p) (record { bytes = new; table = p.table })
emptied_stays old new p row above some r =
    let count = rows_are old new p row no_place 0 0 above some r in
    record {
      table = refl;
      blocks = λ q f. elim (cases_eq q row) [
        | inl own ↦
            let none = block-none (dope_row new p.table row) (row_bytes-none (dope_row new p.table row) (ap (λ d. d.count) r.own)) in
            absurd (omega (arith, f.some, none, ap (λ k. block_bytes (dope_row new p.table k)) own))
        | inr other ↦
            let less : q < row_count old p.table = omega (arith, f.within, count) in
            let same = r.others q less other in
            (record { within = less; some = omega (arith, f.some, ap block_bytes same) }, ap (λ d. d.place) same)
      ];
    }

-- a block has room for as many bytes as it has
has_room : (pool : List ℕ) (table base row bytes : ℕ) → IsPool pool table base → IsFull pool table row → bytes ≤ block_bytes (dope_row pool table row) → IsRoom pool table base row (dope_row pool table row).place bytes
has_room pool table base row bytes p full fits = record {
  above = p.sound.above row full;
  word = p.words row full;
  within = omega (arith, p.sound.within row full, fits);
  others = λ q f other. elim (p.sound.apart row q full f (λ e. other (sym e))) [
    | inl l ↦ inl (omega (arith, l, fits))
    | inr l ↦ inr l
  ];
  own = λ f. refl;
}

-- a list whose block has room for its bytes
pub shorter_stays : (old fronts mid fronts' new : List ℕ) (p q : BlockState) (to : ℕ → ℕ) (row bytes place room : ℕ) → AreBlocks old fronts p → IsListRow old p.table row bytes → 0 < round4 bytes → round4 bytes ≤ block_bytes (dope_row old p.table row) → BlocksMove old fronts mid fronts' p q to
    → Relists mid new q.table row place (bytes / (dope_row mid q.table row).stride) room → MovesAtNeed p.base (pool_at old p) (record { bytes = new; table = q.table }) row (round4 bytes) → NoneMoves (pool_at old p) (record { bytes = new; table = q.table })
shorter_stays old fronts mid fronts' new p q to row bytes place room b l some fits m r need =
    let s = b.is_pool.sound in
    let t = m.blocks.is_pool.sound in
    let full : IsFull old p.table row = record { within = l.within; some = omega (arith, some, fits) } in
    let stays = need.behind (behind_true old p.table p.base row (round4 bytes) b.is_pool full (has_room old p.table p.base row (round4 bytes) b.is_pool full fits)) in
    let count = rows_are mid new q row place (bytes / (dope_row mid q.table row).stride) room l.above t.some r in
    let first = r.others 0 t.some (λ e. omega (arith, e, l.above)) in
    record {
      table = sym t.place ∙ sym (ap (λ d. d.place) first) ∙ stays.0 0 (first_full old p.table p.base s) (λ e. omega (arith, e, l.above)) ∙ s.place;
      blocks = λ k f. elim (cases_eq k row) [
        | inl own ↦ subst (λ i. HasBlock (pool_at old p) i × ((dope_row new q.table i).place ≡ (dope_row old p.table i).place)) (sym own) (full, stays.1 some)
        | inr other ↦
            let less : k < row_count mid q.table = omega (arith, f.within, count) in
            let was = full_before p.base to old mid p.table q.table k s.some m.moves (record { within = less; some = omega (arith, f.some, ap block_bytes (r.others k less other)) }) in
            (was, stays.0 k was other)
      ];
    }
