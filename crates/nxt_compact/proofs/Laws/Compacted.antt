-- The blocks of a pool after a move.
use Rattle.std.proofs.Common.{◌≡◌, ℕ, zero, suc, ◌+◌, ◌-◌, ◌<◌, ◌≤◌, inl, inr, cond, List, ◌∷◌, map, length, refl, ap, sym, ◌∙◌, arith}
use Rattle.std.specs.Prelude.{filter}
use Rattle.std.specs.List.{range_with_len}
use Rattle.std.proofs.lemmas.Bool.{cases_lt, lt-ltb, le-ltb}
use Rattle.nxt_model.specs.Reading.{Block}
use Rattle.nxt_rows.specs.Rows.{row_count}
use Rattle.nxt_blocks.specs.Standing.{Stand}
use Rattle.nxt_blocks.specs.Blocks.{at_place, place_after, settle, unsettled, has_bytes}
use Rattle.nxt_blocks.proofs.Laws.Lowest.{settle-stand, settle-unsettled}
use Rattle.nxt_compact.specs.Pools.{block_of, blocks_in, IsSound, Moves, Compacts}
use Rattle.nxt_compact.proofs.Laws.InPool.{standing, sound_from}
use Rattle.nxt_compact.proofs.Laws.Going.{place_moved, bytes_moved, first_full}

-- the blocks of the numbers, where those that have bytes stand elsewhere
same_blocks : (f g : ℕ → Block) (to : ℕ → ℕ) (n a : ℕ) → ((r : ℕ) → a ≤ r → r < a + n → (g r).bytes ≡ (f r).bytes) → ((r : ℕ) → a ≤ r → r < a + n → 0 < (f r).bytes → (g r).place ≡ to (f r).place)
    → filter has_bytes (map g (range_with_len a n)) ≡ map (λ b. at_place (to b.place) b) (filter has_bytes (map f (range_with_len a n)))
same_blocks f g to zero a bytes place = refl
same_blocks f g to (suc n) a bytes place =
    let rest = same_blocks f g to n (a + 1) (λ r low high. bytes r (omega (arith, low)) (omega (arith, high))) (λ r low high. place r (omega (arith, low)) (omega (arith, high))) in
    let size : (g a).bytes ≡ (f a).bytes = bytes a (omega arith) (omega arith) in
    elim (cases_lt 0 (f a).bytes) [
      | inl some ↦
          let both : g a ≡ at_place (to (f a).place) (f a) = ap (λ p. at_place p (g a)) (place a (omega arith) (omega arith) some) ∙ ap (λ m. at_place (to (f a).place) (record { place = 0; bytes = m })) size in
          ap (λ t. cond t (g a ∷ filter has_bytes (map g (range_with_len (a + 1) n))) (filter has_bytes (map g (range_with_len (a + 1) n)))) (lt-ltb 0 (g a).bytes (omega (arith, some, size)))
          ∙ ap (λ b. b ∷ filter has_bytes (map g (range_with_len (a + 1) n))) both
          ∙ ap (λ bs. at_place (to (f a).place) (f a) ∷ bs) rest
          ∙ sym (ap (λ t. map (λ b. at_place (to b.place) b) (cond t (f a ∷ filter has_bytes (map f (range_with_len (a + 1) n))) (filter has_bytes (map f (range_with_len (a + 1) n))))) (lt-ltb 0 (f a).bytes some))
      | inr none ↦
          ap (λ t. cond t (g a ∷ filter has_bytes (map g (range_with_len (a + 1) n))) (filter has_bytes (map g (range_with_len (a + 1) n)))) (le-ltb 0 (g a).bytes (omega (arith, none, size)))
          ∙ rest
          ∙ sym (ap (λ t. map (λ b. at_place (to b.place) b) (cond t (f a ∷ filter has_bytes (map f (range_with_len (a + 1) n))) (filter has_bytes (map f (range_with_len (a + 1) n))))) (le-ltb 0 (f a).bytes none))
    ]

pub moved_blocks : (base : ℕ) (to : ℕ → ℕ) (old new : List ℕ) (table table' : ℕ) → 0 < row_count old table → Moves base to old new table table' → blocks_in new table' ≡ map (λ b. at_place (to b.place) b) (blocks_in old table)
unfolding blocks_in
moved_blocks base to old new table table' some m =
    let count : row_count new table' ≡ row_count old table = ap (λ d. d.count) (m.rows 0 some) in
    ap (λ n. filter has_bytes (map (block_of new table') (range_with_len 0 n))) count
    ∙ same_blocks (block_of old table) (block_of new table') to (row_count old table) 0
    (λ r low high. bytes_moved base to old new table table' r m (omega (arith, high)))
    (λ r low high full. place_moved base to old new table table' r m (record { within = omega (arith, high); some = full }))

-- the pool is sound after a compaction, and so many blocks less are unsettled
pub compacted_blocks : (base k : ℕ) (old new : List ℕ) (table table' settled : ℕ) → IsSound old table base → Compacts base k old new table table' settled → blocks_in new table' ≡ settle k base (blocks_in old table)
compacted_blocks base k old new table table' settled s c = moved_blocks base (place_after k base (blocks_in old table)) old new table table' s.some c.moves

pub compacted_unsettled : (base k : ℕ) (old new : List ℕ) (table table' settled : ℕ) → IsSound old table base → Compacts base k old new table table' settled → unsettled base (blocks_in new table') ≡ unsettled base (blocks_in old table) - settled
compacted_unsettled base k old new table table' settled s c = omega (
  arith,
  ap (unsettled base) (compacted_blocks base k old new table table' settled s c),
  settle-unsettled k base (length old) (blocks_in old table) (standing old table base s),
  c.count,
)

pub compacted_sound : (base k : ℕ) (old new : List ℕ) (table table' settled : ℕ) → IsSound old table base → Compacts base k old new table table' settled → IsSound new table' base
compacted_sound base k old new table table' settled s c =
    let to = place_after k base (blocks_in old table) in
    let stand : Stand base (length old) (blocks_in new table') = rw (compacted_blocks base k old new table table' settled s c) (settle-stand k base (length old) (blocks_in old table) (standing old table base s)) in
    sound_from new table' base (omega (arith, c.moves.size, s.size)) (omega (arith, s.some, ap (λ d. d.count) (c.moves.rows 0 s.some)))
    (place_moved base to old new table table' 0 c.moves (first_full old table base s) ∙ ap to s.place ∙ sym c.moves.told)
    (ap (λ d. d.stride) (c.moves.rows 0 s.some) ∙ s.stride)
    (rw c.moves.size stand)
