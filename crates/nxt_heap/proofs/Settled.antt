-- A pool without gaps, and one that settled.
use Rattle.std.proofs.Common.{◌≡◌, ℕ, ◌+◌, ◌-◌, ◌%◌, ◌<◌, ◌≤◌, inl, inr, cond, List, [], ◌∷◌, length, refl, ap, sym, subst, ◌∙◌, arith}
use Rattle.std.specs.Prelude.{min}
use Rattle.std.proofs.lemmas.Bool.{cases_lt, ltb-false, lt-ltb, le-ltb}
use Rattle.std.proofs.lemmas.List.Sums.{sum_by-cons}
use Rattle.nxt_types.specs.Pool.{pool_size}
use Rattle.nxt_model.specs.Reading.{Block}
use Rattle.nxt_blocks.specs.Blocks.{total, packed, below, place_after, unsettled, unsettled_below}
use Rattle.nxt_blocks.specs.Standing.{Stand, IsApart}
use Rattle.nxt_blocks.proofs.Laws.Sums.{In, each_from}
use Rattle.nxt_blocks.proofs.Laws.Packing.{fits}
use Rattle.nxt_blocks.proofs.Laws.Settling.{block_packed-le}
use Rattle.nxt_blocks.proofs.Laws.Growing.{full, full-unsettled}
use Rattle.nxt_rows.specs.Rows.{dope_row}
use Rattle.nxt_compact.specs.Pools.{block_bytes, block_of, blocks_in, IsFull, Compacts}
use Rattle.nxt_compact.proofs.Laws.InPool.{full_in, in_full, standing}
use Rattle.nxt_compact.proofs.Laws.Going.{first_full, same_moves, no_moves}
use Rattle.nxt_compact.proofs.Laws.Compacted.{compacted_sound}
use Rattle.nxt_heap.specs.Inside.Pool.{IsPool, IsEnd, IsEndBelow, IsHole, IsFit}
use Rattle.nxt_heap.proofs.Begins.{words_of}
use Rattle.nxt_heap.proofs.AfterMoves.{pool_moved}
use Rattle.nxt_heap.proofs.WordPlaces.{after_words}

-- ---- without gaps

-- the blocks end where they would without gaps
stand_to : (pool : List ℕ) (table base end : ℕ) → IsPool pool table base → IsEnd pool table end → Stand base end (blocks_in pool table)
stand_to pool table base end p e =
    let s = standing pool table base p.sound in
    record {
      apart = s.apart;
      some = s.some;
      above = s.above;
      within = each_from (λ b. b.place + b.bytes ≤ end) (blocks_in pool table) (λ b i. let found = in_full pool table b i in omega (arith, e.most found.0 found.1, ap (λ c. c.place + c.bytes) found.2));
    }

pub base_below : (pool : List ℕ) (table base end : ℕ) → IsPool pool table base → IsEnd pool table end → base ≤ end
base_below pool table base end p e = let first = first_full pool table base p.sound in omega (arith, p.sound.above 0 first, e.most 0 first)

pub total_below : (pool : List ℕ) (table base end : ℕ) → IsPool pool table base → IsEnd pool table end → base + total (blocks_in pool table) ≤ end
total_below pool table base end p e = fits (blocks_in pool table) base end (base_below pool table base end p e) (stand_to pool table base end p e)

pub end_inside : (pool : List ℕ) (table base end : ℕ) → IsPool pool table base → IsEnd pool table end → end ≤ pool_size
end_inside pool table base end p e = omega (arith, p.sound.within e.is.0 e.is.1, e.is.2, p.size)

-- of some blocks one ends last
last_from : (xs : List Block) (x : Block) → (b : Block) × In b (x ∷ xs) × ((c : Block) → In c (x ∷ xs) → c.place + c.bytes ≤ b.place + b.bytes)
last_from [] x = (
  x,
  inl refl,
  λ c i. elim i [
    | inl same ↦ omega (arith, ap (λ d. d.place + d.bytes) same)
    | inr none ↦ absurd none
  ],
)
last_from (y ∷ ys) x =
    let last = last_from ys y in
    elim (cases_lt (x.place + x.bytes) (last.0.place + last.0.bytes)) [
      | inl less ↦ (
        last.0,
        inr last.1,
        λ c i. elim i [
          | inl same ↦ omega (arith, ap (λ d. d.place + d.bytes) same, less)
          | inr other ↦ last.2 c other
        ],
      )
      | inr more ↦ (
        x,
        inl refl,
        λ c i. elim i [
          | inl same ↦ omega (arith, ap (λ d. d.place + d.bytes) same)
          | inr other ↦ omega (arith, last.2 c other, more)
        ],
      )
    ]

last_in : (xs : List Block) (a : Block) → In a xs → (b : Block) × In b xs × ((c : Block) → In c xs → c.place + c.bytes ≤ b.place + b.bytes)
last_in [] a i = absurd i
last_in (x ∷ xs) a i = last_from xs x

-- so the blocks of a pool have an end
ends : (pool : List ℕ) (table base : ℕ) → IsPool pool table base → (end : ℕ) × IsEnd pool table end
ends pool table base p =
    let last = last_in (blocks_in pool table) (block_of pool table 0) (full_in pool table 0 (first_full pool table base p.sound)) in
    let found = in_full pool table last.0 last.1 in (
      last.0.place + last.0.bytes,
      record {
        most = λ r f. last.2 (block_of pool table r) (full_in pool table r f);
        is = (found.0, found.1, ap (λ c. c.place + c.bytes) (sym found.2));
      },
    )

-- where all end at or below a place up to which they leave no gap, the last one ends there
pub packed_end : (pool : List ℕ) (table base place : ℕ) → IsPool pool table base → ((r : ℕ) → IsFull pool table r → (dope_row pool table r).place + block_bytes (dope_row pool table r) ≤ place) → place ≤ base + total (blocks_in pool table) → IsEndBelow pool table place place
packed_end pool table base place p most packed =
    let e = ends pool table base p in
    let there : e.0 ≡ place = omega (arith, total_below pool table base e.0 p e.1, packed, most e.1.is.0 e.1.is.1, e.1.is.2) in
    record {
      most = λ r f _. most r f;
      is = (e.1.is.0, e.1.is.1, omega (arith, e.1.is.2, there, e.1.is.1.some), e.1.is.2 ∙ there);
    }

-- no hole begins below the end
pub no_hole_below : (pool : List ℕ) (table base end bytes q : ℕ) → IsPool pool table base → IsEnd pool table end → end ≡ base + total (blocks_in pool table) → 0 < bytes → base ≤ q → q < end → IsHole pool table q bytes → ⊥
no_hole_below pool table base end bytes q p e dense some low high h =
    let xs = blocks_in pool table in
    let s = stand_to pool table base end p e in
    let b : Block = record { place = q; bytes = min bytes (end - q) } in
    let apart : (c : Block) → In c xs → IsApart b c = λ c i.
    let found = in_full pool table c i in
    elim (h.others found.0 found.1) [
      | inl l ↦ inl (omega (arith, l, ap (λ d. d.place) found.2))
      | inr l ↦ inr (omega (arith, l, ap (λ d. d.place + d.bytes) found.2))
    ] in
    let more : Stand base end (b ∷ xs) = record {
      apart = (each_from (IsApart b) xs apart, s.apart);
      some = (omega (arith, some, high), s.some);
      above = (low, s.above);
      within = (omega (arith, high), s.within);
    } in
    omega (arith, fits (b ∷ xs) base end (base_below pool table base end p e) more, sum_by-cons (λ c. c.bytes) b xs, dense, some, high)

-- the search may begin at the end
pub fit_from_end : (pool : List ℕ) (table base end bytes at : ℕ) → IsPool pool table base → IsEnd pool table end → end ≡ base + total (blocks_in pool table) → 0 < bytes → IsFit pool table end bytes at → IsFit pool table base bytes at
fit_from_end pool table base end bytes at p e dense some f = record {
  low = omega (arith, f.low, base_below pool table base end p e);
  word = f.word;
  hole = f.hole;
  first = λ q low h. elim (cases_lt q end) [
    | inl less ↦ absurd (no_hole_below pool table base end bytes q p e dense some low less h)
    | inr more ↦ f.first q more h
  ];
}

-- ---- nothing to settle

at_rest : (pool : List ℕ) (table base end k r : ℕ) → IsPool pool table base → IsEnd pool table end → end ≡ base + total (blocks_in pool table) → IsFull pool table r → place_after k base (blocks_in pool table) (dope_row pool table r).place ≡ (dope_row pool table r).place
at_rest pool table base end k r p e dense f =
    let xs = blocks_in pool table in
    let place = (dope_row pool table r).place in
    let s : Stand base (base + total xs) xs = subst (λ n. Stand base n xs) dense (stand_to pool table base end p e) in
    let settled = full base xs s (block_of pool table r) (full_in pool table r f) in
    let low = block_packed-le xs base (length pool) (standing pool table base p.sound) (block_of pool table r) (full_in pool table r f) in
    elim (cases_lt (unsettled_below base xs place) k) [
      | inl l ↦ ap (λ t. cond t (packed base xs place) place) (lt-ltb (unsettled_below base xs place) k l) ∙ omega (arith, ltb-false (below xs place) (place - base) settled, low, p.sound.above r f)
      | inr l ↦ ap (λ t. cond t (packed base xs place) place) (le-ltb (unsettled_below base xs place) k l)
    ]

pub none_unsettled : (pool : List ℕ) (table base end : ℕ) → IsPool pool table base → IsEnd pool table end → end ≡ base + total (blocks_in pool table) → unsettled base (blocks_in pool table) ≡ 0
none_unsettled pool table base end p e dense =
    let xs = blocks_in pool table in
    full-unsettled base xs (subst (λ n. Stand base n xs) dense (stand_to pool table base end p e))

pub rests : (pool : List ℕ) (table base end k : ℕ) → IsPool pool table base → IsEnd pool table end → end ≡ base + total (blocks_in pool table) → Compacts base k pool pool table table 0
rests pool table base end k p e dense =
    let xs = blocks_in pool table in
    record {
      moves = same_moves base (λ q. q) (place_after k base xs) pool pool table table (first_full pool table base p.sound) p.sound.place (no_moves base pool table) (λ r f. sym (at_rest pool table base end k r p e dense f));
      count = omega (arith, none_unsettled pool table base end p e dense);
    }

-- ---- settled

pub settled_pool : (base k : ℕ) (old new : List ℕ) (table table' settled : ℕ) → base % 4 ≡ 0 → IsPool old table base → Compacts base k old new table table' settled → IsPool new table' base
settled_pool base k old new table table' settled word p c =
    pool_moved base (place_after k base (blocks_in old table)) old new table table' c.moves p (compacted_sound base k old new table table' settled p.sound c)
    (λ r f. after_words old table base k (dope_row old table r).place word (p.words r f))

-- ---- where blocks end

pub end_word : (pool : List ℕ) (table base end : ℕ) → IsPool pool table base → IsEnd pool table end → end % 4 ≡ 0
end_word pool table base end p e = omega (arith, p.words e.is.0 e.is.1, words_of (dope_row pool table e.is.0), e.is.2)
