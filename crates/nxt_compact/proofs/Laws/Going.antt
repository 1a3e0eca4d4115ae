-- The compaction of a pool, block by block.
use Rattle.std.proofs.Common.{◌≡◌, ◌≢◌, ℕ, suc, ◌+◌, ◌*◌, ◌<◌, ◌≤◌, ◌⊎◌, inl, inr, cond, List, length, slice_index, refl, ap, sym, ◌∙◌, arith}
use Rattle.std.specs.Prelude.{min}
use Rattle.std.proofs.lemmas.Bool.{cases_eq, cases_lt, eq-eqb, ne_eqb}
use Rattle.nxt_model.specs.Reading.{Block}
use Rattle.nxt_rows.specs.declared.DopeRow.{DopeRow}
use Rattle.nxt_rows.specs.Rows.{dope_row, row_count}
use Rattle.nxt_blocks.specs.Blocks.{packed, unsettled, unsettled_below, place_after}
use Rattle.nxt_blocks.specs.Standing.{settled_place}
use Rattle.nxt_blocks.proofs.Laws.Sums.{In, each_at, each_from}
use Rattle.nxt_blocks.proofs.Laws.Packing.{packed-next, packed-more, below_none}
use Rattle.nxt_blocks.proofs.Laws.Settling.{settled-le, settled_yes, settled_no, settled-order, block_packed-le}
use Rattle.nxt_blocks.proofs.Laws.Lowest.{unsettled_none, unsettled_more, unsettled_all, same_place}
use Rattle.nxt_blocks.proofs.Laws.Walking.{IsLowest, walk-packed, walk-next, walk-unsettled, walk-settled, walk-all}
use Rattle.nxt_compact.specs.Pools.{block_bytes, block_of, blocks_in, IsSound, IsFull, Moves, row_at, Compacts}
use Rattle.nxt_compact.proofs.Laws.Next.{IsNext}
use Rattle.nxt_compact.specs.Steps.{IsMovable, moved_to}
use Rattle.nxt_compact.proofs.Laws.Shifted.{bytes_of_table}
use Rattle.nxt_compact.proofs.Laws.Moving.{row_stays, row_moves}
use Rattle.nxt_compact.proofs.Laws.InPool.{full_in, in_full, standing}

-- ---- moves, one after another

abbrev placed_row : DopeRow → ℕ → DopeRow
placed_row d p = record d { place = p }

pub bytes_at : (to : ℕ → ℕ) (d : DopeRow) → block_bytes (row_at to d) ≡ block_bytes d
unfolding block_bytes
bytes_at to d = refl

-- a row that is full is so after the move
pub moved_full : (base : ℕ) (to : ℕ → ℕ) (old new : List ℕ) (table table' r : ℕ) → 0 < row_count old table → Moves base to old new table table' → IsFull old table r → IsFull new table' r
moved_full base to old new table table' r some m f = record {
  within = omega (arith, f.within, count);
  some = omega (arith, f.some, ap block_bytes (m.rows r f.within), bytes_at to (dope_row old table r));
}
  where
    count : row_count new table' ≡ row_count old table
    count = ap (λ d. d.count) (m.rows 0 some)

-- and before it
pub full_before : (base : ℕ) (to : ℕ → ℕ) (old new : List ℕ) (table table' r : ℕ) → 0 < row_count old table → Moves base to old new table table' → IsFull new table' r → IsFull old table r
full_before base to old new table table' r some m f =
    let count : row_count new table' ≡ row_count old table = ap (λ d. d.count) (m.rows 0 some) in
    let within : r < row_count old table = omega (arith, f.within, count) in
    record { within = within; some = omega (arith, f.some, ap block_bytes (m.rows r within), bytes_at to (dope_row old table r)) }

-- where a full row's block stands after it
pub place_moved : (base : ℕ) (to : ℕ → ℕ) (old new : List ℕ) (table table' r : ℕ) → Moves base to old new table table' → IsFull old table r → (dope_row new table' r).place ≡ to (dope_row old table r).place
place_moved base to old new table table' r m f = ap (λ d. d.place) (m.rows r f.within ∙ row_moves to (dope_row old table r) f.some)

pub bytes_moved : (base : ℕ) (to : ℕ → ℕ) (old new : List ℕ) (table table' r : ℕ) → Moves base to old new table table' → r < row_count old table → block_bytes (dope_row new table' r) ≡ block_bytes (dope_row old table r)
bytes_moved base to old new table table' r m within = ap block_bytes (m.rows r within) ∙ bytes_at to (dope_row old table r)

-- two moves are one
pub then_moves : (base : ℕ) (f g h : ℕ → ℕ) (a b c : List ℕ) (ta tb tc : ℕ) → 0 < row_count a ta → IsFull a ta 0 → (dope_row a ta 0).place ≡ ta → Moves base f a b ta tb → Moves base g b c tb tc
    → ((r : ℕ) → IsFull a ta r → g (f (dope_row a ta r).place) ≡ h (dope_row a ta r).place) → Moves base h a c ta tc
then_moves base f g h a b c ta tb tc some first place m n same = record {
  size = n.size ∙ m.size;
  told = n.told ∙ ap g (m.told ∙ ap f (sym place)) ∙ same 0 first ∙ ap h place;
  rows = λ r within. elim (cases_lt 0 (block_bytes (dope_row a ta r))) [
    | inl full ↦
        let f' : IsFull a ta r = record { within = within; some = full } in
        let g' = moved_full base f a b ta tb r some m f' in
        n.rows r g'.within ∙ row_moves g (dope_row b tb r) g'.some
        ∙ ap (λ d. placed_row d (g d.place)) (m.rows r within ∙ row_moves f (dope_row a ta r) full)
        ∙ ap (placed_row (dope_row a ta r)) (same r f')
        ∙ sym (row_moves h (dope_row a ta r) full)
    | inr none ↦
        let count : row_count b tb ≡ row_count a ta = ap (λ d. d.count) (m.rows 0 some) in
        let stays = m.rows r within ∙ row_stays f (dope_row a ta r) (λ l. absurd (omega (arith, l, none))) in
        n.rows r (omega (arith, within, count)) ∙ row_stays g (dope_row b tb r) (λ l. absurd (omega (arith, l, none, ap block_bytes stays)))
        ∙ stays ∙ sym (row_stays h (dope_row a ta r) (λ l. absurd (omega (arith, l, none))))
  ];
  bytes = λ r k above within less.
      let f' : IsFull a ta r = record { within = within; some = omega (arith, less) } in
      let g' = moved_full base f a b ta tb r some m f' in
      let p = place_moved base f a b ta tb r m f' in
      ap (λ q. slice_index c (q + k)) (sym (same r f') ∙ ap g (sym p))
      ∙ n.bytes r k above g'.within (omega (arith, less, bytes_moved base f a b ta tb r m within))
      ∙ ap (λ q. slice_index b (q + k)) p
      ∙ m.bytes r k above within less;
  below = λ k l. n.below k l ∙ m.below k l;
}

-- a move is known by what it does to the blocks
pub same_moves : (base : ℕ) (f h : ℕ → ℕ) (a b : List ℕ) (ta tb : ℕ) → IsFull a ta 0 → (dope_row a ta 0).place ≡ ta → Moves base f a b ta tb → ((r : ℕ) → IsFull a ta r → f (dope_row a ta r).place ≡ h (dope_row a ta r).place) → Moves base h a b ta tb
same_moves base f h a b ta tb first place m same = record {
  size = m.size;
  told = m.told ∙ ap f (sym place) ∙ same 0 first ∙ ap h place;
  rows = λ r within. elim (cases_lt 0 (block_bytes (dope_row a ta r))) [
    | inl full ↦
        m.rows r within ∙ row_moves f (dope_row a ta r) full
        ∙ ap (placed_row (dope_row a ta r)) (same r (record { within = within; some = full }))
        ∙ sym (row_moves h (dope_row a ta r) full)
    | inr none ↦
        m.rows r within ∙ row_stays f (dope_row a ta r) (λ l. absurd (omega (arith, l, none))) ∙ sym (row_stays h (dope_row a ta r) (λ l. absurd (omega (arith, l, none))))
  ];
  bytes = λ r k above within less. ap (λ q. slice_index b (q + k)) (sym (same r (record { within = within; some = omega (arith, less) }))) ∙ m.bytes r k above within less;
  below = m.below;
}

pub no_moves : (base : ℕ) (a : List ℕ) (ta : ℕ) → Moves base (λ p. p) a a ta ta
no_moves base a ta = record {
  size = refl;
  told = refl;
  rows = λ r within. sym (row_stays (λ p. p) (dope_row a ta r) (λ l. refl));
  bytes = λ r k above within less. refl;
  below = λ k l. refl;
}

-- ---- the loop

pub first_full : (old : List ℕ) (table base : ℕ) → IsSound old table base → IsFull old table 0
first_full old table base s = record { within = s.some; some = omega (arith, bytes_of_table (dope_row old table 0) s.stride, s.some) }

-- the blocks that began below `upto` stand without gaps up to `at`
pub record Going (old now : List ℕ) (table0 table base at settled upto : ℕ) : Type 0 where
  pub moves : Moves base (settled_place upto base (blocks_in old table0)) old now table0 table
  pub reached : at ≡ packed base (blocks_in old table0) upto
  pub count : settled ≡ unsettled_below base (blocks_in old table0) upto

pub Going-start : (old : List ℕ) (table0 base : ℕ) → IsSound old table0 base → Going old old table0 table0 base base 0 0
Going-start old table0 base s = record {
  moves = same_moves base (λ p. p) (settled_place 0 base (blocks_in old table0)) old old table0 table0 (first_full old table0 base s) s.place (no_moves base old table0) (λ r f. sym (settled_no 0 base (dope_row old table0 r).place (blocks_in old table0) (omega arith)));
  reached = omega (arith, below_none (blocks_in old table0) 0 (each_from (λ b. 0 ≤ b.place) (blocks_in old table0) (λ b i. omega arith)));
  count = sym (unsettled_none base (blocks_in old table0));
}

-- the next block began above those that were passed, and stands where it began
pub record Passed (old now : List ℕ) (table0 table base at settled upto row : ℕ) (g : Going old now table0 table base at settled upto) : Type 0 where
  pub full : IsFull old table0 row
  pub lowest : IsLowest (blocks_in old table0) upto (block_of old table0 row)
  pub stands : (dope_row now table row).place ≡ (dope_row old table0 row).place
  pub at_most : at ≤ (dope_row old table0 row).place
  pub packed_at : packed base (blocks_in old table0) (dope_row old table0 row).place ≡ at

pub passed : (old now : List ℕ) (table0 table base at settled upto row : ℕ) (g : Going old now table0 table base at settled upto) → IsSound old table0 base → IsNext now table at row → Passed old now table0 table base at settled upto row g
passed old now table0 table base at settled upto row g s n =
    let xs = blocks_in old table0 in
    let to = settled_place upto base xs in
    let full = full_before base to old now table0 table row s.some g.moves n.full in
    let p = (dope_row old table0 row).place in
    let stood = place_moved base to old now table0 table row g.moves full in
    let above : upto ≤ p = elim (cases_lt p upto) [
      | inl less ↦ absurd (omega (arith, n.here, stood, settled_yes upto base p xs less, packed-next xs base upto (block_of old table0 row) (full_in old table0 row full) less, g.reached, full.some))
      | inr more ↦ more
    ] in
    let same = settled_no upto base p xs above in
    let first : (c : Block) → In c xs → upto ≤ c.place → p ≤ c.place = λ c i high.
    let found = in_full old table0 c i in
    let q = found.0 in
    let cp : c.place ≡ (dope_row old table0 q).place = ap (λ b. b.place) found.2 in
    let stays = settled_no upto base (dope_row old table0 q).place xs (omega (arith, high, cp)) in
    let stood' = place_moved base to old now table0 table q g.moves found.1 in
    let low : at ≤ (dope_row old table0 q).place = omega (arith, g.reached, packed-more xs base upto c.place high, block_packed-le xs base (length old) (standing old table0 base s) c i, cp) in
    omega (arith, n.first q (moved_full base to old now table0 table q s.some g.moves found.1) (omega (arith, low, stays, stood')), stood, same, stood', stays, cp) in
    let lowest : IsLowest xs upto (block_of old table0 row) = record { there = full_in old table0 row full; here = above; first = first } in
    record {
      full = full;
      lowest = lowest;
      stands = stood ∙ same;
      at_most = omega (arith, n.here, stood, same);
      packed_at = walk-packed xs base upto (block_of old table0 row) lowest ∙ sym g.reached;
    }

-- a full row's block, other than the next one, ends at or below `at` or begins above it
beside : (old now : List ℕ) (table0 table base at settled upto row q : ℕ) (g : Going old now table0 table base at settled upto) → IsSound old table0 base → Passed old now table0 table base at settled upto row g → IsFull old table0 q → q ≢ row
    → ((dope_row now table q).place + block_bytes (dope_row old table0 q) ≤ at) ⊎ ((dope_row old table0 row).place + block_bytes (dope_row old table0 row) ≤ (dope_row now table q).place)
beside old now table0 table base at settled upto row q g s p f other =
    let xs = blocks_in old table0 in
    let to = settled_place upto base xs in
    let place = (dope_row old table0 q).place in
    let stood = place_moved base to old now table0 table q g.moves f in
    elim (cases_lt place upto) [
      | inl less ↦ inl (omega (arith, stood, settled_yes upto base place xs less, packed-next xs base upto (block_of old table0 q) (full_in old table0 q f) less, g.reached))
      | inr more ↦
          let stays = settled_no upto base place xs more in
          elim (s.apart q row f p.full other) [
            | inl under ↦ absurd (omega (arith, under, p.lowest.first (block_of old table0 q) (full_in old table0 q f) more, f.some))
            | inr over ↦ inr (omega (arith, over, stood, stays))
          ]
    ]

pub movable : (old now : List ℕ) (table0 table base at settled upto row : ℕ) (g : Going old now table0 table base at settled upto) → IsSound old table0 base → IsNext now table at row → IsMovable now table row at
movable old now table0 table base at settled upto row g s n =
    let xs = blocks_in old table0 in
    let to = settled_place upto base xs in
    let p = passed old now table0 table base at settled upto row g s n in
    let first = first_full old table0 base s in
    let size : (r : ℕ) → r < row_count old table0 → block_bytes (dope_row now table r) ≡ block_bytes (dope_row old table0 r) = λ r. bytes_moved base to old now table0 table r g.moves in
    let stood : (r : ℕ) → IsFull old table0 r → (dope_row now table r).place ≡ to (dope_row old table0 r).place = λ r. place_moved base to old now table0 table r g.moves in
    let zero : (dope_row now table 0).place ≡ table = stood 0 first ∙ ap to s.place ∙ sym g.moves.told in
    let before : (q : ℕ) → IsFull now table q → IsFull old table0 q = λ q f. full_before base to old now table0 table q s.some g.moves f in
    let order = settled-order upto base (length old) xs (standing old table0 base s) in
    let reaches : (dope_row now table row).place + block_bytes (dope_row now table row) ≤ length now = omega (arith, p.stands, size row p.full.within, g.moves.size, s.within row p.full) in
    record {
      size = omega (arith, g.moves.size, s.size);
      place = zero;
      stride = ap (λ d. d.stride) (g.moves.rows 0 s.some) ∙ s.stride;
      full = n.full;
      inside = reaches;
      room = omega (arith, reaches, n.here);
      table_inside = omega (arith, zero, stood 0 first, size 0 s.some, g.moves.size, low 0 first, s.within 0 first);
      own = λ q f other. elim (beside old now table0 table base at settled upto row q g s p (before q f) other) [
        | inl under ↦ inr (omega (arith, under, size q (before q f).within, n.here))
        | inr over ↦ inl (omega (arith, over, p.stands, size row p.full.within))
      ];
      others = λ q f other. elim (beside old now table0 table base at settled upto row q g s p (before q f) other) [
        | inl under ↦ inr (omega (arith, under, size q (before q f).within))
        | inr over ↦ inl (omega (arith, over, p.stands, size row p.full.within, n.here))
      ];
      lists = λ q f above. elim (s.apart q 0 (before q f) first (λ e. omega (arith, e, above))) [
        | inl under ↦ inr (omega (arith, order (block_of old table0 q) (block_of old table0 0) (full_in old table0 q (before q f)) (full_in old table0 0 first) (omega (arith, under, (before q f).some)), stood q (before q f), stood 0 first, zero, size q (before q f).within))
        | inr over ↦ inl (omega (arith, order (block_of old table0 0) (block_of old table0 q) (full_in old table0 0 first) (full_in old table0 q (before q f)) (omega (arith, over, first.some)), stood q (before q f), stood 0 first, zero, size 0 s.some))
      ];
    }
  where
    low : (r : ℕ) → IsFull old table0 r → settled_place upto base (blocks_in old table0) (dope_row old table0 r).place ≤ (dope_row old table0 r).place
    low r f = settled-le upto base (length old) (blocks_in old table0) (standing old table0 base s) (block_of old table0 r) (full_in old table0 r f)

-- ---- one block further

step_place : (old now : List ℕ) (table0 table base at settled upto row : ℕ) (g : Going old now table0 table base at settled upto) → IsSound old table0 base → Passed old now table0 table base at settled upto row g → (r : ℕ) → IsFull old table0 r
    → moved_to (dope_row old table0 row).place at (settled_place upto base (blocks_in old table0) (dope_row old table0 r).place) ≡ settled_place (suc (dope_row old table0 row).place) base (blocks_in old table0) (dope_row old table0 r).place
step_place old now table0 table base at settled upto row g s p r f =
    let xs = blocks_in old table0 in
    let q = (dope_row old table0 row).place in
    let place = (dope_row old table0 r).place in
    elim (cases_lt place upto) [
      | inl less ↦
          let packs = settled_yes upto base place xs less in
          let lower : settled_place upto base xs place < q = omega (arith, packs, packed-next xs base upto (block_of old table0 r) (full_in old table0 r f) less, g.reached, p.at_most, f.some) in
          ap (λ t. cond t at (settled_place upto base xs place)) (ne_eqb (settled_place upto base xs place) q (λ e. omega (arith, e, lower)))
          ∙ packs ∙ sym (settled_yes (suc q) base place xs (omega (arith, less, p.lowest.here)))
      | inr more ↦
          let stays = settled_no upto base place xs more in
          let high = p.lowest.first (block_of old table0 r) (full_in old table0 r f) more in
          elim (cases_eq place q) [
            | inl same ↦
                ap (λ t. cond t at (settled_place upto base xs place)) (eq-eqb (settled_place upto base xs place) q (stays ∙ same))
                ∙ sym p.packed_at ∙ ap (packed base xs) (sym same) ∙ sym (settled_yes (suc q) base place xs (omega (arith, same)))
            | inr other ↦
                ap (λ t. cond t at (settled_place upto base xs place)) (ne_eqb (settled_place upto base xs place) q (λ e. other (sym stays ∙ e)))
                ∙ stays ∙ sym (settled_no (suc q) base place xs (omega (arith, high, other)))
          ]
    ]

next_at : (old now : List ℕ) (table0 table base at settled upto row : ℕ) (g : Going old now table0 table base at settled upto) → IsSound old table0 base → Passed old now table0 table base at settled upto row g → at + block_bytes (dope_row old table0 row) ≡ packed base (blocks_in old table0) (suc (dope_row old table0 row).place)
next_at old now table0 table base at settled upto row g s p = omega (arith, walk-next (blocks_in old table0) base (length old) upto (block_of old table0 row) (standing old table0 base s) p.lowest, g.reached)

-- it moved
pub Going-moved : (old now new : List ℕ) (table0 table table' base at settled upto row : ℕ) → IsSound old table0 base → (g : Going old now table0 table base at settled upto) → IsNext now table at row
    → at < (dope_row now table row).place → Moves base (moved_to (dope_row now table row).place at) now new table table'
    → Going old new table0 table' base (at + block_bytes (dope_row now table row)) (settled + 1) (suc (dope_row old table0 row).place)
Going-moved old now new table0 table table' base at settled upto row s g n less m =
    let xs = blocks_in old table0 in
    let p = passed old now table0 table base at settled upto row g s n in
    let q = (dope_row old table0 row).place in
    let size = bytes_moved base (settled_place upto base xs) old now table0 table row g.moves p.full.within in
    record {
      moves = then_moves base (settled_place upto base xs) (moved_to (dope_row now table row).place at) (settled_place (suc q) base xs) old now new table0 table table' s.some (first_full old table0 base s) s.place g.moves m
          (λ r f. ap (λ k. moved_to k at (settled_place upto base xs (dope_row old table0 r).place)) p.stands ∙ step_place old now table0 table base at settled upto row g s p r f);
      reached = ap (λ k. at + k) size ∙ next_at old now table0 table base at settled upto row g s p;
      count = omega (arith, g.count, walk-unsettled xs base (length old) upto (block_of old table0 row) (standing old table0 base s) p.lowest (omega (arith, less, p.stands, g.reached)));
    }

-- it stood there already
pub Going-stayed : (old now : List ℕ) (table0 table base at settled upto row : ℕ) → IsSound old table0 base → (g : Going old now table0 table base at settled upto) → IsNext now table at row
    → (dope_row now table row).place ≤ at
    → Going old now table0 table base (at + block_bytes (dope_row now table row)) settled (suc (dope_row old table0 row).place)
Going-stayed old now table0 table base at settled upto row s g n most =
    let xs = blocks_in old table0 in
    let p = passed old now table0 table base at settled upto row g s n in
    let q = (dope_row old table0 row).place in
    let to = settled_place upto base xs in
    let size = bytes_moved base to old now table0 table row g.moves p.full.within in
    let same : at ≡ q = omega (arith, most, p.stands, p.at_most) in
    record {
      moves = same_moves base to (settled_place (suc q) base xs) old now table0 table (first_full old table0 base s) s.place g.moves
          (λ r f. sym (stays_there q at (to (dope_row old table0 r).place) same) ∙ step_place old now table0 table base at settled upto row g s p r f);
      reached = ap (λ k. at + k) size ∙ next_at old now table0 table base at settled upto row g s p;
      count = omega (arith, g.count, walk-settled xs base upto (block_of old table0 row) p.lowest (omega (arith, most, p.stands, g.reached)));
    }
  where
    stays_there : (q at k : ℕ) → at ≡ q → moved_to q at k ≡ k
    stays_there q at k e = elim (cases_eq k q) [
      | inl h ↦ ap (λ t. cond t at k) (eq-eqb k q h) ∙ e ∙ sym h
      | inr h ↦ ap (λ t. cond t at k) (ne_eqb k q h)
    ]

-- ---- the end

ended : (old now : List ℕ) (table0 table base at settled upto k : ℕ) → IsSound old table0 base → (g : Going old now table0 table base at settled upto) → unsettled_below base (blocks_in old table0) upto ≡ min k (unsettled base (blocks_in old table0)) → Compacts base k old now table0 table settled
ended old now table0 table base at settled upto k s g all =
    let xs = blocks_in old table0 in
    record {
      moves = same_moves base (settled_place upto base xs) (place_after k base xs) old now table0 table (first_full old table0 base s) s.place g.moves
          (λ r f. sym (same_place k base (length old) upto xs (standing old table0 base s) all (block_of old table0 r) (full_in old table0 r f)));
      count = g.count ∙ all;
    }

-- as many have settled as may
pub Going-full : (old now : List ℕ) (table0 table base at settled upto k : ℕ) → IsSound old table0 base → Going old now table0 table base at settled upto → settled ≡ k → Compacts base k old now table0 table settled
Going-full old now table0 table base at settled upto k s g e =
    let xs = blocks_in old table0 in
    ended old now table0 table base at settled upto k s g (omega (arith, g.count, e, most upto))
  where
    most : (upto : ℕ) → unsettled_below base (blocks_in old table0) upto ≤ unsettled base (blocks_in old table0)
    most upto = elim (cases_lt upto (length old)) [
      | inl l ↦ omega (arith, unsettled_more base upto (length old) (blocks_in old table0) (omega (arith, l)), unsettled_all base (length old) (blocks_in old table0) (standing old table0 base s))
      | inr l ↦ omega (arith, walk-all (blocks_in old table0) base upto (λ c i. omega (arith, l, each_at (λ b. b.place + b.bytes ≤ length old) (blocks_in old table0) c (standing old table0 base s).within i, each_at (λ b. 0 < b.bytes) (blocks_in old table0) c (standing old table0 base s).some i)))
    ]

-- or all blocks were passed
pub Going-out : (old now : List ℕ) (table0 table base at settled upto k : ℕ) → IsSound old table0 base → Going old now table0 table base at settled upto → ((r : ℕ) → IsFull old table0 r → (dope_row old table0 r).place < upto) → settled ≤ k → Compacts base k old now table0 table settled
Going-out old now table0 table base at settled upto k s g all most =
    let begins : (c : Block) → In c (blocks_in old table0) → c.place < upto = λ c i. let found = in_full old table0 c i in omega (arith, all found.0 found.1, ap (λ b. b.place) found.2) in
    ended old now table0 table base at settled upto k s g (omega (arith, walk-all (blocks_in old table0) base upto begins, g.count, most))

-- ---- what the calls need

-- the table and the next block lie in the pool
pub record Inside (now : List ℕ) (table : ℕ) : Type 0 where
  pub some : 0 < row_count now table
  pub fits : table + 10 * row_count now table ≤ length now

pub going_inside : (old now : List ℕ) (table0 table base at settled upto : ℕ) → IsSound old table0 base → Going old now table0 table base at settled upto → Inside now table
going_inside old now table0 table base at settled upto s g =
    let xs = blocks_in old table0 in
    let to = settled_place upto base xs in
    let first = first_full old table0 base s in
    let count : row_count now table ≡ row_count old table0 = ap (λ d. d.count) (g.moves.rows 0 s.some) in
    let stood : table ≡ to (dope_row old table0 0).place = g.moves.told ∙ ap to (sym s.place) in
    record {
      some = omega (arith, s.some, count);
      fits = omega (
        arith,
        count,
        stood,
        settled-le upto base (length old) xs (standing old table0 base s) (block_of old table0 0) (full_in old table0 0 first),
        s.within 0 first,
        bytes_of_table (dope_row old table0 0) s.stride,
        g.moves.size,
      );
    }

-- the next block has bytes and ends in the pool, and `at` is no higher than it stands
pub record Block' (now : List ℕ) (table at row : ℕ) : Type 0 where
  pub some : 0 < block_bytes (dope_row now table row)
  pub within : at + block_bytes (dope_row now table row) ≤ length now
  pub small : length now ≤ 65536

pub next_inside : (old now : List ℕ) (table0 table base at settled upto row : ℕ) → IsSound old table0 base → Going old now table0 table base at settled upto → IsNext now table at row → Block' now table at row
next_inside old now table0 table base at settled upto row s g n =
    let m = movable old now table0 table base at settled upto row g s n in
    record { some = n.full.some; within = omega (arith, m.room); small = omega (arith, g.moves.size, s.size) }

-- nothing moves below the static bytes
pub going_above : (old now : List ℕ) (table0 table base at settled upto : ℕ) → IsSound old table0 base → Going old now table0 table base at settled upto → (base ≤ at) × (base ≤ table)
going_above old now table0 table base at settled upto s g =
    let xs = blocks_in old table0 in
    let place = (dope_row old table0 0).place in
    let first = full_in old table0 0 (first_full old table0 base s) in
    let stood : table ≡ settled_place upto base xs place = g.moves.told ∙ ap (settled_place upto base xs) (sym s.place) in (
      omega (arith, g.reached),
      elim (cases_lt place upto) [
        | inl less ↦ omega (arith, stood, settled_yes upto base place xs less)
        | inr more ↦ omega (arith, stood, settled_no upto base place xs more, s.above 0 (first_full old table0 base s))
      ],
    )
