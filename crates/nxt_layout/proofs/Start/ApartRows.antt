-- Where no rows share a byte, no lists do.
use Rattle.std.proofs.Common.{◌≡◌, ◌≢◌, ◌⊎◌, ℕ, ◌+◌, ◌*◌, ◌≤◌, ◌<◌, Bool, true, false, cond, ◌&&◌, ◌||◌, ◌==◌, nat_lt, List, [], ◌∷◌, map, AllPairs, inl, inr, refl, ap, arith, ne_eqb, ltb-true, ltb-false, lt-ltb, le-leb}
use Rattle.std.proofs.lemmas.Bool.{cases_order, or_left, or_right}
use Rattle.nxt_facts.specs.Pairs.{EachPair}
use Rattle.nxt_model.specs.Reading.{HeldList, row_count, Block, AreApart, non_empty, list_block, table_block, blocks_of}
use Rattle.nxt_layout.specs.Rows.{Ground, row, row_end, is_full}
use Rattle.nxt_layout.specs.LayoutRules.{rows_share_a_byte, place_of_row, end_of_row}
use Rattle.nxt_facts.proofs.Each.{Each, each_then, each_both, each_filter, each_mapped}
use Rattle.nxt_facts.proofs.Sums.{tally}
use Rattle.nxt_layout.proofs.Dope.Counts.{is_row}
use Rattle.nxt_layout.proofs.Start.OwnRows.{no_other, once_behind, IsFullList}
use Rattle.nxt_facts.proofs.Pairs.{all_pairs}

-- ---- two rows

one_is_past : (less zero' first second a b : Bool) → less ≡ true → (zero' || first) ≡ true → second ≡ true → (less && (zero' || first) && second && a && b) ≡ false → (a ≡ false) ⊎ (b ≡ false)
one_is_past true zero' first true false b e h k f = inl refl
one_is_past true zero' first true true false e h k f = inr refl
one_is_past true true first true true true e h k f = absurd (let x : ⊥ = cc in x)
one_is_past true false true true true true e h k f = absurd (let x : ⊥ = cc in x)
one_is_past true false false second a b e h k f = absurd (let x : ⊥ = cc in x)
one_is_past true zero' first false a b e h k f = absurd (let x : ⊥ = cc in x)
one_is_past false zero' first second a b e h k f = absurd (let x : ⊥ = cc in x)

-- of two rows that share no byte one ends before the other
apart_rows : (g : Ground) (q r : ℕ) → q < r → ((q == 0) || is_full g q) ≡ true → is_full g r ≡ true → rows_share_a_byte g q r ≡ false → (end_of_row g r ≤ place_of_row g q) ⊎ (end_of_row g q ≤ place_of_row g r)
apart_rows g q r less first second apart =
    elim (one_is_past (nat_lt q r) (q == 0) (is_full g q) (is_full g r) (nat_lt (place_of_row g q) (end_of_row g r)) (nat_lt (place_of_row g r) (end_of_row g q)) (lt-ltb q r less) first second apart) [
      | inl e ↦ inl (ltb-false (place_of_row g q) (end_of_row g r) e)
      | inr e ↦ inr (ltb-false (place_of_row g r) (end_of_row g q) e)
    ]

not_first : (r : ℕ) → 0 < r → (r == 0) ≡ false
not_first r h = ne_eqb r 0 (λ e. omega arith)

place_of_other : (g : Ground) (r : ℕ) → 0 < r → place_of_row g r ≡ (row g r).place
place_of_other g r h = ap (λ b. cond b g.memory.table (row g r).place) (not_first r h)

end_of_other : (g : Ground) (r : ℕ) → 0 < r → end_of_row g r ≡ row_end g r
end_of_other g r h = ap (λ b. cond b (g.memory.table + 10 * row_count g.memory) (row_end g r)) (not_first r h)

along : (a b c d : ℕ) → a ≡ c → b ≡ d → a ≤ b → c ≤ d
along a b c d e h k = omega arith

-- ---- blocks

apart_from : (a b : Block) → ((a.place + a.bytes ≤ b.place) ⊎ (b.place + b.bytes ≤ a.place)) → AreApart a b
apart_from a b h =
    elim h [
      | inl e ↦ or_left _ _ (le-leb (a.place + a.bytes) b.place e)
      | inr e ↦ or_right _ _ (le-leb (b.place + b.bytes) a.place e)
    ]

abbrev full : Ground → ℕ → Type 0
full g r = (0 < r) × (is_full g r ≡ true)

-- lists of two rows
lists_apart : (g : Ground) → ((q r : ℕ) → rows_share_a_byte g q r ≡ false) → (l k : HeldList) → full g l.row → full g k.row → l.row ≢ k.row → AreApart (list_block g.memory l) (list_block g.memory k)
lists_apart g none l k a b other =
    elim (cases_order l.row k.row) [
      | inl e ↦ absurd (other e)
      | inr w ↦ elim w [
        | inl less ↦ apart_from (list_block g.memory l) (list_block g.memory k) (
            elim (apart_rows g l.row k.row less (or_right _ _ a.1) b.1 (none l.row k.row)) [
              | inl e ↦ inr (along _ _ _ _ (end_of_other g k.row b.0) (place_of_other g l.row a.0) e)
              | inr e ↦ inl (along _ _ _ _ (end_of_other g l.row a.0) (place_of_other g k.row b.0) e)
            ]
            )
        | inr less ↦ apart_from (list_block g.memory l) (list_block g.memory k) (
            elim (apart_rows g k.row l.row less (or_right _ _ b.1) a.1 (none k.row l.row)) [
              | inl e ↦ inl (along _ _ _ _ (end_of_other g l.row a.0) (place_of_other g k.row b.0) e)
              | inr e ↦ inr (along _ _ _ _ (end_of_other g k.row b.0) (place_of_other g l.row a.0) e)
            ]
            )
      ]
    ]

-- a list and the table
table_apart : (g : Ground) → ((q r : ℕ) → rows_share_a_byte g q r ≡ false) → (l : HeldList) → full g l.row → AreApart (table_block g.memory) (list_block g.memory l)
table_apart g none l a =
    apart_from (table_block g.memory) (list_block g.memory l) (
    elim (apart_rows g 0 l.row a.0 refl a.1 (none 0 l.row)) [
      | inl e ↦ inr (along _ _ _ _ (end_of_other g l.row a.0) refl e)
      | inr e ↦ inl (along _ _ _ _ refl (place_of_other g l.row a.0) e)
    ]
    )

-- ---- all lists

block_step : (g : Ground) → ((q r : ℕ) → rows_share_a_byte g q r ≡ false) → (l : HeldList) (ls : List HeldList) (b : Bool) → nat_lt 0 l.count ≡ b → IsFullList g l → Each (IsFullList g) ls → (0 < l.row → Each (λ k. l.row ≢ k.row) ls) → EachPair AreApart (map (list_block g.memory) (non_empty ls)) → EachPair AreApart (map (list_block g.memory) (cond b (l ∷ non_empty ls) (non_empty ls)))
block_step g none l ls true e here full others rest =
    let some = here (ltb-true 0 l.count e) in (
      each_mapped
          (AreApart (list_block g.memory l))
          (list_block g.memory)
          (non_empty ls)
          (each_filter
          (λ k. AreApart (list_block g.memory l) (list_block g.memory k))
          (λ k. nat_lt 0 k.count)
          ls
          (each_both
          (IsFullList g)
          (λ k. l.row ≢ k.row)
          (λ k. nat_lt 0 k.count ≡ true → AreApart (list_block g.memory l) (list_block g.memory k))
          (λ k h other c.
          let it = h (ltb-true 0 k.count c) in
          lists_apart g none l k some it other)
          ls
          full
          (others some.0))),
      rest,
    )
block_step g none l ls false e here full others rest = rest

block_pairs : (g : Ground) → ((q r : ℕ) → rows_share_a_byte g q r ≡ false) → (ls : List HeldList) → Each (IsFullList g) ls → ((r : ℕ) → 0 < r → tally (is_row r) ls ≤ 1) → EachPair AreApart (map (list_block g.memory) (non_empty ls))
block_pairs g none [] full once = tt
block_pairs g none (l ∷ ls) full once =
    block_step
    g
    none
    l
    ls
    (nat_lt 0 l.count)
    refl
    full.0
    full.1
    (no_other l ls once)
    (block_pairs g none ls full.1 (once_behind l ls once))

from_table : (g : Ground) → ((q r : ℕ) → rows_share_a_byte g q r ≡ false) → (ls : List HeldList) → Each (IsFullList g) ls → Each (AreApart (table_block g.memory)) (map (list_block g.memory) (non_empty ls))
from_table g none ls full =
    each_mapped
    (AreApart (table_block g.memory))
    (list_block g.memory)
    (non_empty ls)
    (each_filter
    (λ k. AreApart (table_block g.memory) (list_block g.memory k))
    (λ k. nat_lt 0 k.count)
    ls
    (each_then
    (IsFullList g)
    (λ k. nat_lt 0 k.count ≡ true → AreApart (table_block g.memory) (list_block g.memory k))
    (λ k h c. table_apart g none k (h (ltb-true 0 k.count c)))
    ls
    full))

-- the lists and the table share no byte
pub blocks_apart : (g : Ground) → ((q r : ℕ) → rows_share_a_byte g q r ≡ false) → (ls : List HeldList) → Each (IsFullList g) ls → ((r : ℕ) → 0 < r → tally (is_row r) ls ≤ 1) → AllPairs AreApart (blocks_of g.memory ls)
blocks_apart g none [] full once = all_pairs AreApart [] tt
blocks_apart g none (l ∷ ls) full once =
    all_pairs
    AreApart
    (table_block g.memory ∷ map (list_block g.memory) (non_empty (l ∷ ls)))
    (from_table g none (l ∷ ls) full, block_pairs g none (l ∷ ls) full once)
