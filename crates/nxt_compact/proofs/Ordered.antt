-- The blocks of a pool by ascending keys.
use Rattle.std.proofs.Common.{◌≡◌, ℕ, suc, ◌+◌, ◌*◌, ◌%◌, ◌<◌, ◌≤◌, inl, inr, List, length, take, set, slice_index, slice_index_or, refl, ap, sym, subst, ◌∙◌, arith}
use Rattle.std.specs.Prelude.{All, Contains, nat_eq, false}
use Rattle.std.specs.List.Sorted.{IsPermutation, IsNonDecreasing, IsStrictlyIncreasing}
use Rattle.std.proofs.lemmas.Bool.{cases_lt, cases_eq, ne_eqb, eq-eqb}
use Rattle.std.proofs.lemmas.Grind.{get_or-set_at}
use Rattle.std.proofs.lemmas.List.{get_or-set_other, get_or-take, get_or_default, length-take-le}
use Rattle.std.proofs.lemmas.List.Kept.{AllPairs-from_increasing}
use Rattle.std.proofs.lemmas.List.Sorted.{All-permutation, Contains-permutation}
use Rattle.std.proofs.lemmas.Map.Keys.{IsDistinct-from_apart, IsDistinct-IsPermutation, IsStrictlyIncreasing-from_distinct}
use Rattle.nxt_rows.specs.Rows.{dope_row, row_count, IsTable}
use Rattle.nxt_blocks.specs.Standing.{settled_place}
use Rattle.nxt_blocks.proofs.Laws.Packing.{packed-next, packed-more}
use Rattle.nxt_blocks.proofs.Laws.Settling.{settled_yes, settled_no, block_packed-le}
use Rattle.nxt_blocks.proofs.Laws.Walking.{IsLowest}
use Rattle.nxt_compact.specs.Pools.{block_bytes, block_of, blocks_in, IsSound, IsFull}
use Rattle.nxt_compact.specs.Orders.{block_key, IsKey, Listed, IsOrder}
use Rattle.nxt_compact.proofs.Laws.Shifted.{bytes_of_table}
use Rattle.nxt_compact.proofs.Laws.InPool.{full_in, in_full, standing}
use Rattle.nxt_compact.proofs.Laws.Next.{IsNext}
use Rattle.nxt_compact.proofs.Laws.Going.{Going, first_full, place_moved, moved_full, full_before}

pub few_rows : (pool : List ℕ) (table base : ℕ) → IsSound pool table base → row_count pool table ≤ 6553
few_rows pool table base s = omega (arith, bytes_of_table (dope_row pool table 0) s.stride, s.within 0 (first_full pool table base s), s.size)

pub table_of : (pool : List ℕ) (table base : ℕ) → IsSound pool table base → IsTable pool table
table_of pool table base s = record {
  some = s.some;
  within = omega (arith, bytes_of_table (dope_row pool table 0) s.stride, s.within 0 (first_full pool table base s), s.place);
}

-- a key is that of the row in it
pub record Keyed (pool : List ℕ) (table n : ℕ) : Type 0 where
  pub full : IsFull pool table (n % 65536)
  pub is : n ≡ block_key pool table (n % 65536)

pub keyed : (pool : List ℕ) (table base n : ℕ) → IsSound pool table base → IsKey pool table n → Keyed pool table n
keyed pool table base n s k =
    let same : n % 65536 ≡ k.0 = omega (arith, k.2, k.1.within, few_rows pool table base s) in
    record { full = rw same k.1; is = rw same k.2 }

-- ---- the list of keys

record Place (keys : List ℕ) (n i : ℕ) (y : ℕ) : Type 0 where
  old : i < n → slice_index (set keys n y) i ≡ slice_index keys i
  new : i ≡ n → slice_index (set keys n y) i ≡ y

placed : (keys : List ℕ) (n i y : ℕ) → n < length keys → Place keys n i y
placed keys n i y room = record {
  old = λ less. get_or-set_other keys n i y 0 (λ e. omega (arith, e, less));
  new = λ e. get_or-set_at keys n i y 0 e room;
}

-- the row is full, and its key is added
pub listed_more : (pool : List ℕ) (table row : ℕ) (keys : List ℕ) (n : ℕ) → row < 65536 → n < length keys → IsFull pool table row → Listed pool table row keys n → Listed pool table (row + 1) (set keys n (block_key pool table row)) (n + 1)
listed_more pool table row keys n small room full l =
    let y = block_key pool table row in
    let is : (i : ℕ) → Place keys n i y = λ i. placed keys n i y room in
    record {
      named = λ i less. elim (cases_lt i n) [
        | inl old ↦ subst (IsKey pool table) (sym ((is i).old old)) (l.named i old)
        | inr new ↦ (row, full, (is i).new (omega (arith, less, new)))
      ];
      all = λ r less f. elim (cases_lt r row) [
        | inl old ↦ let at = l.all r old f in (at.0, omega (arith, at.1), (is at.0).old at.1 ∙ at.2)
        | inr new ↦ (n, omega arith, (is n).new refl ∙ ap (block_key pool table) (omega (arith, less, new)))
      ];
      before = λ i less. elim (cases_lt i n) [
        | inl old ↦ omega (arith, (is i).old old, l.before i old)
        | inr new ↦ omega (arith, (is i).new (omega (arith, less, new)), small)
      ];
      rising = λ i j less within. elim (cases_lt j n) [
        | inl old ↦ omega (arith, (is i).old (omega (arith, less, old)), (is j).old old, l.rising i j less old)
        | inr new ↦
            let low : i < n = omega (arith, less, within) in
            omega (arith, (is i).old low, (is j).new (omega (arith, within, new)), l.before i low, small)
      ];
    }

-- the row has no block
pub listed_same : (pool : List ℕ) (table row : ℕ) (keys : List ℕ) (n : ℕ) → block_bytes (dope_row pool table row) ≤ 0 → Listed pool table row keys n → Listed pool table (row + 1) keys n
listed_same pool table row keys n none l = record {
  named = l.named;
  all = λ r less f. elim (cases_lt r row) [
    | inl old ↦ l.all r old f
    | inr new ↦ absurd (omega (arith, f.some, none, ap (λ q. block_bytes (dope_row pool table q)) (same r less new)))
  ];
  before = λ i less. omega (arith, l.before i less);
  rising = l.rising;
}
  where
    same : (r : ℕ) → r < row + 1 → row ≤ r → r ≡ row
    same r less new = omega (arith, less, new)

-- ---- sorted

flips : (a b : ℕ) → nat_eq a b ≡ nat_eq b a
flips a b = elim (cases_eq a b) [
  | inl e ↦ eq-eqb a b e ∙ sym (eq-eqb b a (sym e))
  | inr e ↦ ne_eqb a b e ∙ sym (ne_eqb b a (λ f. e (sym f)))
]

front : (keys : List ℕ) (n i d : ℕ) → n ≤ length keys → i < n → slice_index_or (take n keys) i d ≡ slice_index keys i
front keys n i d most less = get_or-take n keys i d less ∙ get_or_default keys i d 0 (omega (arith, less, most))

front_length : (keys : List ℕ) (n : ℕ) → n ≤ length keys → length (take n keys) ≡ n
front_length keys n most = length-take-le n keys most

pub sorted_order : (pool : List ℕ) (table : ℕ) (keys : List ℕ) (n : ℕ) (sorted : List ℕ) → n ≤ length keys → Listed pool table (row_count pool table) keys n → IsPermutation (take n keys) sorted → IsNonDecreasing sorted → IsOrder pool table sorted
sorted_order pool table keys n sorted most l moved ascending = record {
  named = All-permutation (IsKey pool table) (take n keys) sorted moved named;
  all = λ r f. Contains-permutation (take n keys) sorted (block_key pool table r) moved (there r f);
  ascending = IsStrictlyIncreasing-from_distinct sorted ascending (IsDistinct-IsPermutation nat_eq flips (take n keys) sorted moved (IsDistinct-from_apart nat_eq (take n keys) differ));
}
  where
    within : (i : ℕ) → i < length (take n keys) → i < n
    within i less = omega (arith, less, front_length keys n most)

    named : All (IsKey pool table) (take n keys)
    named i d less = subst (IsKey pool table) (sym (front keys n i d most (within i less))) (l.named i (within i less))

    there : (r : ℕ) → IsFull pool table r → Contains (take n keys) (block_key pool table r)
    there r f =
        let at = l.all r f.within f in
        (at.0, omega (arith, at.1, front_length keys n most), front keys n at.0 (block_key pool table r) most at.1 ∙ at.2)

    differ : (i j d : ℕ) → i < j → j < length (take n keys) → nat_eq (slice_index_or (take n keys) i d) (slice_index_or (take n keys) j d) ≡ false
    differ i j d less high =
        let last = within j high in
        ne_eqb (slice_index_or (take n keys) i d) (slice_index_or (take n keys) j d) (λ e.
        omega (arith, ap (λ k. k % 65536) (sym (front keys n i d most (omega (arith, less, last))) ∙ e ∙ front keys n j d most last), l.rising i j less last))

-- ---- the walk over ascending keys

-- the blocks of the keys before i begin below a place, and the others at it or above
pub record Ahead (keys : List ℕ) (i upto : ℕ) : Type 0 where
  pub passed : (j : ℕ) → j < i → slice_index keys j < 65536 * upto
  pub rest : (j : ℕ) → i ≤ j → j < length keys → 65536 * upto ≤ slice_index keys j

pub ahead_first : (keys : List ℕ) → Ahead keys 0 0
ahead_first keys = record { passed = λ j less. absurd (omega (arith, less)); rest = λ j low high. omega arith }

-- an earlier key is less
in_order : (keys : List ℕ) (i j : ℕ) → IsStrictlyIncreasing keys → i < j → j < length keys → slice_index keys i < slice_index keys j
in_order keys i j h less within = AllPairs-from_increasing keys h i j 0 less within

-- no block that wasn't passed begins below that of the next key
later_is : (old keys : List ℕ) (table0 base upto i : ℕ) → IsSound old table0 base → IsOrder old table0 keys → Ahead keys i upto → i < length keys → (q : ℕ) → IsFull old table0 q → upto ≤ (dope_row old table0 q).place → (dope_row old table0 (slice_index keys i % 65536)).place ≤ (dope_row old table0 q).place
later_is old keys table0 base upto i s o a less q f over =
    let k = keyed old table0 base (slice_index keys i) s (o.named i 0 less) in
    let there = o.all q f in
    let is : slice_index keys there.0 ≡ block_key old table0 q = get_or_default keys there.0 0 (block_key old table0 q) there.1 ∙ there.2 in
    let small : q < 65536 = omega (arith, f.within, few_rows old table0 base s) in
    elim (cases_lt there.0 i) [
      | inl before ↦ absurd (omega (arith, a.passed there.0 before, is, over))
      | inr after ↦ elim (cases_eq there.0 i) [
        | inl same ↦ omega (arith, is, k.is, small, ap (slice_index keys) same)
        | inr other ↦ omega (arith, in_order keys i there.0 o.ascending (omega (arith, after, other)) there.1, is, k.is, small)
      ]
    ]

-- the block of the next key is the next one
pub next_is : (old now keys : List ℕ) (table0 table base at settled upto i : ℕ) → IsSound old table0 base → IsOrder old table0 keys → Going old now table0 table base at settled upto → Ahead keys i upto → i < length keys → IsNext now table at (slice_index keys i % 65536)
next_is old now keys table0 table base at settled upto i s o g a less =
    let xs = blocks_in old table0 in
    let to = settled_place upto base xs in
    let k = keyed old table0 base (slice_index keys i) s (o.named i 0 less) in
    let r = slice_index keys i % 65536 in
    let p = (dope_row old table0 r).place in
    let high : upto ≤ p = omega (arith, a.rest i (omega arith) less, k.is) in
    let stays = settled_no upto base p xs high in
    let stood = place_moved base to old now table0 table r g.moves k.full in
    record {
      full = moved_full base to old now table0 table r s.some g.moves k.full;
      here = omega (arith, stood, stays, g.reached, packed-more xs base upto p high, block_packed-le xs base (length old) (standing old table0 base s) (block_of old table0 r) (full_in old table0 r k.full));
      first = λ q full low.
          let f = full_before base to old now table0 table q s.some g.moves full in
          let place = (dope_row old table0 q).place in
          let now_at = place_moved base to old now table0 table q g.moves f in
          elim (cases_lt place upto) [
            | inl under ↦ absurd (omega (arith, low, now_at, settled_yes upto base place xs under, packed-next xs base upto (block_of old table0 q) (full_in old table0 q f) under, g.reached, f.some))
            | inr over ↦ omega (arith, stood, stays, now_at, settled_no upto base place xs over, later_is old keys table0 base upto i s o a less q f over)
          ];
    }

pub next_row : (old now keys : List ℕ) (table0 table base at settled upto i row : ℕ) → IsSound old table0 base → IsOrder old table0 keys → Going old now table0 table base at settled upto → Ahead keys i upto → i < length keys → row ≡ slice_index keys i % 65536 → IsNext now table at row
next_row old now keys table0 table base at settled upto i row s o g a less is = subst (IsNext now table at) (sym is) (next_is old now keys table0 table base at settled upto i s o g a less)

pub full_key : (pool keys : List ℕ) (table base i row : ℕ) → IsSound pool table base → IsOrder pool table keys → i < length keys → row ≡ slice_index keys i % 65536 → IsFull pool table row
full_key pool keys table base i row s o less is = subst (IsFull pool table) (sym is) (keyed pool table base (slice_index keys i) s (o.named i 0 less)).full

-- in the old pool it is the lowest block that wasn't passed
pub lowest_is : (pool keys : List ℕ) (table base upto i row : ℕ) → IsSound pool table base → IsOrder pool table keys → Ahead keys i upto → i < length keys → row ≡ slice_index keys i % 65536 → IsLowest (blocks_in pool table) upto (block_of pool table row)
lowest_is pool keys table base upto i row s o a less is =
    let k = keyed pool table base (slice_index keys i) s (o.named i 0 less) in
    let small = few_rows pool table base s in
    subst (λ r. IsLowest (blocks_in pool table) upto (block_of pool table r)) (sym is) (record {
      there = full_in pool table (slice_index keys i % 65536) k.full;
      here = omega (arith, a.rest i (omega arith) less, k.is, k.full.within, small);
      first = λ b at over.
          let found = in_full pool table b at in
          omega (arith, later_is pool keys table base upto i s o a less found.0 found.1 (omega (arith, over, ap (λ c. c.place) found.2)), ap (λ c. c.place) found.2);
    })

-- and then the one after it
pub ahead_next : (old keys : List ℕ) (table0 base i upto row : ℕ) → IsSound old table0 base → IsOrder old table0 keys → Ahead keys i upto → i < length keys → row ≡ slice_index keys i % 65536 → Ahead keys (i + 1) (suc (dope_row old table0 row).place)
ahead_next old keys table0 base i upto row s o a less is =
    subst (λ r. Ahead keys (i + 1) (suc (dope_row old table0 r).place)) (sym is) (
    let k = key_at i less in
    let few = few_rows old table0 base s in
    record {
      passed = λ j before. elim (cases_lt j i) [
        | inl lower ↦ omega (arith, in_order keys j i o.ascending lower less, k.is, k.full.within, few)
        | inr here ↦ omega (arith, ap (slice_index keys) (last j before here), k.is, k.full.within, few)
      ];
      rest = λ j low high. let l = key_at j high in omega (arith, higher j low high, l.is);
    })
  where
    key_at : (j : ℕ) → j < length keys → Keyed old table0 (slice_index keys j)
    key_at j within = keyed old table0 base (slice_index keys j) s (o.named j 0 within)

    last : (j : ℕ) → j < i + 1 → i ≤ j → j ≡ i
    last j before here = omega (arith, before, here)

    -- no two blocks begin at one place
    higher : (j : ℕ) → i + 1 ≤ j → j < length keys → (dope_row old table0 (slice_index keys i % 65536)).place < (dope_row old table0 (slice_index keys j % 65536)).place
    higher j low high =
        let k = key_at i less in
        let l = key_at j high in
        let few = few_rows old table0 base s in
        let up = in_order keys i j o.ascending (omega (arith, low)) high in
        let p = (dope_row old table0 (slice_index keys i % 65536)).place in
        let q = (dope_row old table0 (slice_index keys j % 65536)).place in
        elim (cases_lt p q) [
          | inl fine ↦ fine
          | inr most ↦
              let same : p ≡ q = omega (arith, most, up, k.is, l.is, k.full.within, l.full.within, few) in
              absurd (elim (s.apart (slice_index keys i % 65536) (slice_index keys j % 65536) k.full l.full (λ e. omega (arith, e, same, up, k.is, l.is))) [
                | inl under ↦ omega (arith, under, same, k.full.some)
                | inr over ↦ omega (arith, over, same, l.full.some)
              ])
        ]

-- after the last key all blocks were passed
pub all_passed : (old keys : List ℕ) (table0 base upto : ℕ) → IsSound old table0 base → IsOrder old table0 keys → Ahead keys (length keys) upto → (r : ℕ) → IsFull old table0 r → (dope_row old table0 r).place < upto
all_passed old keys table0 base upto s o a r f =
    let there = o.all r f in
    omega (arith, a.passed there.0 there.1, get_or_default keys there.0 0 (block_key old table0 r) there.1 ∙ there.2)
