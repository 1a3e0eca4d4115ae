-- The blocks of a pool, by its rows and by the lists in reading order: what is summed over both is the same.
use Rattle.std.proofs.Common.{◌≡◌, ◌≢◌, ℕ, zero, suc, ◌+◌, ◌*◌, ◌/◌, ◌<◌, ◌≤◌, Bool, true, false, cond, nat_lt, List, [], ◌∷◌, map, filter, length, get_or, sum_by, AllPairs, Option, Some, None, is_some, inl, inr, refl, sym, ap, ap₂, ◌∙◌, arith, lt-ltb, eq-eqb, ◌==◌, zero-mul}
use Rattle.std.specs.List.{list_any, range_with_len}
use Rattle.std.proofs.lemmas.Bool.{cases_eq, or_parts, false≢true}
use Rattle.std.proofs.lemmas.Nat.{mul-le}
use Rattle.std.proofs.lemmas.List.{take_all}
use Rattle.std.proofs.lemmas.List.FromFn.{length-map-range_with_len, get_or-map-range_with_len}
use Rattle.nxt_facts.specs.Sums.{sum_below}
use Rattle.nxt_facts.proofs.Each.{Each, each_then, each_both}
use Rattle.nxt_facts.proofs.Pairs.{all_pairs, each_pair}
use Rattle.nxt_facts.proofs.Sums.{total, total_is, total-map, total_same, is_it}
use Rattle.nxt_facts.proofs.SumsBelow.{sums_same}
use Rattle.nxt_types.specs.Pool.{round4}
use Rattle.nxt_model.specs.Dump.{pool_blocks}
use Rattle.nxt_model.specs.Reading.{Block, DopeRow, Memory, HeldList, non_empty}
use Rattle.nxt_model.specs.Reading.{dope_row as memory_row}
use Rattle.nxt_blocks.specs.Blocks.{has_bytes}
use Rattle.nxt_rows.specs.Rows.{dope_row, row_count}
use Rattle.nxt_compact.specs.Pools.{block_bytes, block_of, blocks_in, IsSound}
use Rattle.nxt_compact.proofs.Laws.Going.{first_full}
use Rattle.nxt_heap.specs.Dumps.{row_of, HoldHeap, IsDopeTable}
use Rattle.nxt_heap.specs.Lists.{Lists, ByteList, list_at, bytes_at, bytes_of, stride_at, stride_of, IsAlive}
use Rattle.nxt_values.proofs.Laws.HeldRows.{own_below, below_listed, alive_within}
use Rattle.nxt_space.proofs.Laws.Reads.{list_in, lists_in, count_of}

-- ---- sums

kept_weight : {X : Type 0} (w : X → ℕ) (x : X) (ys : List X) (n : ℕ) (b : Bool) → total w ys ≡ n → total w (cond b (x ∷ ys) ys) ≡ cond b (w x) 0 + n
kept_weight w x ys n true e = ap (λ k. w x + k) e
kept_weight w x ys n false e = omega (arith, e)

total_filter : {X : Type 0} (w : X → ℕ) (p : X → Bool) (xs : List X) → total w (filter p xs) ≡ total (λ x. cond (p x) (w x) 0) xs
total_filter w p [] = refl
total_filter w p (x ∷ xs) = kept_weight w x (filter p xs) (total (λ y. cond (p y) (w y) 0) xs) (p x) (total_filter w p xs)

-- ---- by rows

abbrev weight : (Block → ℕ) → Block → ℕ
weight w b = cond (has_bytes b) (w b) 0

by_rows : (w : Block → ℕ) (pool : List ℕ) (table : ℕ) → sum_by w (blocks_in pool table) ≡ sum_below (λ r. weight w (block_of pool table r)) (row_count pool table)
unfolding blocks_in
by_rows w pool table =
    let f = block_of pool table in
    let n = row_count pool table in
    let xs = map f (range_with_len 0 n) in
    let none : Block = record { place = 0; bytes = 0 } in
    let long : length xs ≡ n = length-map-range_with_len f 0 n in
    total_is w (filter has_bytes xs)
    ∙ total_filter w has_bytes xs
    ∙ sym (total_is (weight w) xs)
    ∙ sym (ap (sum_by (weight w)) (take_all n xs (omega (arith, long))))
    ∙ sym (below_listed (weight w) xs none n (omega (arith, long)))
    ∙ sums_same (λ r. weight w (get_or xs r none)) (λ r. weight w (f r)) n (λ r less. ap (weight w) (get_or-map-range_with_len f 0 n r r none less (omega arith)))

-- ---- by lists

-- where a list's block stands, with the rounded length
abbrev pub list_part : Memory → HeldList → Block
list_part m l = record { place = (memory_row m l.row).place; bytes = round4 (l.count * l.stride) }

abbrev shown : DopeRow → Block
shown d = record { place = d.place; bytes = round4 (d.count * d.stride) }

pool_block : (pool : List ℕ) (table r : ℕ) → block_of pool table r ≡ shown (row_of pool table r)
unfolding block_bytes dope_row
pool_block pool table r = refl

-- the rows of a memory are those of a pool, which holds the lists of a heap, and whose rows are these
module _ (m : Memory) (pool : List ℕ) (base : ℕ) (h : Lists) (rows : List ℕ)
    (holds : HoldHeap m.bytes m.table h) (dope : IsDopeTable m.bytes m.table h) (sound : IsSound pool m.table base)
    (counted : row_count pool m.table ≡ length h.by_row)
    (same : (r : ℕ) → r < length h.by_row → row_of m.bytes m.table r ≡ row_of pool m.table r)
    (first : list_at h 0 ≡ None)
    (strides : Each (λ r. 1 ≤ stride_at h r) rows)
    (alive : Each (IsAlive h) rows)
    (named : (r : ℕ) → IsAlive h r → list_any (λ q. q == r) rows ≡ true)
    (own : AllPairs (λ a b. a ≢ b) rows) where
  abbrev pub n : ℕ
  n = length h.by_row

  -- a row's block, as the memory shows it
  shown_block : (r : ℕ) → r < n → block_of pool m.table r ≡ shown (memory_row m r)
  shown_block r less = pool_block pool m.table r ∙ ap shown (sym (same r less))

  pub not_first : (r : ℕ) → IsAlive h r → 0 ≢ r
  not_first r a e = let f : ⊥ = cc (first, ap (list_at h) e, a) in f

  -- its count and stride
  counts_by : (r : ℕ) (o : Option ByteList) → list_at h r ≡ o → 1 ≤ stride_at h r → IsAlive h r → ((memory_row m r).count ≡ length (bytes_at h r) / stride_at h r) × ((memory_row m r).stride ≡ stride_at h r) × (r < n)
  counts_by r None is some a = let f : ⊥ = cc (a, ap is_some is) in absurd f
  counts_by r (Some l) is some a =
      let e = holds.lists r l is in
      let wide : stride_at h r ≡ l.stride = ap stride_of is in
      let long : length (bytes_at h r) ≡ length l.bytes = ap (λ o. length (bytes_of o)) is in (
        sym (ap (λ k. length (bytes_at h r) / k) wide ∙ ap (λ k. k / l.stride) long ∙ count_of (memory_row m r).count l.stride (length l.bytes) (omega (arith, some, wide)) e.whole),
        e.stride ∙ sym wide,
        omega (arith, e.within, holds.rows),
      )

  pub counts : (r : ℕ) → 1 ≤ stride_at h r → IsAlive h r → ((memory_row m r).count ≡ length (bytes_at h r) / stride_at h r) × ((memory_row m r).stride ≡ stride_at h r) × (r < n)
  counts r some a = counts_by r (list_at h r) refl some a

  pub list_block : (r : ℕ) → 1 ≤ stride_at h r → IsAlive h r → list_part m (list_in h r) ≡ block_of pool m.table r
  list_block r some a = let c = counts r some a in sym (shown_block r c.2 ∙ rw (c.0, c.1) refl)

  pub table_block : record { place = m.table; bytes = round4 (10 * n) } ≡ block_of pool m.table 0
  table_block =
      let long : (memory_row m 0).count * (memory_row m 0).stride ≡ 10 * n = ap (λ k. (memory_row m 0).count * k) dope.stride ∙ omega (arith, holds.rows) in
      sym (shown_block 0 (omega (arith, sound.some, counted)) ∙ rw (dope.place, long) refl)

  -- ---- sums over both

  abbrev row_weight : (Block → ℕ) → ℕ → ℕ
  row_weight w r = weight w (block_of pool m.table r)

  some_bytes : (k s : ℕ) → 1 ≤ s → nat_lt 0 (round4 (k * s)) ≡ nat_lt 0 k
  some_bytes zero s some = ap (λ k. nat_lt 0 (round4 k)) (zero-mul s)
  some_bytes (suc k) s some = lt-ltb 0 (round4 (suc k * s)) (omega (arith, mul-le 1 1 (suc k) s (omega arith) some)) ∙ sym (lt-ltb 0 (suc k) (omega arith))

  list_weight : (w : Block → ℕ) (r : ℕ) → 1 ≤ stride_at h r → IsAlive h r → cond (nat_lt 0 (list_in h r).count) (w (list_part m (list_in h r))) 0 ≡ row_weight w r
  list_weight w r some a =
      ap (λ b. cond b (w (list_part m (list_in h r))) 0) (sym (some_bytes (length (bytes_at h r) / stride_at h r) (stride_at h r) some))
      ∙ ap (weight w) (list_block r some a)

  lists_weight : (w : Block → ℕ) → total w (map (list_part m) (non_empty (lists_in h rows))) ≡ total (row_weight w) rows
  lists_weight w =
      let p : HeldList → Bool = λ l. nat_lt 0 l.count in
      total-map w (list_part m) (filter p (lists_in h rows))
      ∙ total_filter (λ l. w (list_part m l)) p (lists_in h rows)
      ∙ total-map (λ l. cond (p l) (w (list_part m l)) 0) (list_in h) rows
      ∙ total_same (λ r. cond (p (list_in h r)) (w (list_part m (list_in h r))) 0) (row_weight w) rows (each_both (λ r. 1 ≤ stride_at h r) (IsAlive h) (λ r. cond (p (list_in h r)) (w (list_part m (list_in h r))) 0 ≡ row_weight w r) (list_weight w) rows strides alive)

  -- a row without a list has no block
  dead_weight : (w : Block → ℕ) (r : ℕ) → 0 < r → r < n → list_at h r ≡ None → row_weight w r ≡ 0
  dead_weight w r above less none =
      let zero : (memory_row m r).count ≡ 0 = dope.bare r above (omega (arith, less, holds.rows)) none in
      let long : (memory_row m r).count * (memory_row m r).stride ≡ 0 = ap (λ k. k * (memory_row m r).stride) zero ∙ zero-mul (memory_row m r).stride in
      let with_bytes : ℕ → ℕ = λ k. let b : Block = record { place = (memory_row m r).place; bytes = round4 k } in weight w b in
      ap (weight w) (shown_block r less) ∙ ap with_bytes long

  missing : (w : Block → ℕ) (r : ℕ) (o : Option ByteList) → list_at h r ≡ o → r < n → list_any (is_it r) (0 ∷ rows) ≡ false → row_weight w r ≡ 0
  missing w r None is less e =
      let two = or_parts (0 == r) (list_any (is_it r) rows) e in
      let above : 0 < r = elim (cases_eq 0 r) [
        | inl same ↦ absurd (false≢true (sym two.0 ∙ eq-eqb 0 r same))
        | inr other ↦ omega (arith, other)
      ] in
      dead_weight w r above less is
  missing w r (Some l) is less e =
      let two = or_parts (0 == r) (list_any (is_it r) rows) e in
      absurd (false≢true (sym two.1 ∙ named r (ap is_some is)))

  every : (w : Block → ℕ) (r : ℕ) (b : Bool) → list_any (is_it r) (0 ∷ rows) ≡ b → r < n → cond b (row_weight w r) 0 ≡ row_weight w r
  every w r true is less = refl
  every w r false is less = sym (missing w r (list_at h r) refl less is)

  all_own : AllPairs (λ a b. a ≢ b) (0 ∷ rows)
  all_own = all_pairs (λ a b. a ≢ b) (0 ∷ rows) (each_then (IsAlive h) (λ r. 0 ≢ r) not_first rows alive, each_pair (λ a b. a ≢ b) rows own)

  all_within : Each (λ r. r < n) (0 ∷ rows)
  all_within = (omega (arith, sound.some, counted), each_then (IsAlive h) (λ r. r < n) (alive_within h) rows alive)

  -- each block weighs the same in both
  pub same_sums : (w : Block → ℕ) → sum_by w (pool_blocks m n (lists_in h rows)) ≡ sum_by w (blocks_in pool m.table)
  same_sums w =
      let tb : Block = record { place = m.table; bytes = round4 (10 * n) } in
      let full = first_full pool m.table base sound in
      let head : w tb ≡ row_weight w 0 = ap w table_block ∙ sym (ap (λ b. cond b (w (block_of pool m.table 0)) 0) (lt-ltb 0 (block_bytes (dope_row pool m.table 0)) full.some)) in
      total_is w (pool_blocks m n (lists_in h rows))
      ∙ ap₂ (λ (a b : ℕ). a + b) head (lists_weight w)
      ∙ sym (total_is (row_weight w) (0 ∷ rows))
      ∙ own_below (row_weight w) n (0 ∷ rows) all_own all_within
      ∙ sums_same (λ r. cond (list_any (is_it r) (0 ∷ rows)) (row_weight w r) 0) (row_weight w) n (λ r less. every w r (list_any (is_it r) (0 ∷ rows)) refl less)
      ∙ ap (sum_below (row_weight w)) (sym counted)
      ∙ sym (by_rows w pool m.table)
