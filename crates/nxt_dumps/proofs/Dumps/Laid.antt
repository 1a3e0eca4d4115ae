-- A heap whose lists stand as a layout tells.
use Rattle.std.proofs.Common.{◌≡◌, ◌≢◌, ℕ, zero, suc, ◌+◌, ◌*◌, ◌/◌, ◌<◌, ◌≤◌, Bool, true, false, cond, ◌==◌, nat_lt, if◌then◌else◌, List, [], ◌∷◌, map, filter, length, Option, Some, None, refl, sym, ap, ap₂, ◌∙◌, arith, eq-eqb, ne_eqb, lt-ltb, zero-mul}
use Rattle.std.specs.Prelude.{max, fold}
use Rattle.std.proofs.Math.Nat.{zero-div}
use Rattle.std.proofs.lemmas.Nat.{mul-le}
use Rattle.nxt_facts.proofs.Each.{Each}
use Rattle.nxt_facts.proofs.Pairs.{each_pair}
use Rattle.nxt_types.specs.Pool.{round4, pool_size}
use Rattle.nxt_types.specs.declared.shape.TocEntry.{TocEntry}
use Rattle.nxt_model.specs.Values.{elements}
use Rattle.nxt_model.specs.Reading.{Block, DopeRow, Memory, HeldList, non_empty}
use Rattle.nxt_model.specs.Reading.{dope_row as memory_row}
use Rattle.nxt_model.specs.Dump.{Content, pool_blocks, places_of, greatest_end}
use Rattle.nxt_model.proofs.Laws.Values.{items-values}
use Rattle.nxt_blocks.specs.Blocks.{has_bytes}
use Rattle.nxt_blocks.specs.Standing.{Stand}
use Rattle.nxt_heap.specs.Lists.{Lists, list_at, bytes_at, stride_at, IsAlive, base_of}
use Rattle.nxt_space.specs.Inside.Kept.{rows_of}
use Rattle.nxt_space.proofs.Laws.Reads.{list_in, lists_in}
use Rattle.nxt_values.specs.Held.{values_among}
use Rattle.nxt_values.proofs.Laws.HeldRows.{all_alive, alive_within}
use Rattle.nxt_dumps.specs.Holdable.{IsHoldable, lengths_for}
use Rattle.nxt_dumps.specs.InHeap.{table_for, IsInHeap}
use Rattle.nxt_dumps.specs.Layouts.{Layout, blocks_of, lengths_of, place_of}
use Rattle.nxt_dumps.specs.Lengths.{lengths_among}
use Rattle.nxt_dumps.proofs.Dumps.Shown.{all_within}
use Rattle.nxt_dumps.proofs.Heaps.Bytes.{AreRows, full_rows, Standing, block, IsPart, all_blocks, block_by, all_parts}
use Rattle.nxt_dumps.proofs.Heaps.Holds.{is_row}
use Rattle.nxt_dumps.proofs.Heaps.Placed.{ByRows, by_rows, block_at}
use Rattle.nxt_dumps.proofs.Heaps.Rows.{IsWhole, size_of, all_whole, all_lengths}

-- ---- the heap's rows

pub rows_known : (c : Content) (h : Lists) → IsHoldable c → IsInHeap c h → AreRows h (rows_of (table_for c) h)
rows_known c h e is =
    let rows = rows_of (table_for c) h in
    record {
      first = is.stand.first;
      some = omega (arith, e.rows, is.rows);
      alive = all_alive c.entries h c.shapes 0 h.static_bytes 0 is.stand.held.holds;
      whole = all_whole c.entries h c.shapes 0 h.static_bytes 0 is.stand.held.holds;
      own = each_pair (λ a b. a ≢ b) rows is.stand.held.own;
      named = is.stand.held.named;
    }

tail_of : List ℕ → List ℕ
tail_of [] = []
tail_of (n ∷ ns) = ns

head_of : List ℕ → ℕ
head_of [] = 0
head_of (n ∷ ns) = n

list_lengths : (c : Content) (h : Lists) → IsInHeap c h → lengths_among c.shapes (elements c.values) ≡ map (size_of h) (rows_of (table_for c) h)
list_lengths c h is =
    let vs = values_among c.entries h c.shapes 0 h.static_bytes 0 in
    ap (λ v. lengths_among c.shapes (elements v)) (sym is.values)
    ∙ ap (lengths_among c.shapes) (items-values vs)
    ∙ all_lengths c.entries h c.shapes 0 h.static_bytes 0 is.stand.held.holds

-- the layout's blocks are those of the rows, at some places
pub laid : (c : Content) (h : Lists) (l : Layout) → IsHoldable c → IsInHeap c h → lengths_of l ≡ lengths_for c → ByRows (size_of h) (rows_of (table_for c) h) l.lists
unfolding tail_of
laid c h l e is lengths =
    by_rows (size_of h) (rows_of (table_for c) h) l.lists (rows_known c h e is).own (ap tail_of lengths ∙ list_lengths c h is)

pub laid_blocks : (c : Content) (h : Lists) (l : Layout) (e : IsHoldable c) (is : IsInHeap c h) (lengths : lengths_of l ≡ lengths_for c)
    → blocks_of l ≡ map (block h (rows_of (table_for c) h) (rows_known c h e is) l.table.place (laid c h l e is lengths).place) (0 ∷ full_rows h (rows_of (table_for c) h))
unfolding head_of
laid_blocks c h l e is lengths =
    let table : l.table.bytes ≡ round4 (10 * length h.by_row) = ap head_of lengths ∙ ap (λ n. round4 (10 * n)) (sym is.rows) in
    let found = laid c h l e is lengths in
    ap₂ (λ (n : ℕ) (xs : List Block). filter has_bytes (record { place = l.table.place; bytes = n } ∷ xs)) table found.are
    ∙ all_blocks h (rows_of (table_for c) h) (rows_known c h e is) l.table.place found.place

-- ---- the greatest end

most_by : (xs : List Block) (start end : ℕ) → start ≤ end → Each (λ b. b.place + b.bytes ≤ end) xs → fold (λ most b. max most (b.place + b.bytes)) start xs ≤ end
most_by [] start end low e = low
most_by (x ∷ xs) start end low e = most_by xs (max start (x.place + x.bytes)) end (omega (arith, low, e.0)) e.1

pub end_within : (base : ℕ) (xs : List Block) → Stand base pool_size xs → greatest_end xs ≤ pool_size
end_within base xs s = most_by xs 0 pool_size (omega arith) s.within

pub stands_by_end : (base : ℕ) (xs : List Block) → Stand base pool_size xs → Stand base (greatest_end xs) xs
stands_by_end base xs s = record { apart = s.apart; some = s.some; above = s.above; within = all_within xs }

-- ---- lists in reading order

module _ (entries : List TocEntry) (h : Lists) (rows : List ℕ) (are : AreRows h rows) (table : ℕ) (place : ℕ → ℕ) (top : ℕ) (small : top ≤ pool_size)
    (s : Stand (base_of h) top (map (block h rows are table place) (0 ∷ full_rows h rows))) (stand : Standing h rows are table place top) where
  abbrev m : Memory
  m = record { entries = entries; bytes = stand.pool; table = table }

  abbrev own : ℕ → Block
  own r = block h rows are table place r

  abbrev part : HeldList → Block
  part l = record { place = (memory_row m l.row).place; bytes = round4 (l.count * l.stride) }

  some_count : (n stride k : ℕ) → 1 ≤ stride → k * stride ≡ n → nat_lt 0 k ≡ nat_lt 0 n
  some_count n stride zero some e = ap (nat_lt 0) (sym (zero-mul stride) ∙ e)
  some_count zero stride (suc k) some e = absurd (omega (arith, mul-le 1 1 (suc k) stride (omega arith) some, e))
  some_count (suc n) stride (suc k) some e = lt-ltb 0 (suc k) (omega arith) ∙ sym (lt-ltb 0 (suc n) (omega arith))

  list_part : (r : ℕ) → IsAlive h r → IsPart h rows are table place r → IsWhole h r → part (list_in h r) ≡ own r
  list_part r a p w =
      ap₂ (λ (n k : ℕ). record { place = n; bytes = round4 k })
      (ap (λ (d : DopeRow). d.place) (is_row h rows are table place top small s stand r (alive_within h r a)))
      (w.whole ∙ sym p.bytes)

  kept_by : (r : ℕ) (xs : List HeldList) (ys : List ℕ) (t : Bool) → part (list_in h r) ≡ own r → map part xs ≡ map own ys → map part (cond t (list_in h r ∷ xs) xs) ≡ map own (cond t (r ∷ ys) ys)
  kept_by r xs ys true e f = ap₂ (λ (b : Block) (bs : List Block). b ∷ bs) e f
  kept_by r xs ys false e f = f

  parts_by : (rs : List ℕ) → Each (IsAlive h) rs → Each (IsPart h rows are table place) rs → Each (IsWhole h) rs → map part (non_empty (lists_in h rs)) ≡ map own (full_rows h rs)
  parts_by [] a p w = refl
  parts_by (r ∷ rs) a p w =
      let xs = non_empty (lists_in h rs) in
      let ys = full_rows h rs in
      ap (λ t. map part (cond t (list_in h r ∷ xs) xs)) (some_count (length (bytes_at h r)) (stride_at h r) (length (bytes_at h r) / stride_at h r) w.0.some w.0.whole)
      ∙ kept_by r xs ys (nat_lt 0 (length (bytes_at h r))) (list_part r a.0 p.0 w.0) (parts_by rs a.1 p.1 w.1)

  -- the blocks of the bytes, list by list, are those of the rows
  pub parts_are : pool_blocks m (length h.by_row) (lists_in h rows) ≡ map own (0 ∷ full_rows h rows)
  parts_are =
      let many : 10 * length h.by_row ≡ length h.by_row * 10 = omega arith in
      ap₂ (λ (n : ℕ) (xs : List Block). record { place = table; bytes = round4 n } ∷ xs) many (parts_by rows are.alive (all_parts h rows are table place) are.whole)

  place_by : (r n : ℕ) → length (bytes_at h r) ≡ n → IsAlive h r → IsWhole h r
      → (if (list_in h r).count == 0 then None else Some (memory_row m r).place) ≡ place_of (block_at (size_of h) place r)
  place_by r zero is a w =
      let none : (list_in h r).count ≡ 0 = ap (λ n. n / stride_at h r) is ∙ zero-div (stride_at h r) in
      ap (λ b. if b then None else Some (memory_row m r).place) (eq-eqb (list_in h r).count 0 none)
      ∙ sym (ap (λ b. if b then None else Some (place r)) (eq-eqb (size_of h r) 0 (ap round4 is)))
  place_by r (suc n) is a w =
      let some : 0 < length (bytes_at h r) = omega (arith, is) in
      let there : (memory_row m r).place ≡ place r =
      ap (λ (d : DopeRow). d.place) (is_row h rows are table place top small s stand r (alive_within h r a))
      ∙ sym (ap (λ (b : Block). b.place) (block_by h rows are table place r (list_at h r) refl a w some)) in
      ap (λ b. if b then None else Some (memory_row m r).place) (ne_eqb (list_in h r).count 0 (λ none. omega (arith, some, sym w.whole ∙ ap (λ k. k * stride_at h r) none ∙ zero-mul (stride_at h r))))
      ∙ ap Some there
      ∙ sym (ap (λ b. if b then None else Some (place r)) (ne_eqb (size_of h r) 0 (λ none. omega (arith, some, none))))

  places_by : (rs : List ℕ) → Each (IsAlive h) rs → Each (IsWhole h) rs → places_of m (lists_in h rs) ≡ map place_of (map (block_at (size_of h) place) rs)
  places_by [] a w = refl
  places_by (r ∷ rs) a w = ap₂ (λ (p : Option ℕ) ps. p ∷ ps) (place_by r (length (bytes_at h r)) refl a.0 w.0) (places_by rs a.1 w.1)

  -- and so are their places
  pub places_are : places_of m (lists_in h rows) ≡ map place_of (map (block_at (size_of h) place) rows)
  places_are = places_by rows are.alive are.whole
