-- What the pool holds, by rows as the memory of a file has them; and so does its front with all blocks.
use Rattle.std.proofs.Common.{◌≡◌, ◌≢◌, ℕ, ◌+◌, ◌*◌, ◌<◌, ◌≤◌, List, [], ◌∷◌, length, take, drop, get_or, Some, None, refl, sym, subst, ap, ap₂, ◌∙◌, arith, inl, inr, le-leb, length-take}
use Rattle.std.specs.Prelude.{fold, max}
use Rattle.std.proofs.lemmas.Bool.{cases_lt, cases_eq, or_left, or_right}
use Rattle.std.proofs.Math.Nat.{le-mul_of_pos_right}
use Rattle.std.proofs.lemmas.List.{get_or_past, get_or-take, take_all}
use Rattle.nxt_types.proofs.Laws.Pool.{le-round4}
use Rattle.nxt_model.specs.Dump.{greatest_end}
use Rattle.nxt_model.specs.Reading.{DopeRow, Block, AreApart}
use Rattle.nxt_blocks.specs.Standing.{IsApart}
use Rattle.nxt_blocks.proofs.Laws.Sums.{In}
use Rattle.nxt_rows.specs.declared.DopeRow.{DopeRow as Row}
use Rattle.nxt_rows.specs.Rows.{dope_row, row_count}
use Rattle.nxt_rows.proofs.Laws.Writes.{dope_row-kept}
use Rattle.nxt_compact.specs.Pools.{block_bytes, block_of, blocks_in, IsFull}
use Rattle.nxt_compact.proofs.Laws.Going.{first_full}
use Rattle.nxt_compact.proofs.Laws.InPool.{full_in, in_full}
use Rattle.nxt_compact.proofs.Laws.Shifted.{bytes_of_table}
use Rattle.nxt_heap.specs.declared.blocks.BlockState.{BlockState}
use Rattle.nxt_heap.specs.Dumps.{row_of, rows_of, IsRowOf, IsFilled, row_block, table_block, HoldHeap}
use Rattle.nxt_heap.specs.Lists.{ByteList}
use Rattle.nxt_heap.specs.Inside.Pool.{row_bytes, list_in, lists_in, state_of, Shows, IsPool, IsEnd, IsHeap}
use Rattle.nxt_heap.proofs.ListsKept.{list_in-first, list_in-none, list_in-some, list_in-moved, length-lists_in, lists_in-at, same_lists_in}
use Rattle.nxt_heap.proofs.Seen.{length_bytes, length_static}
use Rattle.nxt_heap.proofs.Settled.{base_below, end_inside}
use Rattle.nxt_heap.proofs.Windows.{same_window, le-block}

-- ---- where the last block ends

-- the greatest end of blocks, and of a number before them
abbrev greatest_from : ℕ → List Block → ℕ
greatest_from start blocks = fold (λ most b. max most (b.place + b.bytes)) start blocks

start_below : (xs : List Block) (start : ℕ) → start ≤ greatest_from start xs
start_below [] start = omega arith
start_below (x ∷ xs) start = omega (arith, start_below xs (max start (x.place + x.bytes)))

each_below : (xs : List Block) (start : ℕ) (b : Block) → In b xs → b.place + b.bytes ≤ greatest_from start xs
each_below [] start b i = absurd i
each_below (x ∷ xs) start b (inl same) = omega (arith, ap (λ c. c.place + c.bytes) same, start_below xs (max start (x.place + x.bytes)))
each_below (x ∷ xs) start b (inr i) = each_below xs (max start (x.place + x.bytes)) b i

greatest_below : (xs : List Block) (start end : ℕ) → start ≤ end → ((b : Block) → In b xs → b.place + b.bytes ≤ end) → greatest_from start xs ≤ end
greatest_below [] start end low all = low
greatest_below (x ∷ xs) start end low all =
    greatest_below xs (max start (x.place + x.bytes)) end (omega (arith, low, all x (inl refl))) (λ b i. all b (inr i))

-- the pool's end is the greatest end of its blocks
pub end_is_greatest : (pool : List ℕ) (table end : ℕ) → IsEnd pool table end → greatest_end (blocks_in pool table) ≡ end
end_is_greatest pool table end e =
    let xs = blocks_in pool table in
    let most = greatest_below xs 0 end (omega arith) (λ b i.
    let found = in_full pool table b i in
    omega (arith, e.most found.0 found.1, ap (λ c. c.place + c.bytes) found.2)) in
    let there = each_below xs 0 (block_of pool table e.is.0) (full_in pool table e.is.0 e.is.1) in
    omega (arith, most, there, e.is.2)

-- ---- rows with a list, and blocks

-- what a row with a list has
record HasList (pool : List ℕ) (table r : ℕ) (l : ByteList) : Type 0 where
  above : 0 < r
  within : r < row_count pool table
  alive : (dope_row pool table r).stride ≢ 0
  stride : (dope_row pool table r).stride ≡ l.stride
  bytes : take (row_bytes (dope_row pool table r)) (drop (dope_row pool table r).place pool) ≡ l.bytes

list_of : (pool : List ℕ) (table r : ℕ) (l : ByteList) → r < row_count pool table → list_in pool table r ≡ Some l → HasList pool table r l
list_of pool table r l within e = elim (cases_eq r 0) [
  | inl first ↦ let f : ⊥ = cc (e, ap (list_in pool table) first, list_in-first pool table) in absurd f
  | inr above ↦ elim (cases_eq (dope_row pool table r).stride 0) [
    | inl none ↦ let f : ⊥ = cc (e, list_in-none pool table r none) in absurd f
    | inr some ↦
        let row = dope_row pool table r in
        let found = sym (list_in-some pool table r (omega (arith, above)) some) ∙ e in
        let same : record { stride = row.stride; bytes = take (row_bytes row) (drop row.place pool) } ≡ l = cc in
        record {
          above = omega (arith, above);
          within = within;
          alive = some;
          stride = ap (λ (k : ByteList). k.stride) same;
          bytes = ap (λ (k : ByteList). k.bytes) same;
        }
  ]
]

has_list : (pool : List ℕ) (table r : ℕ) (l : ByteList) → get_or (lists_in pool table) r None ≡ Some l → HasList pool table r l
has_list pool table r l e = elim (cases_lt r (row_count pool table)) [
  | inl less ↦ list_of pool table r l less (sym (lists_in-at pool table r None less) ∙ e)
  | inr more ↦
      let none : get_or (lists_in pool table) r None ≡ None = get_or_past (lists_in pool table) r None (omega (arith, more, length-lists_in pool table)) in
      let f : ⊥ = cc (e, none) in
      absurd f
]

-- two blocks that share no byte, as files tell it
pub apart_from : (a b : Block) → IsApart a b → AreApart a b
apart_from a b h = elim h [
  | inl e ↦ or_left _ _ (le-leb (a.place + a.bytes) b.place e)
  | inr e ↦ or_right _ _ (le-leb (b.place + b.bytes) a.place e)
]

-- a block begins where another does, and has no more bytes
record IsPart (part whole : Block) : Type 0 where
  place : part.place ≡ whole.place
  bytes : part.bytes ≤ whole.bytes

parts_apart : (a b c d : Block) → IsPart a c → IsPart b d → IsApart c d → AreApart a b
parts_apart a b c d first second apart = apart_from a b (elim apart [
  | inl l ↦ inl (omega (arith, l, first.place, first.bytes, second.place))
  | inr l ↦ inr (omega (arith, l, second.place, second.bytes, first.place))
])

-- a list with elements has bytes
pub some_bytes : (row : Row) → 0 < row.count → row.stride ≢ 0 → 0 < block_bytes row
some_bytes row some alive = omega (arith, le-mul_of_pos_right {m = row.stride} row.count (omega (arith, alive)), some, le-block row)

-- the fields of a row that are read in two ways
record IsAs (row : DopeRow) (same : Row) : Type 0 where
  place : row.place ≡ same.place
  stride : row.stride ≡ same.stride
  count : row.count ≡ same.count

-- the last block ends in the pool
pub end_below : (static_size : ℕ) (pool fronts : List ℕ) (q : BlockState) → IsHeap static_size q pool fronts → q.end ≤ length pool
end_below static_size pool fronts q h = omega (arith, end_inside pool q.table q.base q.end h.blocks.is_pool h.blocks.end_is, h.blocks.is_pool.size)

-- so many bytes of the pool, with all blocks
module _ (static_size : ℕ) (pool fronts : List ℕ) (q : BlockState) (h : IsHeap static_size q pool fronts) (n : ℕ) (past : q.end ≤ n) (inside : n ≤ length pool) where
  abbrev front : List ℕ
  front = take n pool

  -- ---- rows and lists of the front

  p : IsPool pool q.table q.base
  p = h.blocks.is_pool

  static_fits : static_size ≤ n
  static_fits = omega (arith, past, le-round4 static_size, h.base_is, base_below pool q.table q.base q.end p h.blocks.end_is)

  pub length_front : length front ≡ n
  length_front = omega (arith, length-take n pool, inside)

  table_fits : q.table + 10 * row_count pool q.table ≤ n
  table_fits = omega (arith, past, bytes_of_table (dope_row pool q.table 0) p.sound.stride, h.blocks.end_is.most 0 (first_full pool q.table q.base p.sound), p.sound.place)

  -- their rows are those of the pool
  pub front_row : (r : ℕ) → r < row_count pool q.table → dope_row front q.table r ≡ dope_row pool q.table r
  front_row r within = dope_row-kept pool front q.table r (λ k low high. get_or-take n pool k 0 (omega (arith, table_fits, within, high)))

  -- their lists too
  pub lists_in_front : lists_in front q.table ≡ lists_in pool q.table
  lists_in_front = same_lists_in pool front q.table q.table (ap (λ d. d.count) (front_row 0 p.sound.some)) (λ r within.
      let row = front_row r within in
      list_in-moved pool front q.table q.table r (ap (λ d. d.stride) row) (ap (λ d. d.count) row) (λ some.
      let f : IsFull pool q.table r = record { within = within; some = some } in
      let most = h.blocks.end_is.most r f in
      let place : (dope_row front q.table r).place ≡ (dope_row pool q.table r).place = ap (λ d. d.place) row in
      record {
        from = p.sound.within r f;
        to = omega (arith, place, most, past, length_front);
        bytes = λ k less. ap (λ m. get_or front (m + k) 0) place ∙ get_or-take n pool ((dope_row pool q.table r).place + k) 0 (omega (arith, most, past, less));
      }))

  static_front : take static_size front ≡ take static_size pool
  static_front =
      same_window pool front 0 0 static_size (omega (arith, static_fits, inside)) (omega (arith, static_fits, length_front))
      (λ k below. get_or-take n pool (0 + k) 0 (omega (arith, static_fits, below)))

  -- so callers see the same in them
  pub state_of_front : state_of static_size (record { bytes = front; table = q.table }) ≡ state_of static_size (record { bytes = pool; table = q.table })
  state_of_front = rw (static_front, lists_in_front) refl

  static_long : length (take static_size pool) ≡ static_size
  static_long = length_static static_size pool fronts q h

  static_there : take (length (take static_size pool)) front ≡ take static_size pool
  static_there = ap (λ m. take m front) static_long ∙ static_front

  -- they show the static bytes and the lists of the pool
  pub shows_front : Shows front q.table (state_of static_size (record { bytes = pool; table = q.table }))
  shows_front = record { static_bytes = static_there; by_row = lists_in_front }

  -- ---- rows as the memory of a file has them

  same_row : (r : ℕ) → r < row_count pool q.table → IsAs (row_of front q.table r) (dope_row pool q.table r)
  unfolding dope_row
  same_row r within =
      let same = front_row r within in
      record { place = ap (λ d. d.place) same; stride = ap (λ d. d.stride) same; count = ap (λ d. d.count) same }

  same_count : rows_of front q.table ≡ row_count pool q.table
  same_count = (same_row 0 p.sound.some).count

  row_is : (r : ℕ) (l : ByteList) → HasList pool q.table r l → IsRowOf front q.table r l
  row_is r l has =
      let row = dope_row pool q.table r in
      let same = same_row r has.within in
      let long : length l.bytes ≡ row_bytes row = sym (ap length has.bytes) ∙ length_bytes pool q.table q.base r p has.within in
      record {
        above = has.above;
        within = omega (arith, has.within, same_count);
        stride = same.stride ∙ has.stride;
        whole = ap₂ (λ (a b : ℕ). a * b) same.count (sym has.stride) ∙ sym long;
        there = λ some.
            let f : IsFull pool q.table r = record { within = has.within; some = some_bytes row (omega (arith, some, same.count)) has.alive } in
            let most : row.place + row_bytes row ≤ q.end = omega (arith, h.blocks.end_is.most r f, le-block row) in
            record {
              within = omega (arith, same.place, long, most, past, length_front);
              are = ap₂ (λ (m at : ℕ). take m (drop at front)) long same.place
                  ∙ same_window pool front row.place row.place (row_bytes row) (omega (arith, most, past, inside)) (omega (arith, most, past, length_front))
                  (λ k below. get_or-take n pool (row.place + k) 0 (omega (arith, most, past, below)))
                  ∙ has.bytes;
            };
      }

  -- ---- blocks as the memory of a file has them

  table_part : IsPart (table_block front q.table) (block_of pool q.table 0)
  table_part = record { place = sym p.sound.place; bytes = omega (arith, same_count, bytes_of_table (dope_row pool q.table 0) p.sound.stride) }

  row_part : (r : ℕ) → r < row_count pool q.table → IsPart (row_block front q.table r) (block_of pool q.table r)
  row_part r within =
      let same = same_row r within in
      let long : (row_block front q.table r).bytes ≡ row_bytes (dope_row pool q.table r) = ap₂ (λ (a b : ℕ). a * b) same.count same.stride in
      record { place = same.place; bytes = omega (arith, long, le-block (dope_row pool q.table r)) }

  filled_full : (r : ℕ) → IsFilled front q.table r → IsFull pool q.table r
  filled_full r f =
      let within : r < row_count pool q.table = omega (arith, f.within, same_count) in
      let some : 0 < (dope_row pool q.table r).count = omega (arith, f.some, (same_row r within).count) in
      record { within = within; some = some_bytes (dope_row pool q.table r) some (λ none. omega (arith, some, p.bare r f.above within none)) }

  two_apart : (r s : ℕ) → r ≢ s → IsFilled front q.table r → IsFilled front q.table s → AreApart (row_block front q.table r) (row_block front q.table s)
  two_apart r s other first second =
      let f = filled_full r first in
      let g = filled_full s second in
      parts_apart (row_block front q.table r) (row_block front q.table s) (block_of pool q.table r) (block_of pool q.table s) (row_part r f.within) (row_part s g.within) (p.sound.apart r s f g other)

  table_apart : (r : ℕ) → IsFilled front q.table r → AreApart (table_block front q.table) (row_block front q.table r)
  table_apart r filled =
      let f = filled_full r filled in
      let apart = p.sound.apart 0 r (first_full pool q.table q.base p.sound) f (λ e. omega (arith, e, filled.above)) in
      parts_apart (table_block front q.table) (row_block front q.table r) (block_of pool q.table 0) (block_of pool q.table r) table_part (row_part r f.within) apart

  -- they hold the heap, by rows as the memory of a file has them
  pub holds_front : HoldHeap front q.table (state_of static_size (record { bytes = pool; table = q.table }))
  holds_front = record {
    static = record { within = omega (arith, static_long, length_front, static_fits); are = static_there };
    rows = same_count ∙ sym (length-lists_in pool q.table);
    fits = omega (arith, same_count, table_fits, length_front);
    lists = λ r l e. row_is r l (has_list pool q.table r l e);
    from_table = table_apart;
    apart = two_apart;
  }

-- the whole pool holds it too
pub pool_holds : (static_size : ℕ) (pool fronts : List ℕ) (q : BlockState) → IsHeap static_size q pool fronts → HoldHeap pool q.table (state_of static_size (record { bytes = pool; table = q.table }))
pool_holds static_size pool fronts q h =
    let end : q.end ≤ length pool = end_below static_size pool fronts q h in
    subst (λ bytes. HoldHeap bytes q.table (state_of static_size (record { bytes = pool; table = q.table }))) (take_all (length pool) pool (omega arith))
    (holds_front static_size pool fronts q h (length pool) end (omega arith))
