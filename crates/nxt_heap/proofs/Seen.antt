-- What callers see of a pool: its lists, and what they take.
use Rattle.std.proofs.Common.{◌≡◌, ◌≢◌, ℕ, zero, suc, ◌+◌, ◌-◌, ◌*◌, ◌%◌, ◌<◌, ◌≤◌, List, length, take, drop, get_or, map, sum_by, Option, Some, None, IsSome, ap, sym, subst, ◌∙◌, arith, inl, inr, length-take}
use Rattle.std.specs.List.{range_with_len}
use Rattle.std.proofs.lemmas.Bool.{cases_eq, cases_lt, false≢true}
use Rattle.std.proofs.lemmas.List.{get_or_past}
use Rattle.std.proofs.lemmas.List.Sums.{sum_by-cons}
use Rattle.nxt_types.specs.Pool.{round4}
use Rattle.nxt_types.proofs.Laws.Pool.{le-round4}
use Rattle.nxt_blocks.specs.Blocks.{total}
use Rattle.nxt_rows.specs.Rows.{dope_row, row_count}
use Rattle.nxt_compact.specs.Pools.{block_bytes, blocks_in, IsFull}
use Rattle.nxt_compact.proofs.Laws.Opening.{bytes_before, before_next, before_all}
use Rattle.nxt_heap.specs.declared.blocks.BlockState.{BlockState}
use Rattle.nxt_heap.specs.Lists.{ByteList, block_of, footprint}
use Rattle.nxt_heap.specs.Inside.Pool.{row_bytes, list_in, lists_in, state_of, IsPool, IsHeap, IsListRow}
use Rattle.nxt_heap.proofs.ListsKept.{list_in-first, list_in-none, list_in-some, lists_in-first, length-lists_in, lists_in-at}
use Rattle.nxt_heap.proofs.Settled.{base_below, end_inside}
use Rattle.nxt_heap.proofs.Begins.{table_inside}
use Rattle.nxt_heap.proofs.Windows.{same_window, length-window, le-block, block_is, block-none, row_bytes-free}

-- ---- a living row

pub record Lives (pool : List ℕ) (table row : ℕ) : Type 0 where
  pub above : 0 < row
  pub within : row < row_count pool table
  pub stride : (dope_row pool table row).stride ≢ 0
  pub is : get_or (lists_in pool table) row None ≡ Some (record {
    stride = (dope_row pool table row).stride;
    bytes = take (row_bytes (dope_row pool table row)) (drop (dope_row pool table row).place pool);
  })

pub no_list : (o : Option ByteList) → o ≡ None → IsSome o → ⊥
no_list o none some = let P : Option ByteList → Type 0 = λ p. IsSome p in false≢true (subst P none some)

pub lives : (pool : List ℕ) (table row : ℕ) → IsSome (get_or (lists_in pool table) row None) → Lives pool table row
lives pool table row some =
    let at = get_or (lists_in pool table) row None in
    elim (cases_lt row (row_count pool table)) [
      | inr past ↦ absurd (no_list at (get_or_past (lists_in pool table) row None (omega (arith, length-lists_in pool table, past))) some)
      | inl within ↦
          let here = lists_in-at pool table row None within in
          elim (cases_eq row 0) [
            | inl first ↦ absurd (no_list at (here ∙ ap (list_in pool table) first ∙ list_in-first pool table) some)
            | inr above ↦
                elim (cases_eq (dope_row pool table row).stride 0) [
                  | inl none ↦ absurd (no_list at (here ∙ list_in-none pool table row none) some)
                  | inr stride ↦ record {
                    above = omega (arith, above);
                    within = within;
                    stride = stride;
                    is = here ∙ list_in-some pool table row (omega (arith, above)) stride;
                  }
                ]
          ]
    ]

pub list_row : (pool : List ℕ) (table row bytes : ℕ) → Lives pool table row → bytes % (dope_row pool table row).stride ≡ 0 → IsListRow pool table row bytes
list_row pool table row bytes l whole = record { above = l.above; within = l.within; alive = l.stride; whole = whole }

-- a list's bytes are those that its row tells
pub length_bytes : (pool : List ℕ) (table base row : ℕ) → IsPool pool table base → row < row_count pool table → length (take (row_bytes (dope_row pool table row)) (drop (dope_row pool table row).place pool)) ≡ row_bytes (dope_row pool table row)
length_bytes pool table base row p within =
    let x = dope_row pool table row in
    elim (cases_lt 0 (row_bytes x)) [
      | inl some ↦
          let full : IsFull pool table row = record { within = within; some = omega (arith, some, le-block x) } in
          length-window pool x.place (row_bytes x) (omega (arith, p.sound.within row full, le-block x))
      | inr none ↦ omega (arith, length-take (row_bytes x) (drop x.place pool), none)
    ]

-- a row lies in the pool
pub row_inside : (pool : List ℕ) (table base row : ℕ) → IsPool pool table base → row < row_count pool table → table + 10 * (row + 1) ≤ length pool
row_inside pool table base row p within = omega (arith, table_inside pool table base p, within)

-- ---- the static bytes

pub length_static : (static_size : ℕ) (pool fronts : List ℕ) (q : BlockState) → IsHeap static_size q pool fronts → length (take static_size pool) ≡ static_size
length_static static_size pool fronts q h =
    let p = h.blocks.is_pool in
    omega (arith, length-take static_size pool, p.size, le-round4 static_size, h.base_is, base_below pool q.table q.base q.end p h.blocks.end_is, end_inside pool q.table q.base q.end p h.blocks.end_is)

pub static_kept : (old new fronts : List ℕ) (static_size : ℕ) (q : BlockState) → IsHeap static_size q old fronts → length new ≡ length old → ((k : ℕ) → k < q.base → get_or new k 0 ≡ get_or old k 0) → take static_size new ≡ take static_size old
static_kept old new fronts static_size q h size same =
    let p = h.blocks.is_pool in
    let inside : 0 + static_size ≤ length old = omega (arith, p.size, le-round4 static_size, h.base_is, base_below old q.table q.base q.end p h.blocks.end_is, end_inside old q.table q.base q.end p h.blocks.end_is) in
    same_window old new 0 0 static_size inside (omega (arith, size, inside)) (λ k below. same (0 + k) (omega (arith, below, le-round4 static_size, h.base_is)))

-- ---- the footprint

block_of_list : (pool : List ℕ) (table base r : ℕ) → IsPool pool table base → 0 < r → r < row_count pool table → block_of (list_in pool table r) ≡ block_bytes (dope_row pool table r)
block_of_list pool table base r p above within = elim (cases_eq (dope_row pool table r).stride 0) [
  | inl none ↦ rw (list_in-none pool table r none) (sym (block-none (dope_row pool table r) (row_bytes-free (dope_row pool table r) none)))
  | inr some ↦ ap block_of (list_in-some pool table r above some) ∙ ap round4 (length_bytes pool table base r p within) ∙ sym (block_is (dope_row pool table r))
]

blocks_lists : (pool : List ℕ) (table base a k : ℕ) → IsPool pool table base → 0 < a → a + k ≤ row_count pool table → bytes_before pool table a + sum_by block_of (map (list_in pool table) (range_with_len a k)) ≡ bytes_before pool table (a + k)
blocks_lists pool table base a zero p above within = omega (arith, ap (bytes_before pool table) (none a))
  where
    none : (a : ℕ) → a + 0 ≡ a
    none a = omega arith
blocks_lists pool table base a (suc k) p above within = omega (
  arith,
  blocks_lists pool table base (a + 1) k p (omega arith) (omega (arith, within)),
  block_of_list pool table base a p above (omega (arith, within)),
  sum_by-cons block_of (list_in pool table a) (map (list_in pool table) (range_with_len (a + 1) k)),
  before_next pool table a,
  ap (bytes_before pool table) (more a k),
)
  where
    more : (a k : ℕ) → a + 1 + k ≡ a + suc k
    more a k = omega arith

pub blocks_all : (pool : List ℕ) (table base : ℕ) → IsPool pool table base → block_bytes (dope_row pool table 0) + sum_by block_of (lists_in pool table) ≡ total (blocks_in pool table)
blocks_all pool table base p =
    let n = row_count pool table in
    let later = map (list_in pool table) (range_with_len 1 (n - 1)) in
    omega (
      arith,
      blocks_lists pool table base 1 (n - 1) p (omega arith) (omega (arith, p.sound.some)),
      ap (sum_by block_of) (lists_in-first pool table p.sound.some),
      sum_by-cons block_of None later,
      before_next pool table 0,
      ap (bytes_before pool table) (whole p.sound.some),
      before_all pool table,
    )
  where
    whole : 0 < row_count pool table → 1 + (row_count pool table - 1) ≡ row_count pool table
    whole some = omega (arith, some)

pub footprint_state : (static_size : ℕ) (pool fronts : List ℕ) (q : BlockState) → IsHeap static_size q pool fronts → footprint (state_of static_size (record { bytes = pool; table = q.table })) ≡ q.footprint
footprint_state static_size pool fronts q h =
    let p = h.blocks.is_pool in
    let table : block_bytes (dope_row pool q.table 0) ≡ round4 (10 * row_count pool q.table) = block_is (dope_row pool q.table 0) ∙ ap round4 (ap (λ s. row_count pool q.table * s) p.sound.stride ∙ omega arith) in
    omega (
      arith,
      ap round4 (length_static static_size pool fronts q h),
      ap (λ n. round4 (10 * n)) (length-lists_in pool q.table),
      table,
      blocks_all pool q.table q.base p,
      h.blocks.footprint_is,
      h.base_is,
    )
