-- The rows of a table as the memory of a file has them, and the chain of those without a list.
use Rattle.std.proofs.Common.{◌≡◌, ℕ, zero, suc, ◌<◌, ◌≤◌, true, ◌||◌, List, [], length, take, nat_eq, is_none, None, inl, inr, refl, sym, ap, subst, ◌∙◌, arith, eq-eqb, ne_eqb, eqb-true}
use Rattle.std.specs.List.{list_any}
use Rattle.std.proofs.lemmas.Bool.{cases_eq, or_right}
use Rattle.std.proofs.lemmas.List.{take_all}
use Rattle.nxt_model.specs.Dump.{IsChain}
use Rattle.nxt_model.specs.Reading.{Memory, DopeRow}
use Rattle.nxt_model.specs.Reading.{dope_row as memory_row}
use Rattle.nxt_rows.specs.declared.DopeRow.{DopeRow as Row}
use Rattle.nxt_rows.specs.Rows.{dope_row, row_count, chain, link_of, free_rows}
use Rattle.nxt_rows.proofs.Laws.Chains.{All-at}
use Rattle.nxt_rows.proofs.Laws.FreeRows.{free_rows-zero, free_rows-length}
use Rattle.nxt_heap.specs.declared.blocks.BlockState.{BlockState}
use Rattle.nxt_heap.specs.Dumps.{row_of, IsDopeTable}
use Rattle.nxt_heap.specs.Inside.Pool.{list_in, state_of, IsPool, IsHeap}
use Rattle.nxt_heap.proofs.Chained.{pool_table}
use Rattle.nxt_heap.proofs.Dumped.{end_below, front_row}
use Rattle.nxt_heap.proofs.ListsKept.{list_in-none, list_in-some, lists_in-at}

-- the links lead where a chain tells that is not cut off
module _ (m : Memory) (link : ℕ → ℕ) (count : ℕ) (rows : (r : ℕ) → r < count → (memory_row m r).link ≡ link r) where
  leads_by : (k r n : ℕ) → r < count → link r ≡ n → ((q : ℕ) → list_any (nat_eq q) (chain link k n) ≡ true → q < count) → length (chain link k n) < k → IsChain m r (chain link k n)
  leads_by zero r n less is within short = absurd (omega (arith, short))
  leads_by (suc k) r zero less is within short = rows r less ∙ is
  leads_by (suc k) r (suc x) less is within short =
      let rest = chain link k (link (suc x)) in (
        rows r less ∙ is,
        omega arith,
        leads_by k (suc x) (link (suc x)) (within (suc x) (ap (λ b. b || list_any (nat_eq (suc x)) rest) (eq-eqb (suc x) (suc x) refl))) refl (λ q found. within q (or_right (nat_eq q (suc x)) (list_any (nat_eq q) rest) found)) (omega (arith, short)),
      )

-- the fields of a row that are read in two ways
record IsAs (row : DopeRow) (same : Row) : Type 0 where
  place : row.place ≡ same.place
  stride : row.stride ≡ same.stride
  count : row.count ≡ same.count
  back : row.back ≡ same.back
  link : row.link ≡ same.link

is_as : (bytes : List ℕ) (table r : ℕ) → IsAs (row_of bytes table r) (dope_row bytes table r)
unfolding dope_row
is_as bytes table r = record { place = refl; stride = refl; count = refl; back = refl; link = refl }

-- so many bytes of the pool, with all blocks
module _ (static_size : ℕ) (pool fronts : List ℕ) (q : BlockState) (h : IsHeap static_size q pool fronts) (n : ℕ) (past : q.end ≤ n) (inside : n ≤ length pool) where
  p : IsPool pool q.table q.base
  p = h.blocks.is_pool

  as_row : (r : ℕ) → r < row_count pool q.table → IsAs (row_of (take n pool) q.table r) (dope_row pool q.table r)
  as_row r within =
      let same = front_row static_size pool fronts q h n past inside r within in
      let is = is_as (take n pool) q.table r in
      record {
        place = is.place ∙ ap (λ d. d.place) same;
        stride = is.stride ∙ ap (λ d. d.stride) same;
        count = is.count ∙ ap (λ d. d.count) same;
        back = is.back ∙ ap (λ d. d.back) same;
        link = is.link ∙ ap (λ d. d.link) same;
      }

  -- the front's rows are the pool's
  pub same_row : (r : ℕ) → r < row_count pool q.table → row_of (take n pool) q.table r ≡ row_of pool q.table r
  same_row r within =
      let one = as_row r within in
      let two = is_as pool q.table r in
      rw (one.place ∙ sym two.place, one.stride ∙ sym two.stride, one.count ∙ sym two.count, one.back ∙ sym two.back, one.link ∙ sym two.link) refl

  rows : (row_of (take n pool) q.table 0).count ≡ row_count pool q.table
  rows = (as_row 0 p.sound.some).count

  -- a row without a list has the stride 0
  none_is : (r : ℕ) → 0 < r → r < row_count pool q.table → nat_eq (dope_row pool q.table r).stride 0 ≡ is_none (list_in pool q.table r)
  none_is r above within = elim (cases_eq (dope_row pool q.table r).stride 0) [
    | inl none ↦ eq-eqb (dope_row pool q.table r).stride 0 none ∙ sym (ap is_none (list_in-none pool q.table r none))
    | inr some ↦ ne_eqb (dope_row pool q.table r).stride 0 some ∙ sym (ap is_none (list_in-some pool q.table r above some))
  ]

  links_lead : IsChain (record { entries = []; bytes = take n pool; table = q.table }) 0 (free_rows pool q.table)
  unfolding free_rows
  links_lead =
      leads_by (record { entries = []; bytes = take n pool; table = q.table }) (link_of pool q.table) (row_count pool q.table) (λ r less. (as_row r less).link) (row_count pool q.table) 0 (link_of pool q.table 0) p.sound.some refl
      (λ x found. All-at (λ r. r < row_count pool q.table) (free_rows pool q.table) x p.chain.within found)
      (free_rows-length pool q.table (pool_table pool q.table q.base p) p.chain)

  pub dope_table : IsDopeTable (take n pool) q.table (state_of static_size (record { bytes = pool; table = q.table }))
  dope_table =
      let first = as_row 0 p.sound.some in
      let free = free_rows pool q.table in
      record {
        place = first.place ∙ p.sound.place;
        stride = first.stride ∙ p.sound.stride;
        empty = λ r above within none.
            let less : r < row_count pool q.table = omega (arith, within, rows) in
            (as_row r less).place ∙ p.empty r above less (sym (as_row r less).count ∙ none);
        bare = λ r above within none.
            let less : r < row_count pool q.table = omega (arith, within, rows) in
            (as_row r less).count ∙ p.bare r above less (eqb-true (dope_row pool q.table r).stride 0 (none_is r above less ∙ ap is_none (sym (lists_in-at pool q.table r None less) ∙ none)));
        backs = λ r within. let less : r < row_count pool q.table = omega (arith, within, rows) in (as_row r less).back ∙ p.backs r less;
        free = free;
        links = links_lead;
        within = λ k d less. omega (arith, p.chain.within k d less, rows);
        above = free_rows-zero pool q.table;
        once = p.chain.once;
        members = λ r above within.
            let less : r < row_count pool q.table = omega (arith, within, rows) in
            p.free r above less ∙ none_is r above less ∙ sym (ap is_none (lists_in-at pool q.table r None less));
      }

-- so do those of the whole pool
pub pool_dope_table : (static_size : ℕ) (pool fronts : List ℕ) (q : BlockState) → IsHeap static_size q pool fronts → IsDopeTable pool q.table (state_of static_size (record { bytes = pool; table = q.table }))
pool_dope_table static_size pool fronts q h =
    subst (λ bytes. IsDopeTable bytes q.table (state_of static_size (record { bytes = pool; table = q.table }))) (take_all (length pool) pool (omega arith))
    (dope_table static_size pool fronts q h (length pool) (end_below static_size pool fronts q h) (omega arith))
