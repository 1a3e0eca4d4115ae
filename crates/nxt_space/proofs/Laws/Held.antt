-- The pool of a heap that holds the variables reads as these.
use Rattle.std.proofs.Common.{◌≡◌, ℕ, ◌<◌, ◌≤◌, List, [], ◌∷◌, map, Option, None, Some, is_some, true, refl, sym, ap, subst, arith}
use Rattle.nxt_types.specs.Tables.{Table}
use Rattle.nxt_model.specs.Values.{group_of}
use Rattle.nxt_model.specs.Reading.{Memory, MembersRead, ReadsAs}
use Rattle.nxt_model.proofs.Laws.Values.{items-values}
use Rattle.nxt_facts.proofs.Each.{each_both}
use Rattle.nxt_heap.specs.Dumps.{HoldHeap, IsRowOf, row_of}
use Rattle.nxt_heap.specs.Lists.{ByteList, Lists, IsAlive, list_at, stride_at, stride_of}
use Rattle.nxt_rows.specs.Rows.{dope_row, row_count}
use Rattle.nxt_space.specs.Settling.{IsListRow, HasListRows}
use Rattle.nxt_space.proofs.Pool.Strides.{all_strided}
use Rattle.nxt_values.specs.Held.{values_among}
use Rattle.nxt_space.specs.Inside.Kept.{Stand, rows_of, values_of, variables_in}
use Rattle.nxt_space.specs.Variables.{ReadsAsPool}
use Rattle.nxt_facts.proofs.Pairs.{each_pair}
use Rattle.nxt_values.proofs.Laws.HeldRows.{all_alive}
use Rattle.nxt_space.proofs.Pool.Apart.{own_lists, apart_lists}
use Rattle.nxt_space.proofs.Laws.Reads.{lists_in, members_read}
use Rattle.nxt_values.proofs.Laws.Without.{Differ}

pub their_rows : (h : Lists) (rows : List ℕ) → map (λ l. l.row) (lists_in h rows) ≡ rows
their_rows h [] = refl
their_rows h (r ∷ rs) = ap (λ xs. r ∷ xs) (their_rows h rs)

pub lists_read : (toc : Table) (h : Lists) (table : ℕ) (bytes : List ℕ) → Stand toc h → HoldHeap bytes table h → ReadsAs (record { entries = toc.entries; bytes = bytes; table = table }) toc.shapes (values_of toc h) (lists_in h (rows_of toc h))
lists_read toc h table bytes e pool =
    let m : Memory = record { entries = toc.entries; bytes = bytes; table = table } in
    let rows = rows_of toc h in
    let vs = values_among toc.entries h toc.shapes 0 h.static_bytes 0 in
    let alive = all_alive toc.entries h toc.shapes 0 h.static_bytes 0 e.held.holds in
    let own = each_pair Differ rows e.held.own in
    record {
      spelled = e.held.spelled;
      values = ap group_of (sym (items-values vs));
      variables = subst (λ ws. MembersRead m 0 toc.shapes 0 ws (lists_in h rows)) (sym (items-values vs)) (members_read m h pool e.first toc.shapes 0 h.static_bytes 0 0 pool.static e.held.holds);
      own_rows = own_lists h rows own;
      apart = apart_lists m h pool rows alive own;
    }

pub pool_reads : (toc : Table) (h first : Lists) (table : ℕ) (bytes : List ℕ) → Stand toc h → HoldHeap bytes table h → ReadsAsPool (variables_in toc h first) (rows_of toc h) table bytes
pool_reads toc h first table bytes e pool =
    let rows = rows_of toc h in
    (lists_in h rows, lists_read toc h table bytes e pool, their_rows h rows)

-- ---- the rows of their lists

stride_in : (pool : List ℕ) (table r : ℕ) → (dope_row pool table r).stride ≡ (row_of pool table r).stride
unfolding dope_row
stride_in pool table r = refl

count_in : (pool : List ℕ) (table : ℕ) → row_count pool table ≡ (row_of pool table 0).count
unfolding dope_row
count_in pool table = refl

row_there : (bytes : List ℕ) (table : ℕ) (h : Lists) (r : ℕ) (o : Option ByteList) → list_at h r ≡ o → is_some o ≡ true → HoldHeap bytes table h → 1 ≤ stride_of o → IsListRow (record { bytes = bytes; table = table }) r
row_there bytes table h r None is some pool apart = let f : ⊥ = cc in absurd f
row_there bytes table h r (Some l) is some pool apart =
    let row : IsRowOf bytes table r l = pool.lists r l is in
    record {
      within = omega (arith, row.within, count_in bytes table);
      apart = omega (arith, apart, row.stride, stride_in bytes table r);
    }

pub list_rows : (toc : Table) (h : Lists) (table : ℕ) (bytes : List ℕ) → 0 < row_count bytes table → Stand toc h → HoldHeap bytes table h → HasListRows (record { bytes = bytes; table = table }) (rows_of toc h)
list_rows toc h table bytes some e pool = record {
  some = some;
  each =
      each_both (λ r. 1 ≤ stride_at h r) (IsAlive h) (IsListRow (record { bytes = bytes; table = table }))
      (λ r apart alive. row_there bytes table h r (list_at h r) refl alive pool apart)
      (rows_of toc h)
      (all_strided toc.entries h toc.shapes 0 h.static_bytes 0 e.held.holds)
      (all_alive toc.entries h toc.shapes 0 h.static_bytes 0 e.held.holds);
}
