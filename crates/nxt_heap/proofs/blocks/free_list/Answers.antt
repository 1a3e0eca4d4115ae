use Rattle.std.proofs.Common.{◌≡◌, ◌≢◌, ℕ, ◌<◌, List, None, set, sym, ap, ◌∙◌, arith}
use Rattle.std.proofs.lemmas.List.{set-set}
use Rattle.nxt_rows.specs.Rows.{dope_row, row_count, no_place}
use Rattle.nxt_compact.specs.Pools.{block_bytes, IsFull}
use Rattle.nxt_compact.proofs.Laws.Going.{first_full}
use Rattle.nxt_heap.specs.Inside.Pool.{lists_in, IsPool, IsListRow, Relists}
use Rattle.nxt_heap.proofs.Chained.{Swaps, stands, swapped_blocks, swapped_lists, pool_table, pool_alive, freed_free}
use Rattle.nxt_heap.proofs.ListsKept.{list_in-none}
use Rattle.nxt_heap.proofs.OneRow.{count_kept}
use Rattle.nxt_heap.proofs.Windows.{row_bytes-none}
use Rattle.nxt_heap.proofs.blocks.free_list.Goals as goal

-- the row once its bytes are gone
record Bare (pool : List ℕ) (table row : ℕ) : Type 0 where
  within : row < row_count pool table
  alive : (dope_row pool table row).stride ≢ 0
  count : (dope_row pool table row).count ≡ 0

bare : (old new : List ℕ) (table base row t : ℕ) → IsPool old table base → IsListRow old table row 0 → Relists old new table row no_place 0 0 → t ≡ table → Bare new t row
bare old new table base row t p l r same =
    let own = ap (λ k. dope_row new k row) same ∙ r.own in
    record {
      within = omega (arith, l.within, count_kept old new table base row no_place 0 0 p l.above l.within l.alive r, ap (row_count new) same);
      alive = λ e. l.alive (sym (ap (λ d. d.stride) own) ∙ e);
      count = ap (λ d. d.count) own;
    }

pub free_row-requires-clause-table : goal.free_row-requires-clause-table
free_row-requires-clause-table c = pool_table c.drop_bytes.new.pool c.drop_bytes.new.at.table c.drop_bytes.new.at.base c.drop_bytes.ensures.length.blocks.is_pool

pub free_row-requires-clause-alive : goal.free_row-requires-clause-alive
free_row-requires-clause-alive c =
    let d = c.drop_bytes.ensures in
    let f = bare c.args.pool.now c.drop_bytes.new.pool c.args.at.now.table c.args.at.now.base c.args.row c.drop_bytes.new.at.table c.requires.blocks.is_pool c.requires.list d.row d.table in
    pool_alive c.drop_bytes.new.pool c.drop_bytes.new.at.table c.drop_bytes.new.at.base c.args.row d.length.blocks.is_pool c.requires.list.above f.within f.alive

swaps : (c : goal.After-slice_known-5-1) → Swaps c.drop_bytes.new.pool c.free_row.new.pool c.drop_bytes.new.at.table c.args.row
swaps c =
    let d = c.drop_bytes.ensures in
    let f = bare c.args.pool.now c.drop_bytes.new.pool c.args.at.now.table c.args.at.now.base c.args.row c.drop_bytes.new.at.table c.requires.blocks.is_pool c.requires.list d.row d.table in
    record {
      size = c.free_row.auto.pool;
      above = c.requires.list.above;
      within = f.within;
      no_bytes = row_bytes-none (dope_row c.drop_bytes.new.pool c.drop_bytes.new.at.table c.args.row) f.count;
      count = ap (λ r. r.count) c.free_row.ensures.row;
      place = ap (λ r. r.place) c.free_row.ensures.row;
      back = ap (λ r. r.back) c.free_row.ensures.row;
      others = c.free_row.ensures.others;
      outside = c.free_row.ensures.outside;
      chain = c.free_row.ensures.chain;
      free = λ q above below.
          freed_free c.drop_bytes.new.pool c.free_row.new.pool c.drop_bytes.new.at.table c.drop_bytes.new.at.base c.args.row q d.length.blocks.is_pool
          c.free_row.ensures.front (ap (λ r. r.stride) c.free_row.ensures.row)
          (λ other. ap (λ r. r.stride) (c.free_row.ensures.others.others q (λ e. omega (arith, e, above)) other)) above below;
    }

pub returns : goal.returns
returns c =
    let d = c.drop_bytes.ensures in
    let b = d.length.blocks in
    let s = swaps c in
    let first = first_full c.drop_bytes.new.pool c.drop_bytes.new.at.table c.drop_bytes.new.at.base b.is_pool.sound in
    record {
      blocks = swapped_blocks c.drop_bytes.new.pool c.free_row.new.pool c.drop_bytes.new.fronts c.drop_bytes.new.at c.args.row b s;
      base = d.length.base;
      lists = swapped_lists c.drop_bytes.new.pool c.free_row.new.pool c.drop_bytes.new.at.table c.drop_bytes.new.at.base c.args.row b.is_pool s None
          (list_in-none c.free_row.new.pool c.drop_bytes.new.at.table c.args.row (ap (λ r. r.stride) c.free_row.ensures.row))
          ∙ ap (λ xs. set xs c.args.row None) d.length.lists
          ∙ set-set (lists_in c.args.pool.now c.args.at.now.table) c.args.row _ None;
      below = λ k low. s.outside.below k 0 (omega (arith, low, d.length.base, b.is_pool.sound.above 0 first, b.is_pool.sound.place)) ∙ d.length.below k low;
      stay = λ q full other.
          let place = ap (λ r. r.place) (d.row.others q full.within other) in
          let there : IsFull c.drop_bytes.new.pool c.args.at.now.table q = record {
            within = omega (arith, full.within, count_kept c.args.pool.now c.drop_bytes.new.pool c.args.at.now.table c.args.at.now.base c.args.row no_place 0 0 c.requires.blocks.is_pool c.requires.list.above c.requires.list.within c.requires.list.alive d.row);
            some = omega (arith, full.some, ap block_bytes (d.row.others q full.within other));
          } in
          stands c.drop_bytes.new.pool c.free_row.new.pool c.drop_bytes.new.at.table c.drop_bytes.new.at.base c.args.row b.is_pool s q (rw d.table there)
          ∙ ap (λ t. (dope_row c.drop_bytes.new.pool t q).place) d.table ∙ place;
    }
