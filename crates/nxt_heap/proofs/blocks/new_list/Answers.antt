use Rattle.std.proofs.Common.{◌≡◌, ◌≢◌, refl, set, sym, ap, ◌∙◌, arith}
use Rattle.std.proofs.lemmas.Bool.{false≢true}
use Rattle.std.proofs.lemmas.Result.{on_ok_weaker}
use Rattle.nxt_rows.specs.Rows.{dope_row, free_rows}
use Rattle.nxt_compact.proofs.Laws.Going.{first_full}
use Rattle.nxt_heap.specs.Lists.{empty_list}
use Rattle.nxt_heap.specs.Inside.Pool.{row_bytes, list_in, lists_in}
use Rattle.nxt_heap.proofs.Chained.{Swaps, full_still, stands, swapped_blocks, swapped_lists, pool_table, taken_free}
use Rattle.nxt_heap.proofs.FreeRows.{Front, any_free-full, any_free-front, with_free-free}
use Rattle.nxt_heap.proofs.ListsKept.{list_in-some}
use Rattle.nxt_heap.proofs.Windows.{row_bytes-free, row_bytes-none}
use Rattle.nxt_heap.proofs.blocks.new_list.Goals as goal

pub take_row-requires-clause-table : goal.take_row-requires-clause-table
take_row-requires-clause-table c = pool_table c.args.pool.now c.args.at.now.table c.args.at.now.base c.requires.blocks.is_pool

front : (c : goal.In-Some) → Front c.args.pool.now c.args.at.now.table c.in-Some.row
front c = any_free-front c.args.pool.now c.args.at.now.table c.args.at.now.base c.in-Some.row (free_rows c.take_row.new.pool c.args.at.now.table) c.requires.blocks.is_pool c.in-Some.ensures.front

some_stride : (c : goal.In-Some) → (dope_row c.take_row.new.pool c.args.at.now.table c.in-Some.row).stride ≢ 0
some_stride c = λ e. omega (arith, e, ap (λ r. r.stride) c.in-Some.ensures.row, c.requires.stride)

swaps : (c : goal.In-Some) → Swaps c.args.pool.now c.take_row.new.pool c.args.at.now.table c.in-Some.row
swaps c =
    let f = front c in
    record {
      size = c.take_row.auto.pool;
      above = f.free.above;
      within = f.within;
      no_bytes = row_bytes-free (dope_row c.args.pool.now c.args.at.now.table c.in-Some.row) f.stride;
      count = ap (λ r. r.count) c.in-Some.ensures.row;
      place = ap (λ r. r.place) c.in-Some.ensures.row;
      back = ap (λ r. r.back) c.in-Some.ensures.row;
      others = c.in-Some.ensures.others;
      outside = c.in-Some.ensures.outside;
      chain = c.in-Some.ensures.chain;
      free = λ q above below.
          taken_free c.args.pool.now c.take_row.new.pool c.args.at.now.table c.args.at.now.base c.in-Some.row q c.requires.blocks.is_pool c.in-Some.ensures.front (some_stride c)
          (λ other. ap (λ r. r.stride) (c.in-Some.ensures.others.others q (λ e. omega (arith, e, above)) other)) above below;
    }

pub returns-in-Some-clause-ok : goal.returns-in-Some-clause-ok
returns-in-Some-clause-ok c =
    let b = c.requires.blocks in
    let f = front c in
    let s = swaps c in
    let row = dope_row c.take_row.new.pool c.args.at.now.table c.in-Some.row in
    let same = with_free-free (lists_in c.args.pool.now c.args.at.now.table) f.any in
    let none : row_bytes row ≡ 0 = row_bytes-none row (ap (λ r. r.count) c.in-Some.ensures.row) in
    let stride : row.stride ≡ c.args.stride = ap (λ r. r.stride) c.in-Some.ensures.row in
    let here : list_in c.take_row.new.pool c.args.at.now.table c.in-Some.row ≡ empty_list c.args.stride =
    list_in-some c.take_row.new.pool c.args.at.now.table c.in-Some.row f.free.above (some_stride c) ∙ rw (none, stride) refl in
    let first = first_full c.args.pool.now c.args.at.now.table c.args.at.now.base b.is_pool.sound in
    record {
      blocks = swapped_blocks c.args.pool.now c.take_row.new.pool c.args.fronts.now c.args.at.now c.in-Some.row b s;
      base = refl;
      free = rw same f.free;
      lists = swapped_lists c.args.pool.now c.take_row.new.pool c.args.at.now.table c.args.at.now.base c.in-Some.row b.is_pool s (empty_list c.args.stride) here
          ∙ ap (λ xs. set xs c.in-Some.row (empty_list c.args.stride)) (sym same);
      below = λ k low. s.outside.below k 0 (omega (arith, low, b.is_pool.sound.above 0 first, b.is_pool.sound.place));
    }

pub returns-in-Some-clause-need : goal.returns-in-Some-clause-need
returns-in-Some-clause-need c =
    let p = c.requires.blocks.is_pool in
    let old = c.args.pool.now in
    let new = c.take_row.new.pool in
    let table = c.args.at.now.table in
    let base = c.args.at.now.base in
    record {
      stays = λ e q full. (full_still old new table base c.in-Some.row p (swaps c) q full, stands old new table base c.in-Some.row p (swaps c) q full);
      grows = λ none. absurd (false≢true (sym none ∙ (front c).any));
    }

pub returns-in-None-clause-need : goal.returns-in-None-clause-need
returns-in-None-clause-need c =
    let pool = c.args.pool.now in
    let table = c.args.at.now.table in
    let full = any_free-full pool table c.args.at.now.base c.requires.blocks.is_pool (c.in-None.ensures.none.0 refl) in
    let same = c.in-None.ensures.unchanged in
    on_ok_weaker c.add_list.result (λ need. record {
      stays = λ some. absurd (false≢true (sym full ∙ some));
      grows = λ none. rw same at need;
    }) c.add_list.ensures.need
