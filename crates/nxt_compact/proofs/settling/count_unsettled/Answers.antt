use Rattle.std.proofs.Common.{◌≡◌, suc, ◌+◌, ◌≤◌, length, ap, subst, sym, ◌∙◌, arith}
use Rattle.nxt_rows.specs.Rows.{dope_row}
use Rattle.nxt_blocks.specs.Blocks.{packed}
use Rattle.nxt_blocks.proofs.Laws.Lowest.{unsettled_none}
use Rattle.nxt_blocks.proofs.Laws.Packing.{below_none}
use Rattle.nxt_blocks.proofs.Laws.Settling.{block_packed-le}
use Rattle.nxt_blocks.proofs.Laws.Sums.{each_from}
use Rattle.nxt_blocks.proofs.Laws.Walking.{IsLowest, walk-packed, walk-next, walk-unsettled, walk-settled, walk-all}
use Rattle.nxt_compact.specs.Pools.{block_bytes, block_of, blocks_in, IsFull}
use Rattle.nxt_compact.proofs.Laws.InPool.{in_full, standing}
use Rattle.nxt_compact.proofs.Laws.Opening.{few}
use Rattle.nxt_compact.proofs.Ordered.{Ahead, ahead_first, lowest_is, full_key, ahead_next, all_passed, table_of}
use Rattle.nxt_compact.proofs.settling.count_unsettled.Goals as goal
use Rattle.nxt_compact.proofs.settling.count_unsettled.Goals.{then-at-found, else-at-found}

pub loop-key-init : goal.loop-key-init
loop-key-init c =
    let xs = blocks_in c.args.pool.now c.args.table in
    (0, omega (arith, below_none xs 0 (each_from (λ b. 0 ≤ b.place) xs (λ b i. omega arith))), sym (unsettled_none c.args.base xs), ahead_first c.args.order.now)

pub returns : goal.returns
returns c =
    let upto = c.loop-key.invariant.0 in
    let ahead : Ahead c.args.order.now (length c.args.order.now) upto = subst (λ i. Ahead c.args.order.now i upto) (omega (arith, c.loop-key-test.false, c.loop-key.auto.key-index-end)) c.loop-key.invariant.3 in
    c.loop-key.invariant.2
    ∙ walk-all (blocks_in c.args.pool.now c.args.table) c.args.base upto (λ b i.
    let found = in_full c.args.pool.now c.args.table b i in
    omega (arith, all_passed c.args.pool.now c.args.order.now c.args.table c.args.base upto c.requires.sound c.requires.order ahead found.0 found.1, ap (λ d. d.place) found.2))

pub get-found-requires : goal.get-found-requires
get-found-requires c =
    let full = full_key c.args.pool.now c.args.order.now c.args.table c.args.base c.loop-key.key-index c.row_in.result c.requires.sound c.requires.order c.loop-key-test.true c.row_in.ensures in
    omega (arith, (table_of c.args.pool.now c.args.table c.args.base c.requires.sound).within, full.within)

pub overflow_add-unsettled : goal.overflow_add-unsettled
overflow_add-unsettled c = omega (arith, c.loop-key.invariant.2, few c.args.pool.now c.args.table c.args.base c.loop-key.invariant.0 c.requires.sound)

-- the block of the next key, and where it ends without gaps
record Next (c : goal.After-block_bytes) : Type 0 where
  full : IsFull c.args.pool.now c.args.table c.row_in.result
  lowest : IsLowest (blocks_in c.args.pool.now c.args.table) c.loop-key.invariant.0 (block_of c.args.pool.now c.args.table c.row_in.result)
  size : c.block_bytes.result ≡ block_bytes (dope_row c.args.pool.now c.args.table c.row_in.result)
  place : c.get-found.result.place ≡ (dope_row c.args.pool.now c.args.table c.row_in.result).place
  end : c.loop-key.at + c.block_bytes.result ≡ packed c.args.base (blocks_in c.args.pool.now c.args.table) (suc (dope_row c.args.pool.now c.args.table c.row_in.result).place)
  low : c.loop-key.at ≤ (dope_row c.args.pool.now c.args.table c.row_in.result).place
  inside : c.loop-key.at + c.block_bytes.result ≤ 65536

next : (c : goal.After-block_bytes) → Next c
next c =
    let pool = c.args.pool.now in
    let table = c.args.table in
    let row = c.row_in.result in
    let xs = blocks_in pool table in
    let s = c.requires.sound in
    let upto = c.loop-key.invariant.0 in
    let full : IsFull pool table row = full_key pool c.args.order.now table c.args.base c.loop-key.key-index row s c.requires.order c.loop-key-test.true c.row_in.ensures in
    let lowest : IsLowest xs upto (block_of pool table row) = lowest_is pool c.args.order.now table c.args.base upto c.loop-key.key-index row s c.requires.order c.loop-key.invariant.3 c.loop-key-test.true c.row_in.ensures in
    let size : c.block_bytes.result ≡ block_bytes (dope_row pool table row) = c.block_bytes.ensures ∙ ap block_bytes c.get-found.ensures in
    let low : c.loop-key.at ≤ (dope_row pool table row).place = omega (arith, c.loop-key.invariant.1, walk-packed xs c.args.base upto (block_of pool table row) lowest, block_packed-le xs c.args.base (length pool) (standing pool table c.args.base s) (block_of pool table row) lowest.there) in
    record {
      full = full;
      lowest = lowest;
      size = size;
      place = ap (λ d. d.place) c.get-found.ensures;
      end = omega (arith, size, c.loop-key.invariant.1, walk-next xs c.args.base (length pool) upto (block_of pool table row) (standing pool table c.args.base s) lowest);
      low = low;
      inside = omega (arith, low, size, s.within row full, s.size);
    }

pub overflow_cast-at : goal.overflow_cast-at
overflow_cast-at c = omega (arith, (next c).inside)

pub overflow_add-at : goal.overflow_add-at
overflow_add-at c = omega (arith, (next c).inside)

pub loop-key-preserved : goal.loop-key-preserved
loop-key-preserved c =
    let n = next c in
    let xs = blocks_in c.args.pool.now c.args.table in
    let upto = c.loop-key.invariant.0 in
    let block = block_of c.args.pool.now c.args.table c.row_in.result in
    let ahead = ahead_next c.args.pool.now c.args.order.now c.args.table c.args.base c.loop-key.key-index upto c.row_in.result c.requires.sound c.requires.order c.loop-key.invariant.3 c.loop-key-test.true c.row_in.ensures in (
      suc block.place,
      n.end,
      elim c.if-at-found.branch [
        | then-at-found w ↦ omega (arith, w.unsettled-is, c.loop-key.invariant.2, walk-unsettled xs c.args.base (length c.args.pool.now) upto block (standing c.args.pool.now c.args.table c.args.base c.requires.sound) n.lowest (omega (arith, w.if-at-found.true, n.place, c.loop-key.invariant.1)))
        | else-at-found w ↦ omega (arith, w.unsettled-is, c.loop-key.invariant.2, walk-settled xs c.args.base upto block n.lowest (omega (arith, w.if-at-found.false, n.place, c.loop-key.invariant.1)))
      ],
      ahead,
    )
