use Rattle.std.proofs.Common.{◌≡◌, ◌+◌, ◌*◌, inl, inr, slice_index, ap, ◌∙◌, arith}
use Rattle.nxt_rows.specs.Rows.{dope_row}
use Rattle.nxt_compact.specs.Pools.{block_bytes}
use Rattle.nxt_compact.proofs.Laws.Shifted.{dope_row-shifted, bytes_of_table}
use Rattle.nxt_compact.proofs.relocate.move_table.Goals as goal

pub get-found-requires : goal.get-found-requires
get-found-requires c = omega (arith, bytes_of_table (dope_row c.args.pool.now c.args.table 0) c.requires.stride, c.requires.some, c.requires.inside)

pub set-requires : goal.set-requires
set-requires c = omega (arith, bytes_of_table (dope_row c.args.pool.now c.args.table 0) c.requires.stride, c.requires.some, c.requires.room, c.copy_within.ensures.len)

pub returns-clause-others : goal.returns-clause-others
returns-clause-others c r above within =
    c.set.ensures.others r (λ e. omega (arith, e, above))
    ∙ dope_row-shifted c.args.pool.now c.copy_within.new.self c.args.table c.args.at r (λ i h.
    let bound = bytes_of_table (dope_row c.args.pool.now c.args.table 0) c.requires.stride in
    let size : c.block_bytes.result ≡ block_bytes (dope_row c.args.pool.now c.args.table 0) = c.block_bytes.ensures ∙ ap block_bytes c.get-found.ensures in
    c.copy_within.ensures.by_index.0 (c.args.at + 10 * r + i) 0 (omega arith) (omega (arith, bound, within, h, size))
    ∙ ap (slice_index c.args.pool.now) (omega arith))

pub returns-clause-outside : goal.returns-clause-outside
returns-clause-outside c k (inl low) = c.set.ensures.below k 0 (omega (arith, low)) ∙ c.copy_within.ensures.by_index.1 k 0 low
returns-clause-outside c k (inr high) =
    let bound = bytes_of_table (dope_row c.args.pool.now c.args.table 0) c.requires.stride in
    let size : c.block_bytes.result ≡ block_bytes (dope_row c.args.pool.now c.args.table 0) = c.block_bytes.ensures ∙ ap block_bytes c.get-found.ensures in
    c.set.ensures.above k 0 (omega (arith, high, bound, c.requires.some))
    ∙ c.copy_within.ensures.by_index.2 k 0 (omega (arith, high, size))
