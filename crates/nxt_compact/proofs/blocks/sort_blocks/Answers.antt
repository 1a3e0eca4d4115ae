use Rattle.std.proofs.lemmas.List.Sorted.{IsNonDecreasingBy-from_sort}
use Rattle.nxt_compact.proofs.Ordered.{sorted_order}
use Rattle.nxt_compact.proofs.blocks.sort_blocks.Goals as goal

pub returns : goal.returns
returns c =
    sorted_order c.args.pool.now c.args.table c.list_blocks-blocks.new.keys c.list_blocks-blocks.result c.sort_unstable.new.self
    c.list_blocks-blocks.ensures.most c.list_blocks-blocks.ensures.listed c.sort_unstable.ensures.permutation
    (IsNonDecreasingBy-from_sort (λ n. n) c.sort_unstable.new.self c.sort_unstable.ensures.sorted)
