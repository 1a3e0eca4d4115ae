-- Each value's size is a part of the whole.
use Rattle.std.proofs.Common.{arith}
use Rattle.nxt_types.specs.Shapes.{tree}
use Rattle.nxt_lists.proofs.Counted.{many_begin, many_next, next_countable, next_adds, next_added, many_done}
use Rattle.nxt_lists.proofs.building.size_of_many.Goals as goal

pub loop-init : goal.loop-init
loop-init c = many_begin (tree c.args.shape.now) c.args.count c.args.from.now

pub spelled_size-requires : goal.spelled_size-requires
spelled_size-requires c = next_countable (many_next (omega arith) c.loop.invariant) c.requires

pub plus-sum-requires-clause-lists : goal.plus-sum-requires-clause-lists
plus-sum-requires-clause-lists c = (next_adds (many_next (omega arith) c.loop.invariant) c.requires c.spelled_size.ensures.size).lists

pub plus-sum-requires-clause-bytes : goal.plus-sum-requires-clause-bytes
plus-sum-requires-clause-bytes c = (next_adds (many_next (omega arith) c.loop.invariant) c.requires c.spelled_size.ensures.size).bytes

pub loop-preserved : goal.loop-preserved
loop-preserved c = next_added (many_next (omega arith) c.loop.invariant) c.spelled_size.ensures.size c.spelled_size.ensures.rest c.plus-sum.ensures

pub returns : goal.returns
returns c = many_done (omega arith) c.loop.invariant
