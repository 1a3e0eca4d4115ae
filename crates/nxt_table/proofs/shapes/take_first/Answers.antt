-- One more shape was taken.
use Rattle.std.proofs.Common.{◌<◌, arith}
use Rattle.std.specs.Prelude.{map}
use Rattle.nxt_types.specs.Shapes.{tree}
use Rattle.nxt_facts.proofs.Taking.{taken_more, left_more}
use Rattle.nxt_table.proofs.shapes.take_first.Goals as goal

pub loop-done-preserved : goal.loop-done-preserved
loop-done-preserved c =
    let lt : c.loop-done._done < c.args.count = omega arith in
    record {
      taken =
          taken_more tree c.args.count c.loop-done._done c.in-Some.shape c.loop-done.shapes.items c.push.new.self.items c.loop-done.stack.items c.pop_front.new.self.items
          (map tree c.args.stack.now.items) lt c.in_ok-push-in-Some.ensures.items c.in-Some.ensures.items c.loop-done.invariant.taken;
      left =
          left_more tree c.args.count c.loop-done._done c.in-Some.shape c.loop-done.stack.items c.pop_front.new.self.items (map tree c.args.stack.now.items) lt
          c.in-Some.ensures.items c.loop-done.invariant.left;
    }
