-- One more element.
use Rattle.std.proofs.Common.{arith}
use Rattle.nxt_model.specs.Values.{elements}
use Rattle.nxt_space.specs.Variables.{value_of}
use Rattle.nxt_lists.proofs.Between.{none_between, one_more}
use Rattle.nxt_lists.proofs.gathering.push_elements.Goals as goal

pub loop-k-init : goal.loop-k-init
loop-k-init c = none_between (elements (value_of c.args.space.now.vars c.args.list)) c.args.from _

pub loop-k-preserved : goal.loop-k-preserved
loop-k-preserved c =
    one_more
    (elements (value_of c.args.space.now.vars c.args.list))
    c.args.from
    c.loop-k.k
    _
    c.loop-k.flat
    c.push_element.new.flat
    (omega arith)
    (omega arith)
    c.loop-k.invariant
    c.in_ok-push_element.ensures
