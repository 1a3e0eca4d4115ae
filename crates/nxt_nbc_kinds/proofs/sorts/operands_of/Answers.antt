use Rattle.nxt_nbc_names.specs.SourceSeen.{source_seen}
use Rattle.nxt_nbc_kinds.proofs.SortsInTurn.{sorts_more, sorts_whole}
use Rattle.nxt_nbc_kinds.proofs.sorts.operands_of.Goals as goal

pub loop-k-preserved : goal.loop-k-preserved
loop-k-preserved c =
    let source = c.args.source.now in
    sorts_more (source_seen source) c.args.line c.args.op source.structs c.args.terms.now c.requires c.loop-k.operands c.push.new.self c.in_ok-operand.operand c.loop-k.k
    c.class.result c.is_destination.result c.index-terms-k.result c.loop-k-test.true
    c.loop-k.invariant c.class.ensures c.is_destination.ensures c.index-terms-k.is c.in_ok-operand.ensures c.in_ok-push.ensures.ok

pub returns : goal.returns
returns c =
    let source = c.args.source.now in
    sorts_whole (source_seen source) c.args.line c.args.op source.structs c.args.terms.now c.requires c.loop-k.operands c.loop-k.k c.loop-k-test.false c.loop-k.invariant
