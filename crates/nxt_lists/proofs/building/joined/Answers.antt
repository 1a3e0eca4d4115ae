-- One more source's elements.
use Rattle.std.proofs.Common.{arith}
use Rattle.nxt_lists.proofs.Sources.{AreSources, joined_more, joined_done}
use Rattle.nxt_lists.proofs.building.joined.Goals as goal

pub loop-source-preserved : goal.loop-source-preserved
loop-source-preserved c =
    let s = c.args.space.now.vars in
    let are : AreSources s c.args.dest c.args.sources.now = record { sound = c.requires.sound; of_list = c.requires.of_list; named = c.requires.sources; fit = c.requires.fit } in
    joined_more s c.args.dest c.args.sources.now c.loop-source.source-index 0 c.args.count c.in_ok-push_pieces.field-0 c.loop-source.flat c.push_pieces.new.flat are c.loop-source-test.true c.loop-source.invariant c.in_ok-push_pieces.ensures.count c.in_ok-push_pieces.ensures.flat

pub returns : goal.returns
returns c =
    joined_done c.args.space.now.vars c.args.dest c.args.sources.now c.loop-source.source-index c.args.count c.loop-source.flat (omega arith) c.requires.count c.loop-source.invariant
