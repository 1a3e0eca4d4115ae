use Rattle.nxt_nbc_names.specs.SourceSeen.{source_seen}
use Rattle.nxt_nbc_program.proofs.LinkLists.{links_pushed}
use Rattle.nxt_nbc_program.proofs.links.links_of.Goals as goal

pub loop-number-preserved : goal.loop-number-preserved
loop-number-preserved c =
    links_pushed (source_seen c.args.source.now) c.numbered-block-items.result.now c.loop-number.number c.block-item.result c.loop-number-test.true c.block-item.is
    c.loop-number.links.items c.push.new.self.items (record { dependents = c.in_ok-dependents.dependents; exits = c.in_ok-exits.exits }) c.in_ok-push.ensures.items
    c.loop-number.invariant c.in_ok-dependents.ensures c.in_ok-exits.ensures
