-- A list that keeps its own value.
use Rattle.nxt_lists.proofs.SameEntry.{kept_there}
use Rattle.nxt_lists.proofs.numbers.take_over.Goals as goal

pub returns-then-dest-list-clause-does : goal.returns-then-dest-list-clause-does
returns-then-dest-list-clause-does c = kept_there c.args.space.now c.args.dest c.args.list c.requires.sound c.if-dest-list.true
