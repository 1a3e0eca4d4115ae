-- The entry that is too deep is the first.
use Rattle.std.proofs.Common.{◌∙◌, arith}
use Rattle.nxt_table.proofs.Entries.First.{deep_here}
use Rattle.nxt_table.proofs.enclosing.placed_entries.Goals as goal

pub returns-then-len-gt-MOST_DEPTH-clause-refused : goal.returns-then-len-gt-MOST_DEPTH-clause-refused
returns-then-len-gt-MOST_DEPTH-clause-refused c =
    c.loop-i.invariant.deep ∙ deep_here c.loop-i.needed c.loop-i.i c.loop-i.frames.items c.args.entries.now (omega arith) (omega arith)
