-- The arrays stay open.
use Rattle.std.proofs.lemmas.List.Elements.{All-set}
use Rattle.nxt_layout.specs.Inside.RowPasses.{ground_of}
use Rattle.nxt_layout.specs.Inside.Known.{IsOpen}
use Rattle.nxt_layout.proofs.reach.rows_through.Goals as goal

pub returns-in-Some-clause-open : goal.returns-in-Some-clause-open
returns-in-Some-clause-open c =
    All-set (IsOpen (ground_of c.args.space.now)) c.args.stack.now.items 0 (record { entry = c.in-Some.array.now.entry; elements = c.find.new.elements }) c.find.ensures.elements c.requires.open
