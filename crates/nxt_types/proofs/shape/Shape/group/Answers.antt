-- A group's members have the trees of the shapes it was made of.
use Rattle.nxt_types.proofs.Laws.Trees.{trees_hidden}
use Rattle.nxt_types.proofs.shape.Shape.group.Goals as goal

pub returns : goal.returns
returns c = trees_hidden c.args.members
