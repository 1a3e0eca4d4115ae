-- What the table tells stands in the static bytes.
use Rattle.nxt_types.specs.Shapes.{tree}
use Rattle.nxt_space.proofs.Parts.Bounds.{variable_there}
use Rattle.nxt_space.proofs.variables.variable.Goals as goal

pub returns-clause-found : goal.returns-clause-found
returns-clause-found c = variable_there c.args.toc.now c.args.heap.now.lists c.args.i (tree c.in_ok-shape.shape.now) c.requires.stand c.in_ok-shape.ensures
