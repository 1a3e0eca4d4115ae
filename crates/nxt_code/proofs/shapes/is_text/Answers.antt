-- What is seen of a part tells it.
use Rattle.nxt_types.specs.Shapes.{tree}
use Rattle.nxt_types.specs.OperandRules.{Part}
use Rattle.nxt_code.proofs.shapes.is_text.Goals as goal

pub returns : goal.returns
returns c = c.is_text.ensures (Part (tree c.args.shape.now)) c.seen.ensures
