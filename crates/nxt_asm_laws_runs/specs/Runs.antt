-- Parts whose image runs as a text.
use Rattle.nxt_types.specs.Shapes.{Members}
use Rattle.nxt_rxe.specs.declared.parts.Parts.{Parts}
use Rattle.nxt_model.specs.Image as image
use Rattle.nxt_model.specs.SameRuns.{RunAlike}
use Rattle.nxt_model.specs.TextProgram as text
use Rattle.nxt_model.specs.TextProgram.{Text}
use Rattle.nxt_model.specs.Values.{Value}
use Rattle.nxt_layout.specs.Start.{StartsAs, image_of}

-- the parts start with values from which their program has the text's lines and stops, whatever happens
pub record RunsAs (t : Text) (p : Parts) : Type 0 where
  pub shapes : Members
  pub values : Value
  pub starts : StartsAs p shapes values
  pub alike : RunAlike (text.program_of t) (image.program_of (image_of p shapes values))
