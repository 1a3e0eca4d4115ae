-- The text with 400 times three statements.
use Rattle.nxt_gen.specs.Generator.{generated_text}
use Rattle.nxt_gen.proofs.text.generated_text.Goals as goal

pub returns : goal.returns
unfolding generated_text
returns c = c.text_of.ensures
