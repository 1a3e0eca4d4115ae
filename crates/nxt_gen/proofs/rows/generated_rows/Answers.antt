-- The script with 200 times two rows.
use Rattle.nxt_gen.specs.Generator.{generated_rows}
use Rattle.nxt_gen.proofs.rows.generated_rows.Goals as goal

pub returns : goal.returns
unfolding generated_rows
returns c = c.rows_of.ensures
