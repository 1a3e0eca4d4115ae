-- One more entry's leaves.
use Rattle.std.proofs.Common.{arith}
use Rattle.std.proofs.lemmas.Grind.{common_steps}
use Rattle.nxt_table.proofs.leaves.leaves_of.Goals as goal

pub loop-i-preserved : goal.loop-i-preserved
loop-i-preserved c = record {
  same = grind (arith, common_steps);
  places = grind (arith, common_steps);
}
