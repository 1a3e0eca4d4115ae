-- What a telegram answers.
use Rattle.std.specs.Prelude.{◌≡◌}
use Rattle.nxt_model.specs.DirectCommands.{Direct}
use Rattle.nxt_direct.specs.declared.telegrams.Answer.{Answer}
use Rattle.nxt_direct.specs.Outcomes.{effect_on}

-- the effect on the program and the reply are those of the definition
pub record IsAnswer (a : Answer) (d : Direct) : Type 0 where
  pub effect : effect_on a.effect ≡ d.effect
  pub reply : a.reply ≡ d.reply
