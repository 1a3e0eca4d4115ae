use Rattle.std.proofs.Common.{◌≡◌, ◌++◌, [], drop}
use Rattle.nxt_model.specs.Nbc.Text.{once}
use Rattle.nxt_nbc_program.proofs.links.once.Given as goal

-- the numbers so far, each once, and those of the others that they are not
abbrev pub invariant-loop-number : goal.invariant-loop-number
invariant-loop-number l = l.firsts ++ once l.firsts (drop l.number-index l.numbers) ≡ once [] l.numbers
