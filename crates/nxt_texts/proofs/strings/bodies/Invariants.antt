-- The bodies of so many texts.
use Rattle.std.proofs.Common.{◌≡◌, take}
use Rattle.nxt_texts.specs.Texts.{bodies_at}
use Rattle.nxt_texts.proofs.strings.bodies.Given as goal

abbrev pub invariant-loop-source : goal.invariant-loop-source
invariant-loop-source l = l.bytes ≡ bodies_at l.space.vars (take l.source-index l.sources)
